use Rattle.job.specs.Jobs.{view}
use Rattle.job.proofs.Sounds.{advance_keeps}
use Rattle.job.proofs.job.Job.advance.Goals as goal

pub returns-in-Open : goal.returns-in-Open
returns-in-Open g c =
    let A = g.A.Augmenter in
    let L = g.met.A.Augmenter in
    let a = c.args.self.now.below in
    record {
      below = c.ask.ensures.below;
      moves = c.ask.ensures.moves;
      keeps = advance_keeps (A.dim a) (A.reaches a) (A.Member a) (L.dim_fits a) (L.reach_fits a) (L.member_is_point a) (view c.args.self.now) _ _ c.ask.ensures.moves;
    }
