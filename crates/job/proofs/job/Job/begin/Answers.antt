use Rattle.job.specs.Jobs.{view}
use Rattle.job.proofs.Sounds.{begin_keeps}
use Rattle.job.proofs.job.Job.begin.Goals as goal

pub returns : goal.returns
returns g c =
    let A = g.A.Augmenter in
    let L = g.met.A.Augmenter in
    let a = c.args.self.now.below in
    record {
      below = c.start.ensures.below;
      moves = c.start.ensures.moves;
      keeps = begin_keeps (A.dim a) (A.reaches a) (A.Member a) (L.dim_fits a) (L.reach_fits a) (L.member_is_point a) (view c.args.self.now) _ _ _ _ c.start.ensures.moves;
    }
