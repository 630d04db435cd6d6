use Rattle.std.proofs.Common.{ℕ, replicate, Ok, refl, ap, subst}
use Rattle.job.specs.Jobs.{view}
use Rattle.job.specs.Tickets.{WrotePlan}
use Rattle.runs.proofs.Planned.{concluded}
use Rattle.runs.proofs.planning.conclude.Goals as goal

pub returns : goal.returns
returns g c =
    let A = g.A.Augmenter in
    let a = c.args.job.now.below in
    let b = view c.finish.new.job in
    let d = view c.write_plan.new.self in
    let u = c.write_plan.new.buffer in
    let finish = c.in_ok-finish.ensures in
    let W : ℕ → Type 0 = λ n. WrotePlan A.KIND n b (replicate 46 0) (Ok tt) d u in
    concluded A.KIND (A.dim a) (A.reaches a) (A.Member a) (view c.args.job.now) b d (replicate 46 0) u refl c.requires (finish.ends c.requires.sound) finish.number
    (subst W (ap A.dim finish.below) c.in_ok-write_plan.ensures.moves)
