use Rattle.std.proofs.Common.{◌≡◌, take}
use Rattle.job.specs.Jobs.{view}
use Rattle.runs.proofs.Lists.{Gone}
use Rattle.runs.proofs.try_on.Given as goal

abbrev pub invariant-loop-i : goal.invariant-loop-i
invariant-loop-i g l =
    Gone g.A.Augmenter.KIND (g.A.Augmenter.dim l.initial.job.below) (g.A.Augmenter.reaches l.initial.job.below) l.initial.job.number (g.A.Augmenter.Member l.initial.job.below) (take l.i l.calls) (take l.i l.outcome-items) (view l.job) ×
    (l.job.below ≡ l.initial.job.below)
