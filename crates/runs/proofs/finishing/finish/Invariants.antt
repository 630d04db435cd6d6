use Rattle.std.proofs.Common.{◌≡◌}
use Rattle.job.specs.Jobs.{view, SoundJob}
use Rattle.runs.proofs.Ends.{Going}
use Rattle.runs.proofs.finishing.finish.Given as goal

abbrev pub invariant-loop : goal.invariant-loop
invariant-loop g l =
    (l.job.below ≡ l.initial.job.below) ×
    (SoundJob l.initial.job →
    Going (g.A.Augmenter.dim l.initial.job.below) (g.A.Augmenter.reaches l.initial.job.below) (g.A.Augmenter.Member l.initial.job.below) (view l.initial.job) (view l.job) l.counter) ×
    (l.job.number ≡ l.initial.job.number) ×
    (l.job.ticketing ≡ l.initial.job.ticketing)
