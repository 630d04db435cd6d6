-- The steps in words.
-- A step is what an advance that is not refused did.
use Rattle.std.specs.Prelude.{ℕ, List, codes}
use Rattle.job.specs.declared.parts.Step.{Step}
use Rattle.job.specs.declared.parts.Step.TheVariants.{Improved, Closed, Done}

abbrev pub step_name : Step → List ℕ
step_name Improved = codes "improved"
step_name Closed = codes "closed"
step_name Done = codes "finished"
