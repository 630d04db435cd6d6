-- A job run to its finish: what it shows then. a is the view before, b after.
-- The job is sound, as every job is that is reached from its making by calls.
use Rattle.std.specs.Prelude.{◌≡◌, ℕ, suc, ◌+◌, ◌≤◌, List, Ok, Err, Result}
use Rattle.rows.specs.declared.refusals.Fault.TheVariants.{NotBegun as NotBegunFault}
use Rattle.rows.specs.declared.refusals.Refusal.{Refusal}
use Rattle.augmenter.specs.Questions.{Cheapest}
use Rattle.augmenter.specs.declared.Augmenter.{Ghosts}
use Rattle.job.specs.declared.job.Job.{Job}
use Rattle.job.specs.declared.parts.State.{State}
use Rattle.job.specs.declared.parts.State.TheVariants.{NotBegun, Open, Finished}
use Rattle.job.specs.Jobs.{view, SoundJob}
use Rattle.job.specs.Soundness.{Sound, left}
use Rattle.job.specs.Views.{View, IsBegun}

-- the planes that are not closed yet
abbrev pub planes_left : State → ℕ
planes_left NotBegun = 0
planes_left (Open k j) = suc k
planes_left Finished = 0

pub record Finishes (n R : ℕ) (M : List ℕ → Type 0) (a b : View) : Type 0 where
  pub finished : b.state ≡ Finished
  pub sound : Sound n R M b
  pub row : b.prices ≡ a.prices
  pub member : M b.point
  pub cheapest : Cheapest M a.prices b.point
  pub closed : b.totals.closed ≡ a.totals.closed + planes_left a.state
  pub asked : b.totals.asked ≤ a.totals.asked + left a
  pub rows : b.totals.rows ≡ a.totals.rows

abbrev pub Finish : ℕ → ℕ → (List ℕ → Type 0) → View → Result (Unit {0}) Refusal → View → Type 0
Finish n R M a (Ok _) b = IsBegun a.state × Finishes n R M a b
Finish n R M a (Err e) b = (a.state ≡ NotBegun) × (e ≡ record { fault = NotBegunFault; place = 0 }) × (b ≡ a)

abbrev pub FinishBy : {X : Type 0} {G : Ghosts X} → Job X G → Result (Unit {0}) Refusal → Job X G → Type 0
FinishBy {X} {G} a e b = SoundJob a → Finish (G.dim a.below) (G.reaches a.below) (G.Member a.below) (view a) e (view b)
