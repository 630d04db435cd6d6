-- A job on the way to its finish: what holds after so many advances.
use Rattle.std.proofs.Common.{◌≡◌, ℕ, zero, suc, ◌+◌, ◌≤◌, List, refl}
use Rattle.job.specs.declared.parts.State.TheVariants.{NotBegun}
use Rattle.job.specs.Soundness.{Sound, left}
use Rattle.job.specs.Views.{View, IsBegun, IsOpen, opened}
use Rattle.runs.specs.Finishing.{planes_left}

-- the job a after i advances, which shows b
pub record Going (n R : ℕ) (M : List ℕ → Type 0) (a b : View) (i : ℕ) : Type 0 where
  pub sound : Sound n R M b
  pub begun : IsBegun a.state → IsBegun b.state
  pub idle : a.state ≡ NotBegun → b ≡ a
  pub row : b.prices ≡ a.prices
  pub rows : b.totals.rows ≡ a.totals.rows
  pub to_come : IsOpen b.state → left b + i ≤ left a
  pub closed : b.totals.closed + planes_left b.state ≡ a.totals.closed + planes_left a.state
  pub asked : b.totals.asked + left b ≤ a.totals.asked + left a

pub planes_opened : (k : ℕ) → planes_left (opened k) ≡ k
planes_opened zero = refl
planes_opened (suc k) = refl
