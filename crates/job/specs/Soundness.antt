-- Soundness: what holds of every job reached from its making by calls, and what it gives: members, nearness, an end.
-- The contracts of the making, of begin and of advance say that they keep it; that all six calls do is said over lists of calls, in the crate above.
use Rattle.std.specs.Prelude.{◌≡◌, ℕ, suc, ◌+◌, ◌*◌, ◌<◌, ◌≤◌, List, length, ℤ, pos, ◌+ℤ◌, ◌≤ℤ◌, Ok, Err, Result, ◌≢◌}
use Rattle.rows.specs.Prices.{price, weight, ones, planes, row_at, bits, ones_below}
use Rattle.rows.specs.declared.refusals.Refusal.{Refusal}
use Rattle.augmenter.specs.Questions.{Cheapest}
use Rattle.job.specs.declared.parts.State.{State}
use Rattle.job.specs.declared.parts.State.TheVariants.{NotBegun, Open, Finished}
use Rattle.job.specs.declared.parts.Step.{Step}
use Rattle.job.specs.declared.parts.Totals.{Totals}
use Rattle.job.specs.declared.parts.Ticketing.TheVariants.{Unissued}
use Rattle.job.specs.Views.{View, IsOpen, left_at}

-- how the point stands among the members. At the open plane k no member is cheaper by more than the magnitudes that have
-- bit k, less the improvements made there; in a finished job no member is cheaper at the full prices
abbrev pub Standing : ℕ → (List ℕ → Type 0) → List ℤ → List ℕ → State → Type 0
Standing R M ps x NotBegun = Unit {0}
Standing R M ps x (Open k j) =
    M x × (weight ps ≤ R) × (k < planes ps) × (j ≤ bits k ps) ×
    ((y : List ℕ) → M y → (price (row_at k ps) x +ℤ pos j) ≤ℤ (price (row_at k ps) y +ℤ pos (bits k ps)))
Standing R M ps x Finished = M x × (weight ps ≤ R) × Cheapest M ps x

-- the totals: each row brings at most 128 · 40 improvements and 40 planes, and what the open row may still bring is kept free
abbrev pub Spent : List ℤ → Totals → State → Type 0
Spent ps t NotBegun = (t.improved ≡ 0) × (t.closed ≡ 0) × (t.rows ≡ 0)
Spent ps t (Open k j) = (t.improved + ones_below (suc k) ps ≤ t.rows * 5120 + j) × (t.closed + suc k ≤ t.rows * 40)
Spent ps t Finished = (t.improved ≤ t.rows * 5120) × (t.closed ≤ t.rows * 40)

pub record Sound (n R : ℕ) (M : List ℕ → Type 0) (v : View) : Type 0 where
  pub point_long : length v.point ≡ n
  pub prices_long : length v.prices ≡ n
  pub stands : Standing R M v.prices v.point v.state
  pub few_rows : v.totals.rows ≤ 1000
  pub asked : v.totals.asked ≡ v.totals.improved + v.totals.closed
  pub spent : Spent v.prices v.totals v.state
  pub ticket : (v.ticketing ≢ Unissued) → v.state ≡ Finished

-- the most questions still to come
abbrev pub left : View → ℕ
left v = left_at v.prices v.state

-- what begin gives to a sound job: it stays sound, and the bound on the questions to come is the ones and the planes of the row
pub record BeginKeeps (n R : ℕ) (M : List ℕ → Type 0) (ps : List ℤ) (r : Result (Unit {0}) Refusal) (b : View) : Type 0 where
  pub sound : Sound n R M b
  pub bound : r ≡ Ok tt → left b ≡ ones ps + planes ps

-- what advance gives to a sound job: it stays sound, it is refused only where it has not begun, and each question leaves fewer to come
pub record AdvanceKeeps (n R : ℕ) (M : List ℕ → Type 0) (a : View) (r : Result Step Refusal) (b : View) : Type 0 where
  pub sound : Sound n R M b
  pub refused : (e : Refusal) → r ≡ Err e → a.state ≡ NotBegun
  pub falls : IsOpen a.state → left b < left a

-- no member is cheaper than the point by more than the margin m
abbrev pub Near : (List ℕ → Type 0) → View → ℕ → Type 0
Near M v m = (y : List ℕ) → M y → price v.prices v.point ≤ℤ (price v.prices y +ℤ pos m)
