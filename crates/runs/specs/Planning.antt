-- One problem planned whole: a job made, begun, run to its finish, and its plan written.
-- m is the job number, `letter`, n, R and M are kind letter, dimension, reach and set of the augmenter; s is the start, ps the prices.
use Rattle.std.specs.Prelude.{◌≡◌, ℕ, ◌+◌, ◌≤◌, List, ℤ, Ok, Err, Result}
use Rattle.rows.specs.Packed.{packed}
use Rattle.rows.specs.Prices.{price, ones, planes}
use Rattle.rows.specs.Refusals.{Passes, RefusedBy}
use Rattle.rows.specs.declared.refusals.Refusal.{Refusal}
use Rattle.augmenter.specs.Questions.{checks, Cheapest}
use Rattle.augmenter.specs.declared.Augmenter.{Ghosts}
use Rattle.plans.specs.Bytes.{plan_bytes}
use Rattle.job.specs.declared.job.Job.{Job}
use Rattle.job.specs.Jobs.{view}
use Rattle.job.specs.declared.parts.Ticketing.TheVariants.{Unissued}
use Rattle.job.specs.Soundness.{Sound, left}
use Rattle.job.specs.Views.{View, opened}

-- u is the plan of a member that no member undercuts; the improvements are at most the ones of the row, and each plane took one question more
pub record Planned (letter n m : ℕ) (M : List ℕ → Type 0) (ps : List ℤ) (u : List ℕ) : Type 0 where
  pub point : List ℕ
  pub improvements : ℕ
  pub member : M point
  pub cheapest : Cheapest M ps point
  pub few : improvements ≤ ones ps
  pub bytes : u ≡ plan_bytes (record {
    kind = letter;
    dimension = n;
    number = m;
    point = packed point;
    price = price ps point;
    asked = improvements + planes ps;
    improved = improvements;
  })

-- the job v has begun with its first row, and asked nothing yet
pub record JustBegun (n R : ℕ) (M : List ℕ → Type 0) (v : View) : Type 0 where
  pub sound : Sound n R M v
  pub state : v.state ≡ opened (planes v.prices)
  pub asked : v.totals.asked ≡ 0
  pub closed : v.totals.closed ≡ 0
  pub ticketing : v.ticketing ≡ Unissued
  pub bound : left v ≡ ones v.prices + planes v.prices

abbrev pub JustBegunBy : {X : Type 0} {G : Ghosts X} → Job X G → Type 0
JustBegunBy {X} {G} a = JustBegun (G.dim a.below) (G.reaches a.below) (G.Member a.below) (view a)

-- the plan of such a job; there is no refusal
abbrev pub Concluded : ℕ → ℕ → (List ℕ → Type 0) → View → Result (List ℕ) Refusal → Type 0
Concluded letter n M v (Ok u) = Planned letter n v.number M v.prices u
Concluded letter n M v (Err e) = ⊥

abbrev pub ConcludedBy : {X : Type 0} {G : Ghosts X} → Job X G → Result (List ℕ) Refusal → Type 0
ConcludedBy {X} {G} a r = Concluded G.KIND (G.dim a.below) (G.Member a.below) (view a) r

-- a plan exactly where start and prices pass the checks of a question, else the refusal of the first that they do not
abbrev pub PlanOf : ℕ → ℕ → ℕ → ℕ → (List ℕ → Type 0) → List ℕ → List ℤ → Result (List ℕ) Refusal → Type 0
PlanOf letter n R m M s ps (Ok u) = Passes (checks n R M ps s n) × Planned letter n m M ps u
PlanOf letter n R m M s ps (Err e) = RefusedBy (checks n R M ps s n) e
