-- The promise over every list of calls: what holds of a job just made, after any calls have been tried on it in turn.
-- m is the job number, `letter`, n, R and M are kind letter, dimension, reach and set of the augmenter, v the job's view after the calls.
use Rattle.std.specs.Prelude.{◌≡◌, ℕ, ◌+◌, ◌<◌, ◌≤◌, List, [], ◌∷◌, length, take, slice_index_or, Ok, Err, Result}
use Rattle.rows.specs.Packed.{packed}
use Rattle.rows.specs.Prices.{price, ones, planes}
use Rattle.augmenter.specs.Questions.{Cheapest}
use Rattle.plans.specs.Bytes.{plan_bytes}
use Rattle.job.specs.declared.parts.State.TheVariants.{Finished}
use Rattle.job.specs.declared.tries.Call.{Call}
use Rattle.job.specs.declared.tries.Call.TheVariants.{Advance}
use Rattle.job.specs.declared.tries.Outcome.{Outcome}
use Rattle.job.specs.declared.tries.Outcome.TheVariants.{Written, Withdrawn}
use Rattle.rows.specs.declared.refusals.Refusal.{Refusal}
use Rattle.job.specs.Tries.{TriedCall}
use Rattle.job.specs.Views.{View, IsBegun, blank, margin_at}
use Rattle.job.specs.Soundness.{Sound, Near}
use Rattle.runs.specs.History.{Turn, turns, improvements, closings, acceptances, ones_of_rows, present, advances, writings}

-- u is the plan of a member that no member undercuts at the present row, the first plan of that row, with the totals counted over h
pub record PlanAfter (letter n m : ℕ) (M : List ℕ → Type 0) (h : List Turn) (u : List ℕ) : Type 0 where
  pub point : List ℕ
  pub member : M point
  pub cheapest : Cheapest M (present h) point
  pub first : writings h ≡ 0
  pub bytes : u ≡ plan_bytes (record {
    kind = letter;
    dimension = n;
    number = m;
    point = packed point;
    price = price (present h) point;
    asked = improvements h + closings h;
    improved = improvements h;
  })

-- what holds of a turn after the history h: a written plan is such a plan, and advance is refused only where no row was accepted
pub record TurnAfter (letter n m : ℕ) (M : List ℕ → Type 0) (h : List Turn) (t : Turn) : Type 0 where
  pub plan : (u : List ℕ) → t.1 ≡ Ok (Written u) → PlanAfter letter n m M h u
  pub answered : (e : Refusal) → t.0 ≡ Advance → t.1 ≡ Err e → acceptances h ≡ 0

pub record Promised (letter n m : ℕ) (M : List ℕ → Type 0) (v : View) (h : List Turn) : Type 0 where
  -- members and counts
  pub begun : 1 ≤ acceptances h → IsBegun v.state
  pub not_begun : IsBegun v.state → 1 ≤ acceptances h
  pub member : IsBegun v.state → M v.point
  pub rows : v.totals.rows ≡ acceptances h
  pub improved : v.totals.improved ≡ improvements h
  pub closed : v.totals.closed ≡ closings h
  pub asked : v.totals.asked ≡ improvements h + closings h
  -- bounds
  pub few : improvements h ≤ ones_of_rows h
  pub ends : 1 ≤ acceptances h → ones (present h) + planes (present h) ≤ advances h → v.state ≡ Finished
  -- nearness
  pub row : IsBegun v.state → v.prices ≡ present h
  pub near : IsBegun v.state → Near M v (margin_at (present h) v.state)
  pub finished : v.state ≡ Finished → margin_at (present h) v.state ≡ 0
  -- plans, and that no question was refused
  pub each : (i : ℕ) → i < length h → TurnAfter letter n m M (take i h) (slice_index_or h i (Advance, Ok Withdrawn))

-- each call in turn, from the first view to the last: each answered what its own promise says for the state then
abbrev pub Runs : ℕ → ℕ → ℕ → (List ℕ → Type 0) → View → List Call → List (Result Outcome Refusal) → View → Type 0
Runs letter n R M v [] [] w = v ≡ w
Runs letter n R M v [] (o ∷ os) w = ⊥
Runs letter n R M v (c ∷ cs) [] w = ⊥
Runs letter n R M v (c ∷ cs) (o ∷ os) w = (u : View) × (TriedCall letter n R M v c o u × Runs letter n R M u cs os w)

-- a job with the number m, made and then asked the calls cs in turn, gave the outcomes os and shows v
pub record Tried (letter n R m : ℕ) (M : List ℕ → Type 0) (cs : List Call) (os : List (Result Outcome Refusal)) (v : View) : Type 0 where
  pub long : length os ≡ length cs
  pub runs : Runs letter n R M (blank m n) cs os v
  pub sound : Sound n R M v
  pub promise : Promised letter n m M v (turns cs os)
