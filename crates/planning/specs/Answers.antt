-- What a script is answered: for every byte string, the plan of a listed row that no listed row undercuts, or one refusal.
-- s is a script and p the problem that it describes; the plan is that of job 1 over a listed set, kind letter L, 76.
use Rattle.std.specs.Prelude.{◌≡◌, ℕ, ◌≤◌, ◌⊎◌, List, [], ◌∷◌, take, ℤ, Ok, Err, Result}
use Rattle.rows.specs.Packed.{unpacked}
use Rattle.rows.specs.Prices.{weight}
use Rattle.rows.specs.Refusals.{Check, Passes, RefusedBy, ask}
use Rattle.rows.specs.declared.refusals.Fault.TheVariants.{Weight, NotMember}
use Rattle.rows.specs.declared.refusals.Refusal.{Refusal}
use Rattle.listed.specs.Lists.{ListedIn, making_checks}
use Rattle.runs.specs.Planning.{Planned}
use Rattle.script.specs.Scripts.{Describes, Refuses, listed_rows}
use Rattle.script.specs.declared.problem.Problem.{Problem}
use Rattle.planning.specs.Bytes.{Answer, refusal_bytes}

-- the members of the set that a problem lists, its prices and its start
abbrev pub Member : Problem → List ℕ → Type 0
Member p x = ListedIn p.dimension (listed_rows p) x

abbrev pub prices_in : Problem → List ℤ
prices_in p = take p.dimension p.prices

abbrev pub start_in : Problem → List ℕ
start_in p = unpacked p.dimension p.start

-- the checks of a beginning that a described problem can still fail: the prices weigh no more than the reach, and the start is a listed row
abbrev pub start_checks : Problem → List Check
start_checks p = ask Weight (weight (prices_in p) ≤ p.reach) ∷ ask NotMember (Member p (start_in p)) ∷ []

-- u is the plan of a listed row that no listed row undercuts
abbrev pub Plans : Problem → List ℕ → Type 0
Plans p u = Passes (start_checks p) × Planned 76 p.dimension 1 (Member p) (prices_in p) u

-- planning any problem, one that no script describes too: its set is made first
abbrev pub Solves : Problem → Result (List ℕ) Refusal → Type 0
Solves p (Ok u) = Passes (making_checks p.dimension p.reach (listed_rows p)) × Plans p u
Solves p (Err e) =
    RefusedBy (making_checks p.dimension p.reach (listed_rows p)) e
    ⊎ (Passes (making_checks p.dimension p.reach (listed_rows p)) × RefusedBy (start_checks p) e)

-- planning what a script describes
abbrev pub Solved : List ℕ → Result (List ℕ) Refusal → Type 0
Solved s (Ok u) = (p : Problem) × (Describes s p × Plans p u)
Solved s (Err e) = Refuses s e ⊎ ((p : Problem) × (Describes s p × RefusedBy (start_checks p) e))

-- the answer to a script
abbrev pub Answers : List ℕ → Answer → Type 0
Answers s (Ok u) = Solved s (Ok u)
Answers s (Err u) = (e : Refusal) × ((u ≡ refusal_bytes e) × Solved s (Err e))
