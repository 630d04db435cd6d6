-- How far a parser is. These words are no part of what a script means: they only say what the parser's private functions keep.
-- cs are the commands taken so far, d and e a draft before and after one more, p and q a problem.
use Rattle.std.specs.Prelude.{◌≡◌, ℕ, cond, List, [], ◌∷◌, ◌++◌, map, Some, None, Ok, Err, Option, Result, ◌==◌}
use Rattle.rows.specs.Refusals.{Passes, RefusedBy}
use Rattle.rows.specs.declared.refusals.Fault.{Fault}
use Rattle.commands.specs.Commands.{Said}
use Rattle.script.specs.Scripts.{Continues, Means, command_checks, letter}
use Rattle.script.specs.declared.draft.Draft.{Draft}
use Rattle.script.specs.declared.problem.Problem.{Problem}
use Rattle.script.specs.declared.draft.Stage.{Stage}
use Rattle.script.specs.declared.draft.Stage.TheVariants.{Dimension, Kind, Members, Prices, Ending, Done}

-- the stage after a letter
abbrev pub next : Stage → ℕ → Option Stage
next Dimension x = cond (x == 78) (Some Kind) None
next Kind x = cond (x == 76) (Some Members) None
next Members x = cond (x == 80) (Some Members) (cond (x == 67) (Some Prices) (cond (x == 89) (Some Prices) (cond (x == 83) (Some Ending) None)))
next Prices x = cond (x == 67) (Some Prices) (cond (x == 89) (Some Prices) (cond (x == 83) (Some Ending) None))
next Ending x = cond (x == 90) (Some Done) None
next Done x = None

abbrev pub run : Option Stage → List ℕ → Option Stage
run None w = None
run (Some s) [] = Some s
run (Some s) (x ∷ w) = run (next s x) w

-- the draft d holds what the commands cs say: how far they are, and what they mean
pub record Holds (cs : List Said) (d : Draft) : Type 0 where
  pub stage : run (Some Dimension) (map letter cs) ≡ Some d.stage
  pub means : Means cs d.problem

-- the problem p, which the commands cs mean, adds a command c that may come next and becomes q, or refuses it by a fault, wherever it stands
abbrev pub Adds : Problem → Said → Result (Unit {0}) Fault → Problem → Type 0
Adds p c (Ok _) q = (cs : List Said) → Means cs p → Continues cs c → (a : ℕ) → Passes (command_checks a cs c) × Means (cs ++ c ∷ []) q
Adds p c (Err f) q = (cs : List Said) → Means cs p → Continues cs c → (a : ℕ) → RefusedBy (command_checks a cs c) (record { fault = f; place = a })

-- the draft d takes the command c and becomes e, or refuses it by a fault, wherever it stands
abbrev pub Takes : Draft → Said → Result (Unit {0}) Fault → Draft → Type 0
Takes d c (Ok _) e = (cs : List Said) → Holds cs d → (a : ℕ) → Passes (command_checks a cs c) × Holds (cs ++ c ∷ []) e
Takes d c (Err f) e = (cs : List Said) → Holds cs d → (a : ℕ) → RefusedBy (command_checks a cs c) (record { fault = f; place = a })
