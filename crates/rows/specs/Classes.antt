-- Classes of records: the letter of each, and for how many days a unit of it is kept.
-- A price by class is units times days.
use Rattle.std.specs.Prelude.{◌≡◌, ℕ, List, cond, Some, None, Option, ◌==◌, Result, MatchResult, codes}
use Rattle.rows.specs.declared.refusals.Fault.{Fault}
use Rattle.rows.specs.declared.refusals.Fault.TheVariants.{UnknownClass}
use Rattle.rows.specs.declared.classes.Class.{Class}
use Rattle.rows.specs.declared.classes.Class.TheVariants.{DoorEvents, KeypadErrors, Heartbeats}

-- d door events, k keypad errors, h heartbeats
abbrev pub class_of : ℕ → Option Class
class_of x = cond (x == 100) (Some DoorEvents) (cond (x == 107) (Some KeypadErrors) (cond (x == 104) (Some Heartbeats) None))

abbrev pub days : Class → ℕ
days DoorEvents = 2555
days KeypadErrors = 90
days Heartbeats = 7

-- the class of a letter, or the fault of a letter that no class has
abbrev pub Classified : ℕ → Result Class Fault → Type 0
Classified x r = MatchResult r (λ c. class_of x ≡ Some c) (λ e. (class_of x ≡ None) × (e ≡ UnknownClass))

-- a class in words
abbrev pub name : Class → List ℕ
name DoorEvents = codes "door events"
name KeypadErrors = codes "keypad errors"
name Heartbeats = codes "heartbeats"
