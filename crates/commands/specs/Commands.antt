-- Commands as they stand in bytes: a letter, and an operand of the width that the letter decides.
-- Letters are ASCII codes; each line of the table names its letter and what the operand says.
use Rattle.std.specs.Prelude.{◌≡◌, ℕ, cond, List, [], ◌∷◌, length, Some, None, Option, ◌==◌}
use Rattle.commands.specs.declared.command.Command.{Command}
use Rattle.commands.specs.declared.command.Command.TheVariants.{Dimension, Reach, ListedRow, FlowNodes, GraphNodes, Arc, Balance, Classes, Class, Capacity, Price, Units, Start, End, Kind, JobNumber, Point, Cost, Asked, Improved, Refused}

-- the letters and the bytes of their operands
abbrev pub widths : List (ℕ × ℕ)
widths =
    (78, 1) ∷  -- N dimension 1
    (76, 8) ∷  -- L reach 8
    (80, 16) ∷  -- P listed row 16
    (70, 1) ∷  -- F nodes 1
    (71, 1) ∷  -- G nodes 1
    (65, 2) ∷  -- A tail 1, head 1
    (68, 2) ∷  -- D node 1, signed balance 1
    (72, 1) ∷  -- H classes 1
    (85, 1) ∷  -- U class 1
    (86, 2) ∷  -- V class 1, capacity 1
    (67, 9) ∷  -- C coordinate 1, signed price 8
    (89, 6) ∷  -- Y coordinate 1, class letter 1, units 4
    (83, 16) ∷  -- S start 16
    (90, 0) ∷  -- Z none
    (75, 1) ∷  -- K kind letter 1
    (74, 4) ∷  -- J job number 4
    (88, 16) ∷  -- X point 16
    (77, 8) ∷  -- M signed price 8
    (81, 4) ∷  -- Q asked 4
    (73, 4) ∷  -- I improved 4
    (69, 5) ∷  -- E refusal 1, place 4
    []

abbrev pub looked_up : List (ℕ × ℕ) → ℕ → Option ℕ
looked_up [] x = None
looked_up (l ∷ ls) x = cond (x == l.0) (Some l.1) (looked_up ls x)

abbrev pub width_of : ℕ → Option ℕ
width_of x = looked_up widths x

-- a command as it stands: its letter and its operand
abbrev pub Said : Type 0
Said = ℕ × List ℕ

abbrev pub bytes : Said → List ℕ
bytes c = c.0 ∷ c.1

-- it has the operand bytes that its letter asks for
abbrev pub Whole : Said → Type 0
Whole c = width_of c.0 ≡ Some (length c.1)

-- what a command says
abbrev pub said : Command → Said
said (Dimension o) = (78, o.now)
said (Reach o) = (76, o.now)
said (ListedRow o) = (80, o.now)
said (FlowNodes o) = (70, o.now)
said (GraphNodes o) = (71, o.now)
said (Arc o) = (65, o.now)
said (Balance o) = (68, o.now)
said (Classes o) = (72, o.now)
said (Class o) = (85, o.now)
said (Capacity o) = (86, o.now)
said (Price o) = (67, o.now)
said (Units o) = (89, o.now)
said (Start o) = (83, o.now)
said End = (90, [])
said (Kind o) = (75, o.now)
said (JobNumber o) = (74, o.now)
said (Point o) = (88, o.now)
said (Cost o) = (77, o.now)
said (Asked o) = (81, o.now)
said (Improved o) = (73, o.now)
said (Refused o) = (69, o.now)
