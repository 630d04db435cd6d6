use Rattle.std.proofs.Common.{◌≡◌, ◌++◌, take, drop}
use Rattle.turned.specs.Turns.{xor}
use Rattle.turned.proofs.turn_row.Given as goal

abbrev pub invariant-loop-i : goal.invariant-loop-i
invariant-loop-i l = take l.i l.out ++ xor (drop l.i l.row) (drop l.i l.marks) ≡ xor l.row l.marks
