use Rattle.std.proofs.Common.{◌≡◌, length, take}
use Rattle.reports.specs.Marks.{digits}
use Rattle.reports.proofs.marks.digits_of.Given as goal

abbrev pub invariant-loop-i : goal.invariant-loop-i
invariant-loop-i l = (length l.text ≡ 64) × (take l.i l.text ≡ digits (take l.i l.piece))
