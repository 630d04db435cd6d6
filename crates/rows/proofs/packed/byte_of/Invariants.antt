use Rattle.std.proofs.Common.{◌≡◌}
use Rattle.rows.proofs.Packing.{from_digit}
use Rattle.rows.proofs.packed.byte_of.Given as goal

abbrev pub invariant-loop-j : goal.invariant-loop-j
invariant-loop-j l = l.sum ≡ from_digit l.row l.byte l.j
