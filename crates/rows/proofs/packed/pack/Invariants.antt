use Rattle.std.proofs.Common.{◌≡◌, ℕ, ◌<◌, length, get_or}
use Rattle.rows.specs.Packed.{byte_of}
use Rattle.rows.proofs.packed.pack.Given as goal

abbrev pub invariant-loop-b : goal.invariant-loop-b
invariant-loop-b l = (length l.byte-items ≡ 16) × ((k : ℕ) → k < l.b → get_or l.byte-items k 0 ≡ byte_of l.row k)
