use Rattle.std.proofs.Common.{◌≡◌, length, take, drop}
use Rattle.rows.specs.Prices.{row_at}
use Rattle.rows.proofs.prices.row_at_plane.Given as goal

abbrev pub invariant-loop-p : goal.invariant-loop-p
invariant-loop-p l = (length l.p-items ≡ 128) × (take l.p-index l.p-items ≡ row_at l.plane (take l.p-index l.prices)) × (drop l.p-index l.p-items ≡ drop l.p-index l.prices)
