use Rattle.std.proofs.Common.{◌≡◌, ◌*◌, ◌≤◌, take}
use Rattle.rows.specs.Prices.{ones_below}
use Rattle.rows.proofs.prices.ones_below.Given as goal

abbrev pub invariant-loop-p : goal.invariant-loop-p
invariant-loop-p l = (l.low ≡ ones_below l.plane (take l.p-index l.prices)) × (l.low ≤ l.p-index * 64)
