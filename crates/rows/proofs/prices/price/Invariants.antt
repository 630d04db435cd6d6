use Rattle.std.proofs.Common.{◌≡◌, ◌+◌, ◌*◌, ◌^◌, ◌≤◌, length, unsigned_abs, ◌+ℤ◌}
use Rattle.rows.specs.Prices.{price}
use Rattle.rows.proofs.prices.price.Given as goal

abbrev pub invariant-loop-p : goal.invariant-loop-p
invariant-loop-p l =
    (l.sum +ℤ price l.p-iterator.a.rest.now l.p-iterator.b.rest.now ≡ price l.prices l.point)
    × (unsigned_abs l.sum + length l.p-iterator.a.rest.now * 2 ^ 63 ≤ length l.prices * 2 ^ 63)
