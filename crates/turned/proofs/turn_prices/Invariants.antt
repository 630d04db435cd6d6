use Rattle.std.proofs.Common.{◌≡◌, ◌++◌, take, drop}
use Rattle.turned.specs.Turns.{turned_prices}
use Rattle.turned.proofs.turn_prices.Given as goal

abbrev pub invariant-loop-i : goal.invariant-loop-i
invariant-loop-i l = take l.i l.out ++ turned_prices (drop l.i l.prices) (drop l.i l.marks) ≡ turned_prices l.prices l.marks
