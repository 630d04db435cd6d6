use Rattle.std.proofs.Common.{◌≡◌, ◌++◌, take, drop}
use Rattle.pinned.specs.Pins.{asked_prices}
use Rattle.pinned.proofs.ask_prices.Given as goal

abbrev pub invariant-loop-i : goal.invariant-loop-i
invariant-loop-i l = take l.i l.out ++ asked_prices l.penalty (drop l.i l.prices) (drop l.i l.pins) ≡ asked_prices l.penalty l.prices l.pins
