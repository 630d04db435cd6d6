use Rattle.std.proofs.Common.{◌≡◌, ◌≤◌, take}
use Rattle.pinned.specs.Pins.{pin_count}
use Rattle.pinned.proofs.count_pins.Given as goal

abbrev pub invariant-loop-entry : goal.invariant-loop-entry
invariant-loop-entry l = (l.count ≡ pin_count (take l.entry-index l.row)) × (l.count ≤ l.entry-index)
