use Rattle.std.proofs.Common.{◌≡◌, ◌-◌, length}
use Rattle.show.proofs.show_readable.Given as goal

abbrev pub invariant-loop-place : goal.invariant-loop-place
invariant-loop-place l = l.reader.script.now ≡ l.run

abbrev pub decreases-loop-place : goal.decreases-loop-place
decreases-loop-place l = length l.run - l.reader.at
