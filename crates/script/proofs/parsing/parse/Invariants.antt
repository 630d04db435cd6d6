use Rattle.std.proofs.Common.{◌≡◌, ◌-◌, length}
use Rattle.script.proofs.Reading.{Going}
use Rattle.script.proofs.parsing.parse.Given as goal

abbrev pub invariant-loop-place : goal.invariant-loop-place
invariant-loop-place l = (l.reader.script.now ≡ l.script) × Going l.script l.reader.at l.draft

abbrev pub decreases-loop-place : goal.decreases-loop-place
decreases-loop-place l = length l.script - l.reader.at
