use Rattle.std.proofs.Common.{◌≡◌, ◌+◌, map, length, take}
use Rattle.std.specs.List.{flat_map}
use Rattle.commands.specs.Commands.{bytes, said}
use Rattle.commands.proofs.writer.fit.Given as goal

abbrev pub invariant-loop-command : goal.invariant-loop-command
invariant-loop-command l = l.rest + length (flat_map bytes (map said (take l.command-index l.commands))) ≡ l.room
