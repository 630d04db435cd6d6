use Rattle.std.proofs.Common.{◌≡◌, ◌++◌, map, length, take, drop}
use Rattle.std.specs.List.{flat_map}
use Rattle.commands.specs.Commands.{bytes, said}
use Rattle.commands.proofs.writer.put_all.Given as goal

abbrev pub invariant-loop-command : goal.invariant-loop-command
invariant-loop-command l =
    (l.at ≡ length (flat_map bytes (map said (take l.command-index l.commands)))) ×
    (l.buffer ≡ flat_map bytes (map said (take l.command-index l.commands)) ++ drop l.at l.initial.buffer)
