use Rattle.std.proofs.Common.{◌≡◌, [], length, sym, ap, ◌∙◌}
use Rattle.std.proofs.lemmas.List.{nil_from_length}
use Rattle.commands.specs.Commands.{width_of}
use Rattle.commands.proofs.Runs.{pair_same}
use Rattle.commands.proofs.command.with_operand.Goals as goal

pub returns-in-Z : goal.returns-in-Z
returns-in-Z c =
    let e = sym (ap width_of c.in-Z.is) ∙ c.requires in
    let z : length c.args.operand.now ≡ 0 = cc in
    pair_same 90 c.args.letter [] c.args.operand.now (sym c.in-Z.is) (sym (nil_from_length _ z))
