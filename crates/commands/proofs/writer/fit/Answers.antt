use Rattle.std.proofs.Common.{◌≡◌, ℕ, List, map, length, refl, ap, arith}
use Rattle.std.specs.List.{flat_map}
use Rattle.std.proofs.lemmas.List.{take_all}
use Rattle.commands.specs.declared.command.Command.{Command}
use Rattle.commands.specs.Commands.{bytes, said}
use Rattle.commands.proofs.Writing.{rest_more, rest_short}
use Rattle.commands.proofs.writer.fit.Goals as goal

pub returns-then-rest-operand : goal.returns-then-rest-operand
returns-then-rest-operand c = (
  (λ e. absurd (let z : ◌≡◌ {A = ℕ} 0 1 = cc in omega arith)),
  λ h. absurd (rest_short c.args.commands.now c.loop-command.command-index c.args.room c.loop-command.rest _ _ c.parts.ensures c.loop-command-test.true c.loop-command.invariant c.if-rest-operand.true h),
)

pub loop-command-preserved : goal.loop-command-preserved
loop-command-preserved c = rest_more c.args.commands.now c.loop-command.command-index c.args.room c.loop-command.rest _ _ c.parts.ensures c.loop-command-test.true c.loop-command.invariant c.if-rest-operand.false

pub returns : goal.returns
returns c =
    let e = ap (λ (ds : List Command). length (flat_map bytes (map said ds))) (take_all c.loop-command.command-index c.args.commands.now (omega arith)) in
    ((λ _. omega arith), λ _. refl)
