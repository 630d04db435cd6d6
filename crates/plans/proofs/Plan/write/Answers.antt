use Rattle.std.proofs.Common.{◌≡◌, Err, ◌∙◌, rules}
use Rattle.plans.proofs.Written.{commands_are, written, refused}
use Rattle.plans.proofs.Plan.write.Goals as goal

pub returns : goal.returns
returns c =
    let p = c.args.self.now in
    let is = c.commands.ensures ∙ commands_are p _ _ _ _ _ _ _ c.operands.ensures.bytes c.operands.ensures.numbers in
    written p (search rules) _ is _ _ _ c.in_ok-write_run.ensures

pub returns-in_err-write_run : goal.returns-in_err-write_run
returns-in_err-write_run c =
    let p = c.args.self.now in
    let is = c.commands.ensures ∙ commands_are p _ _ _ _ _ _ _ c.operands.ensures.bytes c.operands.ensures.numbers in
    let same : c.from_residual.result ≡ Err c.in_err-write_run.field-0.0 = search rules in
    rw same (refused p (search rules) _ is _ _ _ c.in_err-write_run.ensures)
