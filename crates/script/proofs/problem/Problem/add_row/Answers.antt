use Rattle.std.proofs.Common.{◌∙◌}
use Rattle.std.proofs.lemmas.Result.{err_from_is_err_and}
use Rattle.script.proofs.Taking.{handed_on, row_added, row_refused}
use Rattle.script.proofs.problem.Problem.add_row.Goals as goal

pub returns-in_err-row : goal.returns-in_err-row
returns-in_err-row c =
    let p = c.args.self.now in
    let e = err_from_is_err_and c.from_residual.result c.from_residual.ensures.1 in
    handed_on p p _ e.0 _ c.from_residual.result e.1 (e.2 ∙ c.in_err-row.ensures.0) (row_refused p p c.args.operand.now c.in_err-row.ensures.1)

pub returns : goal.returns
returns c =
    row_added c.args.self.now _ c.push.new.self c.args.operand.now c.in_ok-row.row c.push.result c.in_ok-row.ensures.0 c.in_ok-row.ensures.1 c.push.ensures
