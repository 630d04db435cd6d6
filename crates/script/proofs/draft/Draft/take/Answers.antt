use Rattle.std.proofs.Common.{◌∙◌}
use Rattle.std.proofs.lemmas.Result.{err_from_is_err_and}
use Rattle.script.proofs.Taking.{not_added, out_of_order, taken}
use Rattle.script.proofs.draft.Draft.take.Goals as goal

pub returns-in_err-stage : goal.returns-in_err-stage
returns-in_err-stage c =
    let e = err_from_is_err_and c.from_residual.result c.from_residual.ensures.1 in
    let v = rw c.in_err-stage.ensures.ok_part at c.in_err-stage.ensures.value in
    out_of_order _ _ _ _ _ c.parts-letter.ensures c.from.ensures c.after.ensures _ _ _ c.in_err-stage.ensures.ok_part e.1 (e.2 ∙ (cc))

pub returns-in_err-add : goal.returns-in_err-add
returns-in_err-add c =
    let e = err_from_is_err_and c.from_residual-in_err-add.result c.from_residual-in_err-add.ensures.1 in
    not_added _ _ _ _ _ c.parts-letter.ensures c.from.ensures c.after.ensures _ _ c.add.new.self _ _ c.in_ok-stage.ensures.ok_part (e.1 ∙ (cc)) c.in_err-add.ensures

pub returns : goal.returns
returns c = taken _ _ _ _ _ c.parts-letter.ensures c.from.ensures c.after.ensures _ _ c.in_ok-stage.ensures.ok_part c.in_ok-add.ensures
