use Rattle.std.proofs.Common.{sym, subst, inl}
use Rattle.std.proofs.lemmas.Result.{err_from_is_err_and}
use Rattle.rows.specs.declared.refusals.Refusal.{Refusal}
use Rattle.script.specs.Scripts.{Refuses}
use Rattle.planning.proofs.Solving.{solved}
use Rattle.planning.proofs.answering.plan_script.Goals as goal

pub returns-in_err-problem : goal.returns-in_err-problem
returns-in_err-problem c =
    let s = c.args.script.now in
    let p = err_from_is_err_and c.from_residual.result c.from_residual.ensures.1 in
    let q = c.in_err-problem.ensures in
    record { gives = rw p.1 (inl (subst (λ (v : Refusal). Refuses s v) (sym p.2) q.gives)); settled = q.settled }

pub returns : goal.returns
returns c =
    let q = c.in_ok-problem.ensures in
    record { gives = solved c.args.script.now c.in_ok-problem.problem c.solve.result q.gives c.solve.ensures; settled = q.settled }
