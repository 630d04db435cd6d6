use Rattle.std.proofs.Common.{refl, subst, ℕ, ◌∙◌, arith}
use Rattle.std.proofs.lemmas.Result.{err_from_is_err_and}
use Rattle.rows.specs.Packed.{ClearFrom}
use Rattle.script.proofs.Taking.{handed_on, means_on, start_new, start_passes, start_refused}
use Rattle.script.proofs.problem.Problem.add_start.Goals as goal

pub returns-in_err-self : goal.returns-in_err-self
returns-in_err-self c =
    let p = c.args.self.now in
    let e = err_from_is_err_and c.from_residual.result c.from_residual.ensures.1 in
    handed_on p p _ e.0 _ c.from_residual.result e.1 (e.2 ∙ c.in_err-self.ensures.0) (start_refused p p c.args.operand.now c.in_err-self.ensures.1)

pub returns : goal.returns
returns c cs m g a =
    let p = c.args.self.now in
    let o = c.args.operand.now in (
      start_passes cs o a g (subst (λ (n : ℕ). ClearFrom n o) m.dimension c.in_ok-self.ensures.1),
      means_on cs 83 o p _ m g (λ e. omega arith) (λ e. omega arith) refl refl refl refl (start_new cs o _ c.in_ok-self.ensures.0),
    )
