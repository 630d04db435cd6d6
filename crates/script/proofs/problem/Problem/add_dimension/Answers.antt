use Rattle.std.proofs.Common.{refl, arith}
use Rattle.script.proofs.Taking.{dimension_new, dimension_passes, dimension_refused, means_on}
use Rattle.script.proofs.problem.Problem.add_dimension.Goals as goal

pub returns-then-n : goal.returns-then-n
returns-then-n c cs m g a =
    let v = c.number-n.ensures.short (omega arith) in
    dimension_refused cs c.args.operand.now a g (omega arith)

pub returns : goal.returns
returns c cs m g a =
    let p = c.args.self.now in
    let o = c.args.operand.now in
    let v = c.number-n.ensures.short (omega arith) in (
      dimension_passes cs o a g (omega arith),
      means_on cs 78 o p _ m g (λ e. omega arith) (λ e. omega arith) refl (dimension_new cs o _ g v) refl refl refl,
    )
