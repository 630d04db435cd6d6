use Rattle.std.proofs.Common.{refl, arith}
use Rattle.script.proofs.Taking.{means_on, reach_new, reach_passes, reach_refused}
use Rattle.script.proofs.problem.Problem.add_reach.Goals as goal

pub returns-then-reach : goal.returns-then-reach
returns-then-reach c cs m g a =
    let v = c.number-reach.ensures.short (omega arith) in
    reach_refused cs c.args.operand.now a g (omega arith)

pub returns : goal.returns
returns c cs m g a =
    let p = c.args.self.now in
    let o = c.args.operand.now in
    let v = c.number-reach.ensures.short (omega arith) in (
      reach_passes cs o a g (omega arith),
      means_on cs 76 o p _ m g (λ e. omega arith) (λ e. omega arith) refl refl (reach_new cs o _ v) refl refl,
    )
