use Rattle.std.proofs.Common.{[], Ok}
use Rattle.rows.specs.declared.refusals.Fault.TheVariants.{Order}
use Rattle.script.proofs.Taking.{added, end_added, not_met, only_command}
use Rattle.script.proofs.problem.Problem.add.Goals as goal

pub returns-in-End : goal.returns-in-End
returns-in-End c = added _ _ _ _ (Ok tt) c.in-End.is (end_added _ [])

pub returns-in_default : goal.returns-in_default
returns-in_default c =
    let q = c.in_default in
    not_met c.args.command.now c.args.self.now c.args.self.now Order (λ t s e. only_command c.args.command.now s t e q.not-Dimension q.not-Reach q.not-ListedRow q.not-Price q.not-Units q.not-Start q.not-End)
