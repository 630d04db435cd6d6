use Rattle.std.proofs.Common.{rules, tests}
use Rattle.std.proofs.lemmas.Iterator.{cases_from_all, YieldsList-from_slice}
use Rattle.commands.specs.Commands.{Whole, said}
use Rattle.commands.proofs.Writing.{whole_decided}
use Rattle.commands.proofs.writer.all_whole.Goals as goal

pub returns : goal.returns
returns c =
    let ds = c.args.commands.now in
    whole_decided _ ds (cases_from_all _ _ _ (λ d. Whole (said d)) (λ d. Whole (said d) → ⊥) c.all.ensures.ran (YieldsList-from_slice ds cc) (λ x q k. search (rules, tests)) (λ x q k. search (rules, tests)))
