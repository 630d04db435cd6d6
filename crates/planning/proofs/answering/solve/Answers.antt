use Rattle.std.proofs.Common.{◌≡◌, ℕ, length, replicate, ap, ◌∙◌, subst, take, rules}
use Rattle.rows.specs.Packed.{unpacked}
use Rattle.rows.specs.Refusals.{Passes}
use Rattle.listed.specs.Lists.{making_checks}
use Rattle.planning.specs.Answers.{prices_in}
use Rattle.planning.proofs.Solving.{solves}
use Rattle.planning.proofs.answering.solve.Goals as goal

pub returns : goal.returns
returns c =
    let p = c.args.problem.now in
    let l : length p.prices ≡ 128 = search rules in
    let m = c.in_ok-listed.ensures in
    let e = c.from-n.ensures in
    let made = subst (λ (n : ℕ). Passes (making_checks n p.reach c.as_slice.result.now)) e m.0 in
    let prices : take c.from-n.result p.prices ≡ prices_in p = search (rules, e) in
    let n : length (take c.from-n.result (replicate {A = ℕ} 128 0)) ≡ p.dimension = search (rules, e) in
    let start = c.unpack.ensures.is ∙ ap (λ (k : ℕ). unpacked k p.start) n in
    solves p l _ _ _ _ _ _ c.plan.result (m.1 ∙ e) m.2 m.3 c.as_slice.ensures start prices made c.plan.ensures
