use Rattle.std.proofs.Common.{⊎_elim, inl, inr, length, ap, ap₂, ◌∙◌, arith, w64, SFits, rules}
use Rattle.std.proofs.lemmas.Int.{to_z-of_z, ints}
use Rattle.rows.proofs.Planes.{price_ends}
use Rattle.rows.specs.Prices.{price, pays}
use Rattle.rows.proofs.prices.price.Goals as goal

pub loop-p-preserved : goal.loop-p-preserved
loop-p-preserved c =
    let e = ap₂ price c.in-Some.ensures.steps.0 c.in-Some.ensures.steps.1 in
    let l = ap length c.in-Some.ensures.steps.0 in
    let f : SFits w64 c.in-Some.p.now = search rules in
    let paid = c.pay-sum.ensures.value ∙ ap (λ z. pays z c.in-Some.mark.now) (to_z-of_z w64 _ f) in
    (omega (arith, ints), search rules)

pub returns : goal.returns
returns c =
    let ends = ⊎_elim (λ e. price_ends _ c.loop-p.p-iterator.b.rest.now (inl e.1.0)) (λ e. price_ends c.loop-p.p-iterator.a.rest.now _ (inr e.1.0)) c.in-None.ensures.steps in
    omega (arith, ints)
