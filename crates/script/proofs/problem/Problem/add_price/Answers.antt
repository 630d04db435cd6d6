use Rattle.std.proofs.Common.{◌≡◌, length, refl, inl, ◌∙◌, arith, w64, SFits, rules}
use Rattle.std.proofs.lemmas.Int.{to_z-of_z}
use Rattle.script.proofs.Taking.{price_added, price_value}
use Rattle.script.proofs.problem.Problem.add_price.Goals as goal

pub returns : goal.returns
returns c =
    let p = c.args.self.now in
    let o = c.args.operand.now in
    let f : SFits w64 c.cast_signed-price.result = search rules in
    let v = to_z-of_z w64 _ f ∙ price_value o _ _ c.requires c.cast_signed-price.ensures c.number.ensures.short in
    let l : length p.prices ≡ 128 = search rules in
    price_added p c.set_price.new.self (67, o) (inl refl) (λ e. absurd (omega arith)) _ v l c.set_price.result c.set_price.ensures
