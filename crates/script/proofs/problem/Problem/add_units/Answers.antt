use Rattle.std.proofs.Common.{◌≡◌, length, is_some as option_is_some, sym, refl, ap, inr, ◌∙◌, w64, SFits, rules}
use Rattle.std.proofs.lemmas.Int.{to_z-of_z}
use Rattle.rows.specs.Classes.{class_of}
use Rattle.script.proofs.Taking.{price_added, units_value}
use Rattle.script.proofs.problem.Problem.add_units.Goals as goal

pub returns : goal.returns
returns c =
    let p = c.args.self.now in
    let o = c.args.operand.now in
    let k = sym c.in_ok-class.ensures ∙ ap class_of c.from.ensures in
    let f : SFits w64 c.price.result = search rules in
    let v = to_z-of_z w64 _ f ∙ units_value o _ c.in_ok-class.class _ c.requires k c.price.ensures c.number-units.ensures.short in
    let l : length p.prices ≡ 128 = search rules in
    price_added p c.set_price.new.self (89, o) (inr refl) (λ e. sym (ap option_is_some k)) _ v l c.set_price.result c.set_price.ensures
