use Rattle.std.proofs.Common.{ap, ◌∙◌, rules}
use mir.Syntax.{w128}
use Rattle.std.proofs.lemmas.Int.{to_z-of_z}
use Rattle.rows.specs.Packed.{unpacked}
use Rattle.rows.specs.Prices.{price}
use Rattle.listed.proofs.packed_price.Goals as goal

pub returns : goal.returns
returns c =
    to_z-of_z w128 c.price.result (search rules) ∙ c.price.ensures ∙
    ap (λ x. price c.args.prices.now x) (c.unpack.ensures.is ∙ ap (λ n. unpacked n c.args.row.now) (search rules))
