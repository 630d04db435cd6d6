use Rattle.std.proofs.Common.{◌≡◌, rules}
use Rattle.std.proofs.lemmas.Iterator.{first_from_Range}
use Rattle.rows.specs.Packed.{bit_at}
use Rattle.rows.proofs.Packing.{bit_small, first_stray}
use Rattle.rows.proofs.packed.stray_bit.Goals as goal

pub returns : goal.returns
returns c =
    let bs = c.args.bytes.now in
    first_stray c.args.n bs c.find.result c.told-bytes
    (first_from_Range _ _ _ _ (λ i. bit_at bs i ≡ 1) (λ i. bit_at bs i ≡ 0) c.find.ensures.ran (λ x q h. search rules) (λ x q h. search (rules, bit_small)))
