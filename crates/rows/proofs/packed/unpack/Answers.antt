use Rattle.std.proofs.Common.{◌≡◌, length, ap, ◌∙◌, arith, rules}
use Rattle.std.proofs.lemmas.List.FromFn.{fill_by_all}
use Rattle.rows.specs.Packed.{bit_at, unpacked, packed}
use Rattle.rows.proofs.Packing.{packed_unpacked}
use Rattle.rows.proofs.packed.unpack.Goals as goal

pub returns : goal.returns
returns c =
    let e : c.loop-i.row ≡ unpacked (length c.args.row.now) c.args.bytes.now =
    fill_by_all (bit_at c.args.bytes.now) c.loop-i.row (length c.args.row.now) 0 (omega arith) (λ k h. c.loop-i.invariant k (omega arith)) in
    record {
      is = e;
      inverse = λ h. ap packed e ∙ packed_unpacked (length c.args.row.now) c.args.bytes.now (search rules) (λ b g. search rules) h;
    }
