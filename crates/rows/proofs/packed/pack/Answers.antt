use Rattle.std.proofs.Common.{◌≡◌, ap, ◌∙◌, arith}
use Rattle.rows.specs.Packed.{unpacked, packed}
use Rattle.rows.proofs.Packing.{packed_is, unpacked_packed}
use Rattle.rows.proofs.packed.pack.Goals as goal

pub returns : goal.returns
returns c =
    let e : c.loop-b.byte-items ≡ packed c.args.row.now =
    packed_is c.args.row.now c.loop-b.byte-items c.loop-b.invariant.0 (λ k h. c.loop-b.invariant.1 k (omega arith)) in
    record {
      is = e;
      inverse = λ n h p. ap (λ bs. unpacked n bs) e ∙ unpacked_packed n c.args.row.now h p;
    }
