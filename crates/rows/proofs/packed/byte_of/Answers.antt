use Rattle.std.proofs.Common.{arith}
use Rattle.rows.proofs.Packing.{from_small, from_more, digit_small}
use Rattle.rows.proofs.packed.byte_of.Goals as goal

pub overflow_mul-sum : goal.overflow_mul-sum
overflow_mul-sum c = omega (arith, c.loop-j.invariant, from_small c.args.row.now c.args.byte c.loop-j.j c.loop-j-test.true)

pub overflow_add-sum : goal.overflow_add-sum
overflow_add-sum c =
    omega (arith, c.loop-j.invariant, from_small c.args.row.now c.args.byte c.loop-j.j c.loop-j-test.true, digit_small c.mark_at.result)

pub loop-j-preserved : goal.loop-j-preserved
loop-j-preserved c =
    from_more c.args.row.now c.args.byte c.loop-j.j c.loop-j.sum _ _ (omega arith) (omega arith) c.loop-j.invariant c.mark_at.ensures c.digit.ensures
