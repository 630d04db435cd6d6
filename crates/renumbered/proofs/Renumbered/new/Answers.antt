use Rattle.std.proofs.Common.{sym, refl, subst, arith}
use Rattle.rows.proofs.Padding.{kept_row}
use Rattle.renumbered.specs.Renumberings.{Renumbers}
use Rattle.renumbered.proofs.Keeping.{passed_at}
use Rattle.renumbered.proofs.Renumbered.new.Goals as goal

pub invariant_of-result : goal.invariant_of-result
invariant_of-result g c =
    let n = g.A.Augmenter.dim c.args.below in
    let few = g.met.A.Augmenter.dim_fits c.args.below in
    let passed = passed_at _ _ _ c.dimension-n.ensures c.in_ok-making_checks.ensures in
    let kept = kept_row 128 n 0 c.args.numbers.now c.padded.result passed.0 (omega arith) c.padded.ensures in
    record { order = subst (Renumbers n) (sym kept) (passed.0, passed.1.0) }

pub returns : goal.returns
returns g c =
    let few = g.met.A.Augmenter.dim_fits c.args.below in
    let passed = passed_at _ _ _ c.dimension-n.ensures c.in_ok-making_checks.ensures in
    (passed, refl, kept_row 128 _ 0 c.args.numbers.now _ passed.0 (omega arith) c.padded.ensures)
