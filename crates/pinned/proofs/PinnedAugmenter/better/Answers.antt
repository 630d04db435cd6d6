use Rattle.std.proofs.Common.{refl, arith, rules}
use Rattle.pinned.proofs.Pinning.{pinned_free, pinned_better}
use Rattle.pinned.proofs.PinnedAugmenter.better.Goals as goal

pub returns-then-weight-eq0 : goal.returns-then-weight-eq0
returns-then-weight-eq0 g c =
    let t = c.args.self.now in
    pinned_free _ _ _ (g.met.A.Augmenter.member_is_point t.below) t.pins c.args.prices.now c.args.point.now c.args.out.now _ _
    c.dimension-n.ensures c.reach.ensures c.in_ok-shared_checks.ensures (c.if-not-belongs.ensures.0 refl) (omega arith)

pub returns : goal.returns
returns g c =
    let t = c.args.self.now in
    pinned_better _ _ _ (g.met.A.Augmenter.member_is_point t.below) t.pins c.args.prices.now c.args.point.now c.args.out.now _ _
    c.dimension-n.ensures c.reach.ensures c.in_ok-shared_checks.ensures (c.if-not-belongs.ensures.0 refl) (λ e. omega arith) (search rules) _
    c.write_question.ensures _ _ c.better.ensures
