use Rattle.renumbered.proofs.Moving.{above, from_above}
use Rattle.renumbered.proofs.moved_belongs.Goals as goal

pub returns : goal.returns
returns g c =
    let M = g.A.Augmenter.Member c.args.below.now in
    let points = g.met.A.Augmenter.member_is_point c.args.below.now in
    let says = c.belongs.ensures in
    (λ e. above _ _ c.requires.order M points _ _ c.requires.long c.moved.ensures (says.0 e), λ m. says.1 (from_above _ _ c.requires.order M points _ _ c.requires.long c.moved.ensures m))
