use Rattle.std.proofs.Common.{rules}
use Rattle.renumbered.proofs.Moving.{put_answered, put_refused}
use Rattle.renumbered.proofs.put.Goals as goal

pub returns-in-Ok : goal.returns-in-Ok
returns-in-Ok g c =
    let points = g.met.A.Augmenter.member_is_point c.args.below.now in
    put_answered _ _ c.requires.order (g.A.Augmenter.Member c.args.below.now) points _ _ _ _ _ _ _ c.requires.passed c.move_question.ensures.prices c.move_question.ensures.point _ _ _
    c.bring_back.ensures c.in-Ok.ensures

pub returns-in-Err : goal.returns-in-Err
returns-in-Err g c =
    let points = g.met.A.Augmenter.member_is_point c.args.below.now in
    put_refused _ _ c.requires.order (g.A.Augmenter.Member c.args.below.now) points _ _ _ _ _ _ _ c.requires.passed c.move_question.ensures.prices c.move_question.ensures.point _ _ _
    (search rules) c.in-Err.ensures c.at.ensures
