use Rattle.std.proofs.Common.{refl, rules}
use Rattle.std.proofs.lemmas.Result.{err_from_is_err_and}
use Rattle.turned.proofs.Turning.{turned_refused, turned_answered}
use Rattle.turned.proofs.TurnedAugmenter.better.Goals as goal

pub returns-in_err-answer : goal.returns-in_err-answer
returns-in_err-answer g c =
    let t = c.args.self.now in
    let p = err_from_is_err_and c.from_residual-in_err-answer.result c.from_residual-in_err-answer.ensures.1 in
    rw (p.1, p.2) (
      turned_refused _ _ _ (g.met.A.Augmenter.member_is_point t.below) t.marks t.bits c.args.prices.now c.args.point.now _ _ _
          c.dimension-n.ensures c.reach.ensures (search rules) c.in_ok-shared_checks.ensures _ _
          c.turn_question.ensures.prices c.turn_question.ensures.point _ _ (search rules) c.in_err-answer.ensures.0,
      refl,
    )

pub returns : goal.returns
returns g c =
    let t = c.args.self.now in
    let b = c.in_ok-answer.ensures in
    turned_answered _ _ _ (g.met.A.Augmenter.member_is_point t.below) t.marks t.bits c.args.prices.now c.args.point.now _ _ _
    c.dimension-n.ensures c.reach.ensures (search rules) c.in_ok-shared_checks.ensures _ _
    c.turn_question.ensures.prices c.turn_question.ensures.point _ _ _ c.in_ok-answer.answer b.0 _ b.1 c.turn_back.ensures
