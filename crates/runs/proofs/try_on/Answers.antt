use Rattle.std.proofs.Common.{◌≡◌, ◌<◌, List, length, take, drop, Result, refl, sym, subst, ◌∙◌, arith}
use Rattle.std.proofs.lemmas.List.{length-take, take-append-le}
use Rattle.rows.specs.declared.refusals.Refusal.{Refusal}
use Rattle.job.specs.declared.tries.Outcome.{Outcome}
use Rattle.job.specs.Jobs.{view}
use Rattle.runs.specs.Promise.{Tried}
use Rattle.runs.proofs.Lists.{gone_none, gone_more, call_at, promised}
use Rattle.runs.proofs.try_on.Goals as goal

pub loop-i-init : goal.loop-i-init
loop-i-init g c =
    let A = g.A.Augmenter in
    let a = c.args.job.now.below in
    (gone_none A.KIND (A.dim a) (A.reaches a) c.args.job.now.number (A.Member a) _ c.requires, refl)

pub loop-i-preserved : goal.loop-i-preserved
loop-i-preserved g c =
    let A = g.A.Augmenter in
    let a = c.args.job.now.below in
    let L = g.met.A.Augmenter in
    let l = length-take c.min-n.result c.args.outcomes.now in
    let h : c.loop-i.i < length c.args.calls.now = omega arith in
    let k : c.loop-i.i < length c.loop-i.outcome-items = omega arith in (
      gone_more A.KIND (A.dim a) (A.reaches a) c.args.job.now.number (A.Member a) (L.dim_fits a) (L.reach_fits a) (L.member_is_point a)
          _ _ c.args.calls.now c.loop-i.outcome-items c.loop-i.i _ _ h k c.loop-i.invariant.0
          (call_at A.KIND A.dim A.reaches A.Member _ _ _ _ _ _ c.loop-i.invariant.1 c.try_call.ensures.moves),
      c.try_call.ensures.below ∙ c.loop-i.invariant.1,
    )

pub returns-clause-promise : goal.returns-clause-promise
returns-clause-promise g c =
    let A = g.A.Augmenter in
    let a = c.args.job.now.below in
    let L = g.met.A.Augmenter in
    let l = length-take c.min-n.result c.args.outcomes.now in
    let e : c.loop-i.i ≡ c.min-n.result = omega arith in
    let os = take-append-le c.min-n.result c.loop-i.outcome-items (drop c.min-n.result c.args.outcomes.now) (omega arith) in
    let P : List (Result Outcome Refusal) → Type 0 = λ z. Tried A.KIND (A.dim a) (A.reaches a) c.args.job.now.number (A.Member a) (take c.min-n.result c.args.calls.now) z (view c.loop-i.job) in
    subst P (sym os) (promised A.KIND (A.dim a) (A.reaches a) c.args.job.now.number (A.Member a) (L.dim_fits a) (L.reach_fits a) (L.member_is_point a) _ _ _ (simp e at c.loop-i.invariant.0))
