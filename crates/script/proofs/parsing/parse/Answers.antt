use Rattle.std.proofs.Common.{◌≡◌, ℕ, List, Err, MatchResult, sym, ap, ◌∙◌, subst, arith, rules, tests}
use Rattle.std.proofs.lemmas.Result.{err_from_is_err_and}
use Rattle.rows.specs.declared.refusals.Fault.TheVariants.{Order}
use Rattle.rows.specs.declared.refusals.Refusal.{Refusal}
use Rattle.commands.specs.Reading.{Next}
use Rattle.script.specs.Scripts.{Refuses}
use Rattle.script.proofs.Reading.{described, going_more, going_none, not_taken, past_end, unreadable, whole_read}
use Rattle.script.proofs.Taking.{end_is, not_end}
use Rattle.script.proofs.parsing.parse.Goals as goal

pub loop-place-init : goal.loop-place-init
loop-place-init c = (c.new-reader.ensures.script, going_none c.args.script.now _ _ (omega arith) c.new-reader.ensures.start c.new-draft.ensures)

pub returns-in_err-place-clause-gives : goal.returns-in_err-place-clause-gives
returns-in_err-place-clause-gives c =
    let s = c.args.script.now in
    let w = c.in_err-place.field-0.0 in
    let p = err_from_is_err_and c.from_residual.result c.from_residual.ensures.1 in
    let h = subst (λ (t : List ℕ). Next t c.loop-place.reader.at (Err w) c.next.new.self.at) c.loop-place.invariant.0 c.in_err-place.ensures.reads in
    let q = unreadable s c.loop-place.reader.at _ c.loop-place.draft w c.loop-place.invariant.1 h in
    rw p.1 (subst (λ (v : Refusal). Refuses s v) (sym p.2) q)

pub take-requires : goal.take-requires
take-requires c =
    let s = c.args.script.now in
    whole_read s _ _ _ _ (c.in-Some.place, c.in-Some.command) c.loop-place.draft c.loop-place.invariant c.in-Some.is c.in_ok-place.ensures.reads

pub returns-in_err-map_err-clause-gives : goal.returns-in_err-map_err-clause-gives
returns-in_err-map_err-clause-gives c =
    let s = c.args.script.now in
    let w = c.in_err-map_err.field-0.0 in
    let p = err_from_is_err_and c.from_residual-in_err-map_err.result c.from_residual-in_err-map_err.ensures.1 in
    let k : MatchResult c.take.result (λ _. ⊥) (λ f. w ≡ record { fault = f; place = c.in-Some.place }) = search (rules, tests) in
    let q = not_taken s _ _ _ _ (c.in-Some.place, c.in-Some.command) c.loop-place.draft c.loop-place.invariant c.in-Some.is c.in_ok-place.ensures.reads c.take.new.self w c.take.result k c.take.ensures in
    rw p.1 (subst (λ (v : Refusal). Refuses s v) (sym p.2) q)

pub returns-then-end-script-clause-gives : goal.returns-then-end-script-clause-gives
returns-then-end-script-clause-gives c =
    let s = c.args.script.now in
    let z = end_is _ c.in-End.is in
    let q = past_end s _ _ _ _ (c.in-Some.place, c.in-Some.command) c.loop-place.draft c.loop-place.invariant c.in-Some.is c.in_ok-place.ensures.reads c.take.new.self c.take.result c.in_ok-map_err.ensures.variant c.take.ensures z (omega (arith, c.place-end.ensures.is)) in
    let e = c.at-then-end-script.ensures ∙ ap (λ (k : ℕ). record { fault = Order; place = k }) c.place-end.ensures.is in
    subst (λ (v : Refusal). Refuses s v) (sym e) q

pub returns-in-End-clause-gives : goal.returns-in-End-clause-gives
returns-in-End-clause-gives c =
    let s = c.args.script.now in
    let z = end_is _ c.in-End.is in
    described s _ _ _ _ (c.in-Some.place, c.in-Some.command) c.loop-place.draft c.loop-place.invariant c.in-Some.is c.in_ok-place.ensures.reads c.take.new.self c.take.result c.in_ok-map_err.ensures.variant c.take.ensures z (omega (arith, c.place-end.ensures.is))

pub loop-place-preserved : goal.loop-place-preserved
loop-place-preserved c =
    let s = c.args.script.now in
    (c.in_ok-place.ensures.same ∙ c.loop-place.invariant.0, going_more s _ _ _ _ (c.in-Some.place, c.in-Some.command) c.loop-place.draft c.loop-place.invariant c.in-Some.is c.in_ok-place.ensures.reads c.take.new.self c.take.result c.in_ok-map_err.ensures.variant c.take.ensures (not_end _ c.in_default-command.not-End))
