use Rattle.std.proofs.Common.{◌≡◌, ◌+◌, ◌<◌, ◌⊎◌, length, Err, sym, refl, ap, ◌∙◌, subst, ⊎_elim, arith}
use Rattle.std.proofs.lemmas.Result.{err_from_is_err_and}
use Rattle.rows.specs.declared.refusals.Refusal.{Refusal}
use Rattle.commands.specs.Commands.{width_of}
use Rattle.commands.specs.Reading.{Next}
use Rattle.commands.proofs.Runs.{next_read, next_short, pair_same, would_write}
use Rattle.commands.proofs.reader.Reader.next.Goals as goal

pub returns-in_err-operand-clause-reads : goal.returns-in_err-operand-clause-reads
returns-in_err-operand-clause-reads c =
    let s = c.args.self.now.script.now in
    let a = c.args.self.now.at in
    let w = c.in_ok-width.width in
    let p = err_from_is_err_and c.from_residual-in_err-operand.result c.from_residual-in_err-operand.ensures.1 in
    let none = c.in_err-operand.ensures.ok_part in
    let short : (w < 0) ⊎ (length c.in-Some.rest.now < w) = rw none at c.get.ensures.lookup.0 in
    let k = ap width_of (sym c.from-letter.ensures) ∙ (sym c.operand_width.ensures ∙ c.in_ok-width.ensures.ok_part) in
    let n = next_short s c.in-Some.rest.now a c.in-Some.first.now w c.in-Some.ensures.cases.0 k (⊎_elim (λ h. omega arith) (λ h. h) short) in
    let v = rw none at c.in_err-operand.ensures.value in
    let e : c.in_err-operand.field-0.0 ≡ c.at-2.result = cc in
    rw p.1 (subst (λ (r : Refusal). Next s a (Err r) a) (sym (p.2 ∙ (e ∙ c.at-2.ensures))) n)

pub returns-clause-writes_back : goal.returns-clause-writes_back
returns-clause-writes_back c =
    let s = c.args.self.now.script.now in
    let a = c.args.self.now.at in
    let w = c.in_ok-width.width in
    let got = rw c.in_ok-operand.ensures.ok_part at c.get.ensures.lookup.0 in
    let k = ap width_of (sym c.from-letter.ensures) ∙ (sym c.operand_width.ensures ∙ c.in_ok-width.ensures.ok_part) in
    let n = next_read s c.in-Some.rest.now _ a _ w _ c.in-Some.ensures.cases.0 k got.1 got.2 (c.with_operand.ensures ∙ pair_same _ _ _ _ c.from-letter.ensures refl) in
    would_write s a (a + 1 + w) (a, c.with_operand.result) n
