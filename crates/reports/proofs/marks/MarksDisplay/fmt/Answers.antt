use Rattle.std.proofs.Common.{rules, ℕ, ◌+◌, List, ◌++◌, sym, ap, ◌∙◌, subst}
use Rattle.std.specs.Fmt.{HasWritten}
use Rattle.std.specs.Str.{IsUtf8}
use Rattle.std.proofs.lemmas.List.{append_assoc, append-nil, map-append, nil_from_length}
use Rattle.std.proofs.lemmas.Grind.{put_two}
use Rattle.rows.specs.Packed.{digit}
use Rattle.reports.specs.Marks.{digits}
use Rattle.reports.proofs.Digits.{digits_utf8}
use Rattle.reports.proofs.marks.MarksDisplay.fmt.Goals as goal

pub unwrap-requires : goal.unwrap-requires
unwrap-requires g c = let text = subst (λ (t : List ℕ). IsUtf8 t) (sym c.digits_of-text.ensures) (digits_utf8 c.in-Some.piece.now) in search rules

pub loop-piece-preserved : goal.loop-piece-preserved
loop-piece-preserved g c =
    let steps = c.in-Some.ensures.steps in
    let done = c.loop-piece.invariant.1 in (
      search rules,
      (
        done.0 ++ c.in-Some.piece.now,
        append_assoc done.0 c.in-Some.piece.now c.next.new.self.rest.now ∙ (ap (λ (t : List ℕ). done.0 ++ t) (sym steps.1.0) ∙ done.1),
        λ p. put_two _ _ _ _ _ _ _ (done.2 p) (search rules) (sym (map-append (λ (mark : ℕ). 48 + digit mark) done.0 c.in-Some.piece.now)),
      ),
    )

pub returns-clause-writes : goal.returns-clause-writes
returns-clause-writes g c p o =
    let done = c.loop-piece.invariant.1 in
    let left = nil_from_length c.loop-piece.piece-iterator.rest.now (search rules) in
    let all = sym (append-nil done.0) ∙ (ap (λ (t : List ℕ). done.0 ++ t) (sym left) ∙ done.1) in
    subst (λ (row : List ℕ). HasWritten g.W.Write.write_str_gives c.args.f.now (digits row) c.loop-piece.f) all (done.2 p)
