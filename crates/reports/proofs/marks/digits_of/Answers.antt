use Rattle.std.proofs.Common.{ℕ, ◌+◌, List, [], ◌∷◌, ◌++◌, ap₂, ◌∙◌, sym, arith, rules}
use Rattle.std.proofs.lemmas.List.{map_more, take_more_set}
use Rattle.rows.specs.Packed.{digit}
use Rattle.reports.proofs.marks.digits_of.Goals as goal

pub loop-i-preserved : goal.loop-i-preserved
loop-i-preserved c = (
  search rules,
  take_more_set c.loop-i.text c.loop-i.i c.digit_of.result (omega arith) ∙
      (ap₂ (λ (l : List ℕ) (x : ℕ). l ++ x ∷ []) c.loop-i.invariant.1 c.digit_of.ensures ∙ sym (map_more (λ (mark : ℕ). 48 + digit mark) c.args.piece.now c.loop-i.i 0 (omega arith))),
)
