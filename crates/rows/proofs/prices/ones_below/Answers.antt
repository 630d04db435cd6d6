use Rattle.std.proofs.Common.{ℕ, ◌%◌, ◌^◌, get_or, ℤ, pos, nat_abs, ap, ◌∙◌, arith, w64, SFits, rules}
use lib.Count.{ones, ones-le}
use Rattle.std.proofs.lemmas.List.Sums.{sum_by_more}
use Rattle.std.proofs.lemmas.Int.{to_z-of_z}
use Rattle.rows.proofs.prices.ones_below.Goals as goal

pub loop-p-preserved : goal.loop-p-preserved
loop-p-preserved c =
    let f : SFits w64 (get_or c.args.prices.now c.loop-p.p-index (pos 0)) = search rules in
    let more = sum_by_more (λ (q : ℤ). ones (nat_abs q % 2 ^ c.args.plane)) c.args.prices.now c.loop-p.p-index (pos 0) (omega arith) in
    let size = simp to_z-of_z at c.unsigned_abs.ensures.value in
    let part = ap (λ (z : ℕ). ones z) (c.remainder.ensures ∙ ap (λ (z : ℕ). z % 2 ^ c.args.plane) size) in
    (omega arith, search (rules, ones-le 64 c.remainder.result))
