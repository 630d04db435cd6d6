-- Checks passed at a number that is the dimension.
use Rattle.std.proofs.Common.{◌≡◌, ℕ, List, subst}
use Rattle.rows.specs.Refusals.{Passes}
use Rattle.renumbered.specs.Renumberings.{making_checks}

pub passed_at : (n k : ℕ) (p : List ℕ) → k ≡ n → Passes (making_checks k p) → Passes (making_checks n p)
passed_at n k p e h = let P : ℕ → Type 0 = λ m. Passes (making_checks m p) in subst P e h
