-- Equal views, and rows read back from the arrays that keep them.
use Rattle.std.proofs.Common.{◌≡◌, ℕ, ◌≤◌, List, ◌++◌, length, take, replicate, ℤ}
use Rattle.rows.proofs.Padding.{kept_row}
use Rattle.job.specs.declared.parts.State.{State}
use Rattle.job.specs.declared.parts.Totals.{Totals}
use Rattle.job.specs.declared.parts.Line.{Line}
use Rattle.job.specs.declared.parts.Ticketing.{Ticketing}
use Rattle.job.specs.Views.{View}

pub same_view : (m m' : ℕ) (s s' : State) (x x' : List ℕ) (p p' : List ℤ) (t t' : Totals) (l l' : List Line) (k k' : Ticketing) →
    m ≡ m' → s ≡ s' → x ≡ x' → p ≡ p' → t ≡ t' → l ≡ l' → k ≡ k' →
    ◌≡◌ {A = View}
    (record { number = m; state = s; point = x; prices = p; totals = t; ledger = l; ticketing = k })
    (record { number = m'; state = s'; point = x'; prices = p'; totals = t'; ledger = l'; ticketing = k' })
same_view m m' s s' x x' p p' t t' l l' k k' em es ex ep et el ek = cc

-- a row of n entries comes back from the array that it was put into
pub row_back : {X : Type 0} (n : ℕ) (xs p : List X) (f : X) → n ≤ 128 → length xs ≡ n → p ≡ take 128 (xs ++ replicate 128 f) → take n p ≡ xs
row_back n xs p f h l e = kept_row 128 n f xs p l h e
