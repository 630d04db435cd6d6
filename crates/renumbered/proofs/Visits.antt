-- The coordinates that the first entries of a renumbering name, as a row of marks: in the end each is named.
use Rattle.std.proofs.Common.{◌≡◌, ℕ, zero, suc, ◌<◌, ◌≤◌, List, [], ◌∷◌, length, get_or, set, replicate, sum_by, sym, refl, ap, ◌∙◌, ap₂, ⊎_elim, arith}
use Rattle.std.specs.List.{AllByRecursion}
use Rattle.std.proofs.lemmas.List.{length-set, length-replicate, get_or-replicate, get_or-set_other}
use Rattle.std.proofs.ByRecursion.{All-set, sum_by_le}
use Rattle.std.proofs.lemmas.List.Sums.{sum_by-cons, sum_by-set}
use Rattle.std.proofs.lemmas.Bool.{cases_eq}
use Rattle.renumbered.specs.Renumberings.{Renumbers}

abbrev Bit : ℕ → Type 0
Bit b = b ≤ 1

abbrev count : List ℕ → ℕ
count xs = sum_by (λ x. x) xs

zero_marks : (n : ℕ) → AllByRecursion Bit (replicate n 0)
zero_marks zero = tt
zero_marks (suc n) = (omega arith, zero_marks n)

zero_count : (n : ℕ) → count (replicate n 0) ≡ 0
zero_count zero = refl
zero_count (suc n) = omega (arith, sum_by-cons (λ x. x) 0 (replicate n 0), zero_count n)

zero_at : (n k : ℕ) → get_or {A = ℕ} (replicate n 0) k 0 ≡ 0
zero_at zero k = refl
zero_at (suc n) zero = refl
zero_at (suc n) (suc k) = zero_at n k

-- a row of marks with as many ones as entries
all_ones : (xs : List ℕ) → AllByRecursion Bit xs → count xs ≡ length xs → xs ≡ replicate (length xs) 1
all_ones [] a e = refl
all_ones (x ∷ xs) a e =
    let c = sum_by-cons (λ y. y) x xs in
    let l = sum_by_le (λ y. y) 1 xs a.1 in
    let b = a.0 in
    ap₂ ◌∷◌ (omega arith) (all_ones xs a.1 (omega arith))

module _ (n : ℕ) (p : List ℕ) where
  -- n marks, with a one at each of the first i entries
  abbrev pub visited : ℕ → List ℕ
  visited zero = replicate n 0
  visited (suc i) = set (visited i) (get_or p i 0) 1

  pub visited_length : (i : ℕ) → length (visited i) ≡ n
  visited_length zero = length-replicate n 0
  visited_length (suc i) = length-set (visited i) (get_or p i 0) 1 ∙ visited_length i

  visited_marks : (i : ℕ) → AllByRecursion Bit (visited i)
  visited_marks zero = zero_marks n
  visited_marks (suc i) = All-set Bit (visited i) (get_or p i 0) 1 (omega arith) (visited_marks i)

  named : (i k : ℕ) → get_or (visited i) k 0 ≡ 1 → (j : ℕ) × (j < i) × (get_or p j 0 ≡ k)
  named zero k e = let z = zero_at n k in absurd (omega arith)
  named (suc i) k e =
      ⊎_elim
      (λ (q : k ≡ get_or p i 0). (i, omega arith, sym q))
      (λ (q : k ≡ get_or p i 0 → ⊥).
      let m = named i k (sym (get_or-set_other (visited i) (get_or p i 0) k 1 0 q) ∙ e) in
      (m.0, omega (arith, m.1), m.2))
      (cases_eq k (get_or p i 0))

  module _ (r : Renumbers n p) where
    -- a later entry is not named yet
    pub fresh : (i j : ℕ) → i ≤ j → j < n → get_or (visited i) (get_or p j 0) 0 ≡ 0
    fresh zero j h l = zero_at n (get_or p j 0)
    fresh (suc i) j h l =
        let L = r.0 in
        get_or-set_other (visited i) (get_or p i 0) (get_or p j 0) 1 0 (λ e. (r.1 j (omega arith)).1 i (omega arith) (sym e)) ∙ fresh i j (omega arith) l

    visited_count : (i : ℕ) → i ≤ n → count (visited i) ≡ i
    visited_count zero h = zero_count n
    visited_count (suc i) h =
        let L = r.0 in
        let v = (r.1 i (omega arith)).0 in
        let l = visited_length i in
        omega (arith, sum_by-set (λ x. x) (visited i) (get_or p i 0) 1 0 (omega arith), fresh i i (omega arith) (omega arith), visited_count i (omega arith))

    pub visited_all : visited n ≡ replicate n 1
    visited_all =
        let l = visited_length n in
        all_ones (visited n) (visited_marks n) (visited_count n (omega arith) ∙ sym l) ∙ ap (λ (m : ℕ). replicate m 1) l

    -- every coordinate is an entry
    pub entry_of : (k : ℕ) → k < n → (j : ℕ) × (j < n) × (get_or p j 0 ≡ k)
    entry_of k h = named n k (ap (λ (l : List ℕ). get_or l k 0) visited_all ∙ get_or-replicate n k 1 0 h)
