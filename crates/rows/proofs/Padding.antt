-- Rows kept at the start of an array.
use Rattle.std.proofs.Common.{◌≡◌, ℕ, ◌+◌, ◌-◌, ◌<◌, ◌≤◌, min, List, ◌++◌, length, take, drop, replicate, sym, refl, ap, ◌∙◌, subst, ap₂, ⊎_elim, arith}
use lib.Seq.{take-append-add}
use Rattle.std.proofs.lemmas.Bool.{cases_lt}
use Rattle.std.proofs.lemmas.List.{take_at, take-take, take_all, take-append-le, take-replicate, drop_all, drop-replicate, length-replicate, append-nil}

-- all entries
padded_short : {X : Type 0} (N : ℕ) (xs : List X) (f : X) → length xs ≤ N →
    take (length xs) xs ++ drop (length xs) (replicate N f) ≡ take N (xs ++ replicate N f)
padded_short {X} N xs f h =
    let n = length xs in
    let e : n + (N - n) ≡ N = omega arith in
    let a : take (n + (N - n)) (xs ++ replicate N f) ≡ xs ++ replicate (N - n) f =
    take-append-add xs (replicate N f) (N - n) ∙ ap (λ (l : List X). xs ++ l) (take-replicate (N - n) N f (omega arith)) in
    ap₂ (λ (l r : List X). l ++ r) (take_all n xs (omega arith)) (drop-replicate n N f) ∙
    sym (subst (λ (m : ℕ). take m (xs ++ replicate N f) ≡ xs ++ replicate (N - n) f) e a)

padded_long : {X : Type 0} (N : ℕ) (xs : List X) (f : X) → N ≤ length xs →
    take N xs ++ drop N (replicate N f) ≡ take N (xs ++ replicate N f)
padded_long {X} N xs f h =
    ap (λ (l : List X). take N xs ++ l) (drop_all N (replicate N f) (simp length-replicate (omega arith))) ∙ append-nil (take N xs) ∙ sym (take-append-le N xs (replicate N f) h)

pub padded_all : {X : Type 0} (N : ℕ) (xs : List X) (f : X) (i : ℕ) → i ≡ min (length xs) N →
    take i xs ++ drop i (replicate N f) ≡ take N (xs ++ replicate N f)
padded_all {X} N xs f i e =
    let P : ℕ → Type 0 = λ j. take j xs ++ drop j (replicate N f) ≡ take N (xs ++ replicate N f) in
    ⊎_elim
    (λ (h : length xs < N). let q : length xs ≡ i = omega arith in subst P q (padded_short N xs f (omega arith)))
    (λ (h : N ≤ length xs). let q : N ≡ i = omega arith in subst P q (padded_long N xs f h))
    (cases_lt (length xs) N)

-- the row comes back
pub take_padded : {X : Type 0} (N : ℕ) (xs : List X) (f : X) → length xs ≤ N → take (length xs) (take N (xs ++ replicate N f)) ≡ xs
take_padded N xs f h = take-take (length xs) N (xs ++ replicate N f) h ∙ take_at xs (replicate N f) (length xs) refl

-- a row of n entries comes back from the array that it was put into
pub kept_row : {X : Type 0} (N n : ℕ) (f : X) (xs p : List X) → length xs ≡ n → n ≤ N → p ≡ take N (xs ++ replicate N f) → take n p ≡ xs
kept_row N n f xs p e h q =
    let P : ℕ → Type 0 = λ k. take k p ≡ xs in
    subst P e (ap (take (length xs)) q ∙ take_padded N xs f (omega arith))
