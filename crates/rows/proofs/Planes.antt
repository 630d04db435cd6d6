-- The laws of planes: how prices, remainders and ones at one plane come from those at the plane above.
use Rattle.std.proofs.Common.{◌≡◌, ℕ, zero, suc, ◌+◌, ◌-◌, ◌*◌, ◌/◌, ◌%◌, ◌^◌, ◌<◌, ◌≤◌, max, List, [], ◌∷◌, length, ℤ, pos, negsuc, ◌+ℤ◌, neg_ℤ, nat_abs, ◌≤ℤ◌, fold, sym, refl, ap, ◌∙◌, subst, ap₂, ⊎_elim, ◌⊎◌, mod-lt, mod-eq_of_lt, mul_assoc, mul_comm, add-mul, add_comm, pow-suc, lt_of_not-le, zero-mul, div-one, add-one, arith, pow_pos, pow_mono, shr-shr}
use native.Mathlib.Nat.{div-eq_of_lt, mod-one}
use lib.Pow.{split, shr_le, mod-pow-add}
use lib.Count.{ones as one_bits, ones_in, ones_cat, ones-le, count_leading_zeros, leading_length}
use Rattle.std.proofs.lemmas.Int.{ints}
use Rattle.std.proofs.lemmas.List.Sums.{sum_by-cons}
use Rattle.rows.specs.Planes.{PlaneLaws}
use Rattle.rows.specs.Prices.{weight, ones, largest, at_plane, row_at, pays, price, bit_of, bits, remainders, ones_below, planes, Digits, Under}

-- a magnitude's quotient: one plane down
halves : (n k : ℕ) → n / 2 ^ k ≡ 2 * (n / 2 ^ suc k) + n / 2 ^ k % 2
halves n k =
    let e : n / 2 ^ k / 2 ^ 1 ≡ n / 2 ^ (k + 1) = shr-shr n k 1 in
    let f : n / 2 ^ (k + 1) ≡ n / 2 ^ suc k = ap (λ (z : ℕ). n / 2 ^ z) (add-one k) in
    let g : n / 2 ^ k / 2 ^ 1 * 2 ^ 1 + n / 2 ^ k % 2 ^ 1 ≡ n / 2 ^ k = split (n / 2 ^ k) 1 in
    omega arith

rest_of : (n k : ℕ) → n % 2 ^ suc k ≡ (n / 2 ^ k % 2) * 2 ^ k + n % 2 ^ k
rest_of n k =
    ap (λ (z : ℕ). n % 2 ^ z) (sym (add-one k) ∙ add_comm k 1) ∙ mod-pow-add n 1 k

-- what one coordinate does
down_one : (k : ℕ) (p : ℤ) (x y : ℕ) →
    ((pays (at_plane (suc k) p) y +ℤ pays (at_plane (suc k) p) y) +ℤ pays (at_plane k p) x) ≤ℤ
    (((pays (at_plane (suc k) p) x +ℤ pays (at_plane (suc k) p) x) +ℤ pays (at_plane k p) y) +ℤ pos (bit_of k p))
down_one k (pos n) zero zero = omega (arith, ints, halves n k)
down_one k (pos n) zero (suc y) = omega (arith, ints, halves n k)
down_one k (pos n) (suc x) zero = omega (arith, ints, halves n k)
down_one k (pos n) (suc x) (suc y) = omega (arith, ints, halves n k)
down_one k (negsuc n) zero zero = omega (arith, ints, halves (suc n) k)
down_one k (negsuc n) zero (suc y) = omega (arith, ints, halves (suc n) k)
down_one k (negsuc n) (suc x) zero = omega (arith, ints, halves (suc n) k)
down_one k (negsuc n) (suc x) (suc y) = omega (arith, ints, halves (suc n) k)

join_rows : (a x c y A X C Y : ℤ) (b B D : ℕ) → D ≡ b + B →
    ((a +ℤ a) +ℤ x) ≤ℤ (((c +ℤ c) +ℤ y) +ℤ pos b) → ((A +ℤ A) +ℤ X) ≤ℤ (((C +ℤ C) +ℤ Y) +ℤ pos B) →
    (((a +ℤ A) +ℤ (a +ℤ A)) +ℤ (x +ℤ X)) ≤ℤ ((((c +ℤ C) +ℤ (c +ℤ C)) +ℤ (y +ℤ Y)) +ℤ pos D)
join_rows a x c y A X C Y b B D e h g = omega (arith, ints)

-- a point with no marks costs nothing
price_none : (k : ℕ) (ps : List ℤ) → price (row_at k ps) [] ≡ pos 0
price_none k [] = refl
price_none k (p ∷ ps) = refl

-- from one plane to the next: twice the advantage at plane k + 1 is the advantage at plane k, up to the bits of plane k
pub next_plane : (k : ℕ) (ps : List ℤ) (xs ys : List ℕ) →
    ((price (row_at (suc k) ps) ys +ℤ price (row_at (suc k) ps) ys) +ℤ price (row_at k ps) xs) ≤ℤ
    (((price (row_at (suc k) ps) xs +ℤ price (row_at (suc k) ps) xs) +ℤ price (row_at k ps) ys) +ℤ pos (bits k ps))
next_plane k [] xs ys = omega (arith, ints)
next_plane k (p ∷ ps) [] [] = omega (arith, ints)
next_plane k (p ∷ ps) [] (y ∷ ys) =
    omega (arith, ints, down_one k p 0 y, next_plane k ps [] ys, price_none k ps, price_none (suc k) ps, sum_by-cons (bit_of k) p ps)
next_plane k (p ∷ ps) (x ∷ xs) [] =
    omega (arith, ints, down_one k p x 0, next_plane k ps xs [], price_none k ps, price_none (suc k) ps, sum_by-cons (bit_of k) p ps)
next_plane k (p ∷ ps) (x ∷ xs) (y ∷ ys) =
    join_rows (pays (at_plane (suc k) p) y) (pays (at_plane k p) x) (pays (at_plane (suc k) p) x) (pays (at_plane k p) y) (price (row_at (suc k) ps) ys) (price (row_at k ps) xs) (price (row_at (suc k) ps) xs) (price (row_at k ps) ys) (bit_of k p) (bits k ps) (bits k (p ∷ ps)) (sum_by-cons (bit_of k) p ps) (down_one k p x y) (next_plane k ps xs ys)

-- remainders and ones, plane by plane
pub remainders_suc : (k : ℕ) (ps : List ℤ) → remainders (suc k) ps ≡ bits k ps * 2 ^ k + remainders k ps
remainders_suc k [] = sym (omega (arith, zero-mul (2 ^ k)))
remainders_suc k (p ∷ ps) =
    let f : ℤ → ℕ = λ q. nat_abs q % 2 ^ k in
    let g : ℤ → ℕ = λ q. nat_abs q % 2 ^ suc k in
    omega (arith, sum_by-cons g p ps, sum_by-cons f p ps, sum_by-cons (bit_of k) p ps, rest_of (nat_abs p) k, remainders_suc k ps, ap (λ (z : ℕ). z * 2 ^ k) (sum_by-cons (bit_of k) p ps) ∙ add-mul (bit_of k p) (bits k ps) (2 ^ k))

bit_small : (k : ℕ) (p : ℤ) → bit_of k p < 2
bit_small k p = mod-lt (nat_abs p / 2 ^ k) (omega arith)

ones_of : (b : ℕ) → b < 2 → one_bits b ≡ b
unfolding one_bits ones_in
ones_of zero h = refl
ones_of (suc zero) h = refl
ones_of (suc (suc b)) h = absurd (omega arith)

ones_low : (k n : ℕ) → one_bits (n % 2 ^ suc k) ≡ n / 2 ^ k % 2 + one_bits (n % 2 ^ k)
ones_low k n =
    ap one_bits (rest_of n k) ∙ ones_cat k (n / 2 ^ k % 2) (n % 2 ^ k) (mod-lt n (pow_pos k)) ∙
    ap (λ (z : ℕ). z + one_bits (n % 2 ^ k)) (ones_of (n / 2 ^ k % 2) (mod-lt (n / 2 ^ k) (omega arith)))

pub ones_below_suc : (k : ℕ) (ps : List ℤ) → ones_below (suc k) ps ≡ bits k ps + ones_below k ps
ones_below_suc k [] = omega arith
ones_below_suc k (p ∷ ps) =
    let f : ℤ → ℕ = λ q. one_bits (nat_abs q % 2 ^ k) in
    let g : ℤ → ℕ = λ q. one_bits (nat_abs q % 2 ^ suc k) in
    omega (arith, sum_by-cons g p ps, sum_by-cons f p ps, sum_by-cons (bit_of k) p ps, ones_low k (nat_abs p), ones_below_suc k ps)

pub ones_below_all : (k : ℕ) (ps : List ℤ) → Under (2 ^ k) ps → ones_below k ps ≡ ones ps
ones_below_all k [] u = refl
ones_below_all k (p ∷ ps) u =
    let f : ℤ → ℕ = λ q. one_bits (nat_abs q % 2 ^ k) in
    let g : ℤ → ℕ = λ q. one_bits (nat_abs q) in
    let e : one_bits (nat_abs p % 2 ^ k) ≡ one_bits (nat_abs p) = ap one_bits (mod-eq_of_lt u.0) in
    omega (arith, sum_by-cons f p ps, sum_by-cons g p ps, e, ones_below_all k ps u.1)

pub at_zero : (ps : List ℤ) → row_at 0 ps ≡ ps
at_zero [] = refl
at_zero (pos n ∷ ps) = ap₂ ◌∷◌ (ap pos (div-one n)) (at_zero ps)
at_zero (negsuc n ∷ ps) = ap₂ ◌∷◌ (ap (λ (z : ℕ). neg_ℤ (pos z)) (div-one (suc n))) (at_zero ps)

pub zeros_above : (k : ℕ) (ps : List ℤ) (xs : List ℕ) → Under (2 ^ k) ps → price (row_at k ps) xs ≡ pos 0
zeros_above k [] xs u = refl
zeros_above k (p ∷ ps) [] u = refl
zeros_above k (p ∷ ps) (x ∷ xs) u =
    omega (arith, ints, zero_at p x u.0, zeros_above k ps xs u.1)
  where
    zero_at : (p : ℤ) (x : ℕ) → nat_abs p < 2 ^ k → pays (at_plane k p) x ≡ pos 0
    zero_at p zero h = refl
    zero_at (pos n) (suc x) h = ap pos (div-eq_of_lt h)
    zero_at (negsuc n) (suc x) h = ap (λ (z : ℕ). neg_ℤ (pos z)) (div-eq_of_lt h)

lighter : (k : ℕ) (p : ℤ) → nat_abs (at_plane k p) ≤ nat_abs p
lighter k (pos n) = shr_le n k
lighter k (negsuc n) = omega (arith, ints, shr_le (suc n) k)

pub weight_at : (k : ℕ) (ps : List ℤ) → weight (row_at k ps) ≤ weight ps
weight_at k [] = omega arith
weight_at k (p ∷ ps) =
    omega (arith, sum_by-cons nat_abs p ps, sum_by-cons nat_abs (at_plane k p) (row_at k ps), lighter k p, weight_at k ps)

pub length_at : (k : ℕ) (ps : List ℤ) → length (row_at k ps) ≡ length ps
length_at k [] = refl
length_at k (p ∷ ps) = ap suc (length_at k ps)

pub twice : (j k : ℕ) → j * 2 ^ suc k ≡ (2 * j) * 2 ^ k
twice j k =
    ap (λ (z : ℕ). j * z) (pow-suc 2 k) ∙ sym (mul_assoc j (2 ^ k) 2) ∙ mul_comm (j * 2 ^ k) 2 ∙ sym (mul_assoc 2 j (2 ^ k))

-- an advantage at plane k is one at the full prices, up to the remainders
pub full_prices : (k : ℕ) (ps : List ℤ) (xs ys : List ℕ) (j b : ℕ) →
    (price (row_at k ps) xs +ℤ pos j) ≤ℤ (price (row_at k ps) ys +ℤ pos b) →
    (price ps xs +ℤ pos (j * 2 ^ k)) ≤ℤ (price ps ys +ℤ pos (b * 2 ^ k + remainders k ps))
full_prices zero ps xs ys j b h =
    let h' : (price ps xs +ℤ pos j) ≤ℤ (price ps ys +ℤ pos b) = rw at_zero at h in
    omega (arith, ints)
full_prices (suc k) ps xs ys j b h =
    let one = next_plane k ps xs ys in
    let g : (price (row_at k ps) xs +ℤ pos (2 * j)) ≤ℤ (price (row_at k ps) ys +ℤ pos (2 * b + bits k ps)) = omega (arith, ints) in
    let r = full_prices k ps xs ys (2 * j) (2 * b + bits k ps) g in
    let w : b * 2 ^ suc k + remainders (suc k) ps ≡ (2 * b + bits k ps) * 2 ^ k + remainders k ps =
    omega (arith, twice b k, add-mul (2 * b) (bits k ps) (2 ^ k), remainders_suc k ps) in
    simp (twice j k, w) r

-- the planes of a row reach its largest magnitude
module _ where
  grows : (ps : List ℤ) (a : ℕ) → a ≤ fold (λ (b : ℕ) (p : ℤ). max b (nat_abs p)) a ps
  grows [] a = omega arith
  grows (p ∷ ps) a = let h = grows ps (max a (nat_abs p)) in omega arith

  pub under_largest : (ps : List ℤ) (a m : ℕ) → fold (λ (b : ℕ) (p : ℤ). max b (nat_abs p)) a ps < m → Under m ps
  under_largest [] a m h = tt
  under_largest (p ∷ ps) a m h = let g = grows ps (max a (nat_abs p)) in (omega arith, under_largest ps (max a (nat_abs p)) m h)

pub under_planes : (ps : List ℤ) → largest ps < 2 ^ 64 → Under (2 ^ planes ps) ps
under_planes ps h =
    let l = leading_length 64 (largest ps) h in
    let e : l.0 ≡ planes ps = omega arith in
    under_largest ps 0 (2 ^ planes ps) (subst (λ (z : ℕ). largest ps < 2 ^ z) e l.2)

pub ones_below_zero : (ps : List ℤ) → ones_below 0 ps ≡ 0
ones_below_zero [] = refl
ones_below_zero (p ∷ ps) =
    let f : ℤ → ℕ = λ q. one_bits (nat_abs q % 2 ^ 0) in
    let e : one_bits (nat_abs p % 1) ≡ 0 = ap one_bits (mod-one (nat_abs p)) ∙ ones_of 0 (omega arith) in
    omega (arith, sum_by-cons f p ps, ones_below_zero ps)

-- the largest magnitude is no more than the weight
top_sum : (ps : List ℤ) (a : ℕ) → fold (λ (b : ℕ) (p : ℤ). max b (nat_abs p)) a ps ≤ a + weight ps
top_sum [] a = omega arith
top_sum (p ∷ ps) a = omega (arith, top_sum ps (max a (nat_abs p)), sum_by-cons nat_abs p ps)

pub top_light : (ps : List ℤ) → largest ps ≤ weight ps
top_light ps = omega (arith, top_sum ps 0)

pub few_planes : (ps : List ℤ) → weight ps < 2 ^ 40 → planes ps ≤ 40
few_planes ps h =
    let l = leading_length 64 (largest ps) (omega (arith, top_light ps)) in
    let t = top_light ps in
    let e : l.0 ≡ planes ps = omega arith in
    let q : 2 ^ l.0 < 2 ^ 41 = omega (arith, l.3) in
    let g : l.0 < 41 = lt_of_not-le (λ (w : 41 ≤ l.0). let z = pow_mono w in omega arith) in
    omega arith

pub few_ones : (ps : List ℤ) → Under (2 ^ 40) ps → ones ps ≤ length ps * 40
few_ones [] u = omega arith
few_ones (p ∷ ps) u =
    let f : ℤ → ℕ = λ q. one_bits (nat_abs q) in
    omega (arith, sum_by-cons f p ps, ones-le 40 (nat_abs p) u.0, few_ones ps u.1)

pub bits_few : (k : ℕ) (ps : List ℤ) → bits k ps ≤ length ps
bits_few k [] = omega arith
bits_few k (p ∷ ps) = omega (arith, sum_by-cons (bit_of k) p ps, bit_small k p, bits_few k ps)

-- the number of binary digits, by the leading zeros
pub digits_of : (n : ℕ) → n < 2 ^ 64 → Digits n (64 - count_leading_zeros 64 n)
digits_of n h =
    let l = leading_length 64 n h in
    let e : l.0 ≡ 64 - count_leading_zeros 64 n = omega arith in
    subst (Digits n) e (l.2, λ (g : 0 < l.0). high l.0 g l.3)
  where
    high : (m : ℕ) → 0 < m → 2 ^ m ≤ 2 * n + 1 → 2 ^ (m - 1) ≤ n
    high zero g k = absurd (omega arith)
    high (suc m) g k =
        let e : suc m - 1 ≡ m = omega arith in
        let q = pow-suc 2 m in
        subst (λ (z : ℕ). 2 ^ z ≤ n) (sym e) (omega (arith, q))

-- beyond the digits of a number
pub quotient_past : (n k : ℕ) → n < 2 ^ 64 → 64 ≤ k → n / 2 ^ k ≡ 0
quotient_past n k h g = div-eq_of_lt (let z = pow_mono g in omega arith)

pub remainder_past : (n k : ℕ) → n < 2 ^ 64 → 64 ≤ k → n % 2 ^ k ≡ n
remainder_past n k h g = mod-eq_of_lt (let z = pow_mono g in omega arith)

-- one more coordinate of a price
pub price_ends : (ps : List ℤ) (xs : List ℕ) → (length ps ≡ 0) ⊎ (length xs ≡ 0) → price ps xs ≡ pos 0
price_ends [] xs h = refl
price_ends (p ∷ ps) [] h = refl
price_ends (p ∷ ps) (x ∷ xs) h = ⊎_elim (λ e. absurd (omega arith)) (λ e. absurd (omega arith)) h

pub plane_laws : (k : ℕ) (ps : List ℤ) → PlaneLaws k ps
plane_laws k ps = record {
  next = next_plane k ps;
  full = full_prices k ps;
  rest = remainders_suc k ps;
  low_ones = ones_below_suc k ps;
  lighter = weight_at k ps;
}
