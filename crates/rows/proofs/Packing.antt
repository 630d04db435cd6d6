-- Packing and unpacking are inverse: the bits of a packed row are its marks, and bytes with equal bits are equal.
use Rattle.std.proofs.Common.{◌≡◌, ℕ, zero, suc, Option, None, Some, MatchOption, ◌+◌, ◌-◌, ◌*◌, ◌/◌, ◌%◌, ◌^◌, ◌<◌, ◌≤◌, List, [], ◌∷◌, length, get_or, take, drop, sym, refl, ap, ◌∙◌, subst, ⊎_elim, pow-suc, div-one, arith, pow_mono, shr-shr}
use native.Mathlib.Nat.{zero-div}
use Rattle.std.proofs.lemmas.Bool.{cases_lt}
use Rattle.std.proofs.lemmas.List.{get_or_past, get_or-take, get_or-drop, length-take, length-drop}
use Rattle.std.proofs.lemmas.List.FromFn.{get_or-map-range_with_len, fill_by_all, length-map-range_with_len}
use Rattle.rows.specs.Points.{Point}
use Rattle.rows.specs.Packed.{bit_at, unpacked, digit, value, byte_of, packed, ClearFrom, StrayBit}

-- what stands beyond the bytes
none_of : (j : ℕ) → 0 / 2 ^ j % 2 ≡ 0
none_of j = ap (λ (z : ℕ). z % 2) (zero-div (2 ^ j))

pub bit_past : (bs : List ℕ) (i : ℕ) → length bs ≤ i / 8 → bit_at bs i ≡ 0
bit_past bs i h = ap (λ (z : ℕ). z / 2 ^ (i % 8) % 2) (get_or_past bs (i / 8) 0 h) ∙ none_of (i % 8)

pub bit_small : (bs : List ℕ) (i : ℕ) → bit_at bs i ≤ 1
bit_small bs i = omega arith

-- a number by its digits
pub digit_small : (x : ℕ) → digit x ≤ 1
digit_small zero = omega arith
digit_small (suc x) = omega arith

digit_of : (x : ℕ) → x ≤ 1 → digit x ≡ x
digit_of zero h = refl
digit_of (suc x) h = omega arith

halved : (a j : ℕ) → a / 2 ^ suc j ≡ a / 2 / 2 ^ j
halved a j = ap (λ (z : ℕ). a / 2 ^ z) (omega arith) ∙ sym (shr-shr a 1 j)

digit_at : (xs : List ℕ) (j : ℕ) → value xs / 2 ^ j % 2 ≡ digit (get_or xs j 0)
digit_at [] j = none_of j
digit_at (x ∷ xs) zero =
    let d = digit_small x in
    let e = div-one (digit x + 2 * value xs) in
    omega arith
digit_at (x ∷ xs) (suc j) =
    let d = digit_small x in
    let h : (digit x + 2 * value xs) / 2 ≡ value xs = omega arith in
    ap (λ (z : ℕ). z % 2) (halved (digit x + 2 * value xs) j ∙ ap (λ (z : ℕ). z / 2 ^ j) h) ∙ digit_at xs j

value_small : (xs : List ℕ) → value xs < 2 ^ length xs
value_small [] = omega arith
value_small (x ∷ xs) = let d = digit_small x in let h = value_small xs in let e = pow-suc 2 (length xs) in omega arith

value_below : (xs : List ℕ) (m : ℕ) → length xs ≤ m → value xs < 2 ^ m
value_below xs m h = let v = value_small xs in let p = pow_mono h in omega arith

value_more : (xs : List ℕ) (j : ℕ) → value (drop j xs) ≡ digit (get_or xs j 0) + 2 * value (drop (suc j) xs)
value_more [] zero = refl
value_more [] (suc j) = refl
value_more (x ∷ xs) zero = refl
value_more (x ∷ xs) (suc j) = value_more xs j

same_digits : (m a b : ℕ) → a < 2 ^ m → b < 2 ^ m → ((j : ℕ) → j < m → a / 2 ^ j % 2 ≡ b / 2 ^ j % 2) → a ≡ b
same_digits zero a b h k e = omega arith
same_digits (suc m) a b h k e =
    let p = pow-suc 2 m in
    let low = e 0 (omega arith) in
    let da = div-one a in
    let db = div-one b in
    let high = same_digits m (a / 2) (b / 2) (omega arith) (omega arith) (λ j g.
    sym (ap (λ (z : ℕ). z % 2) (halved a j)) ∙ e (suc j) (omega arith) ∙ ap (λ (z : ℕ). z % 2) (halved b j)) in
    omega arith

-- the bits of a packed row
byte_digit : (xs : List ℕ) (b j : ℕ) → j < 8 → byte_of xs b / 2 ^ j % 2 ≡ digit (get_or xs (8 * b + j) 0)
byte_digit xs b j h =
    digit_at (take 8 (drop (8 * b) xs)) j ∙ ap digit (get_or-take 8 (drop (8 * b) xs) j 0 h ∙ get_or-drop (8 * b) xs j 0)

byte_small : (xs : List ℕ) (b : ℕ) → byte_of xs b < 2 ^ 8
byte_small xs b = value_below (take 8 (drop (8 * b) xs)) 8 (simp length-take (omega arith))

-- a loop that sums up a byte from its highest digit down: what the digits from j on come to
abbrev pub from_digit : List ℕ → ℕ → ℕ → ℕ
from_digit xs b j = value (drop j (take 8 (drop (8 * b) xs)))

pub from_small : (xs : List ℕ) (b j : ℕ) → 0 < j → from_digit xs b j < 2 ^ 7
from_small xs b j h = value_below (drop j (take 8 (drop (8 * b) xs))) 7 (simp (length-drop, length-take) (omega arith))

pub from_more : (xs : List ℕ) (b j s m d : ℕ) → 0 < j → j ≤ 8 → s ≡ from_digit xs b j → m ≡ get_or xs (8 * b + (j - 1)) 0 → d ≡ digit m → 2 * s + d ≡ from_digit xs b (j - 1)
from_more xs b zero s m d h k es em ed = absurd (omega arith)
from_more xs b (suc j) s m d h k es em ed =
    let ys = take 8 (drop (8 * b) xs) in
    let e : suc j - 1 ≡ j = omega arith in
    let v = value_more ys j in
    let g : get_or ys j 0 ≡ get_or xs (8 * b + j) 0 = get_or-take 8 (drop (8 * b) xs) j 0 (omega arith) ∙ get_or-drop (8 * b) xs j 0 in
    let q : d ≡ digit (get_or ys j 0) = ed ∙ ap digit (em ∙ ap (λ (z : ℕ). get_or xs (8 * b + z) 0) e ∙ sym g) in
    let r : 2 * s + d ≡ from_digit xs b j = omega arith in
    subst (λ (z : ℕ). 2 * s + d ≡ from_digit xs b z) (sym e) r

packed_byte : (xs : List ℕ) (b : ℕ) → b < 16 → get_or (packed xs) b 0 ≡ byte_of xs b
unfolding packed
packed_byte xs b h = get_or-map-range_with_len (byte_of xs) 0 16 b b 0 h (omega arith)

bit_packed : (xs : List ℕ) (i : ℕ) → i < 128 → bit_at (packed xs) i ≡ digit (get_or xs i 0)
bit_packed xs i h =
    ap (λ (z : ℕ). z / 2 ^ (i % 8) % 2) (packed_byte xs (i / 8) (omega arith)) ∙
    byte_digit xs (i / 8) (i % 8) (omega arith) ∙ ap (λ (z : ℕ). digit (get_or xs z 0)) (omega arith)

-- sixteen bytes that are those of xs
pub packed_is : (xs bs : List ℕ) → length bs ≡ 16 → ((b : ℕ) → b < 16 → get_or bs b 0 ≡ byte_of xs b) → bs ≡ packed xs
unfolding packed
packed_is xs bs l h = fill_by_all (byte_of xs) bs 16 0 l h

pub unpacked_packed : (n : ℕ) (xs : List ℕ) → n ≤ 128 → Point n xs → unpacked n (packed xs) ≡ xs
unpacked_packed n xs h p =
    sym (fill_by_all (bit_at (packed xs)) xs n 0 p.0 (λ k g.
    sym (bit_packed xs k (omega arith) ∙ digit_of (get_or xs k 0) (p.1 k (omega (arith, p.0))))))

-- the marks of an unpacked point
pub unpacked_point : (n : ℕ) (bs : List ℕ) → Point n (unpacked n bs)
unpacked_point n bs = (
  length-map-range_with_len (bit_at bs) 0 n,
  λ i h.
      let l = length-map-range_with_len (bit_at bs) 0 n in
      let e = get_or-map-range_with_len (bit_at bs) 0 n i i 0 (omega arith) (omega arith) in
      let s = bit_small bs i in
      omega arith,
)

unpacked_digit : (n : ℕ) (bs : List ℕ) (i : ℕ) → ClearFrom n bs → digit (get_or (unpacked n bs) i 0) ≡ bit_at bs i
unpacked_digit n bs i c =
    ⊎_elim
    (λ (h : i < n). ap digit (get_or-map-range_with_len (bit_at bs) 0 n i i 0 h (omega arith)) ∙ digit_of (bit_at bs i) (bit_small bs i))
    (λ (h : n ≤ i). ap digit (get_or_past (unpacked n bs) i 0 (let l = length-map-range_with_len (bit_at bs) 0 n in omega arith)) ∙ sym (c i h))
    (cases_lt i n)

pub packed_unpacked : (n : ℕ) (bs : List ℕ) → length bs ≡ 16 → ((b : ℕ) → b < 16 → get_or bs b 0 < 2 ^ 8) → ClearFrom n bs → packed (unpacked n bs) ≡ bs
packed_unpacked n bs l f c =
    sym (packed_is xs bs l (λ b h.
    same_digits 8 (get_or bs b 0) (byte_of xs b) (f b h) (byte_small xs b) (λ j g.
    sym (byte_digit xs b j g ∙ unpacked_digit n bs (8 * b + j) c ∙ here b j g))))
  where
    xs : List ℕ
    xs = unpacked n bs

    here : (b j : ℕ) → j < 8 → bit_at bs (8 * b + j) ≡ get_or bs b 0 / 2 ^ j % 2
    here b j g =
        let q : (8 * b + j) / 8 ≡ b = omega arith in
        let r : (8 * b + j) % 8 ≡ j = omega arith in
        ap (λ (z : ℕ). get_or bs z 0 / 2 ^ ((8 * b + j) % 8) % 2) q ∙ ap (λ (z : ℕ). get_or bs b 0 / 2 ^ z % 2) r

-- a search of the coordinates from n to 128 for a set bit
pub first_stray : (n : ℕ) (bs : List ℕ) (r : Option ℕ) → length bs ≡ 16 →
    MatchOption r ((k : ℕ) → n ≤ k → k < 128 → bit_at bs k ≡ 0) (λ i. (n ≤ i) × (i < 128) × (bit_at bs i ≡ 1) × ((k : ℕ) → n ≤ k → k < i → bit_at bs k ≡ 0)) →
    MatchOption r (ClearFrom n bs) (λ i. StrayBit n bs i)
first_stray n bs None l h = λ i g. ⊎_elim (λ (s : i < 128). h i g s) (λ (s : 128 ≤ i). bit_past bs i (omega arith)) (cases_lt i 128)
first_stray n bs (Some i) l h = (h.0, h.2, h.3)
