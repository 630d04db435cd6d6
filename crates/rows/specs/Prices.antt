-- Price rows: the price of a point, weight, ones, planes, and the row at a plane.
-- A price row is a list of whole numbers; a plane is one binary digit of the magnitudes, plane 0 the lowest.
use Rattle.std.specs.Prelude.{ℕ, zero, suc, ◌-◌, ◌/◌, ◌%◌, ◌^◌, ◌<◌, ◌≤◌, max, List, [], ◌∷◌, map, ℤ, pos, negsuc, ◌+ℤ◌, neg_ℤ, fold, sum_by, unsigned_abs}
use Rattle.std.specs.Int.Count as count

-- what a coordinate adds: its price at a one, nothing at a zero
abbrev pub pays : ℤ → ℕ → ℤ
pays p zero = pos 0
pays p (suc _) = p

-- the price of a point: the sum of the prices at its ones
abbrev pub price : List ℤ → List ℕ → ℤ
price [] xs = pos 0
price (p ∷ ps) [] = pos 0
price (p ∷ ps) (x ∷ xs) = pays p x +ℤ price ps xs

-- the weight: the sum of the magnitudes
abbrev pub weight : List ℤ → ℕ
weight ps = sum_by unsigned_abs ps

-- the ones: the one bits of the magnitudes
abbrev pub ones : List ℤ → ℕ
ones ps = sum_by (λ p. count.ones (unsigned_abs p)) ps

-- the largest magnitude, 0 for an empty row
abbrev pub largest : List ℤ → ℕ
largest ps = fold (λ a p. max a (unsigned_abs p)) 0 ps

-- m is the number of binary digits of n; 0 has none
abbrev pub Digits : ℕ → ℕ → Type 0
Digits n m = (n < 2 ^ m) × (0 < m → 2 ^ (m - 1) ≤ n)

-- the planes: the number of binary digits of the largest magnitude, which has at most 64
abbrev pub planes : List ℤ → ℕ
planes ps = 64 - count.count_leading_zeros 64 (largest ps)

-- the magnitude m with the sign of p
abbrev pub signed : ℤ → ℕ → ℤ
signed (pos _) m = pos m
signed (negsuc _) m = neg_ℤ (pos m)

-- a price at plane k: its sign, and the quotient of its magnitude by 2^k
abbrev pub at_plane : ℕ → ℤ → ℤ
at_plane k p = signed p (unsigned_abs p / 2 ^ k)

-- the row at plane k
abbrev pub row_at : ℕ → List ℤ → List ℤ
row_at k ps = map (at_plane k) ps

-- what the row at plane k leaves out: the sum of the remainders of the magnitudes by 2^k
abbrev pub remainders : ℕ → List ℤ → ℕ
remainders k ps = sum_by (λ p. unsigned_abs p % 2 ^ k) ps

-- bit k of a magnitude, and how many magnitudes have it set
abbrev pub bit_of : ℕ → ℤ → ℕ
bit_of k p = unsigned_abs p / 2 ^ k % 2

abbrev pub bits : ℕ → List ℤ → ℕ
bits k ps = sum_by (bit_of k) ps

-- the ones below plane k: the one bits of the remainders by 2^k
abbrev pub ones_below : ℕ → List ℤ → ℕ
ones_below k ps = sum_by (λ p. count.ones (unsigned_abs p % 2 ^ k)) ps

-- every magnitude is below m
abbrev pub Under : ℕ → List ℤ → Type 0
Under m [] = Unit {0}
Under m (p ∷ ps) = (unsigned_abs p < m) × Under m ps
