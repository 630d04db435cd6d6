-- The laws of planes, for a price row ps and a plane k: what a step from plane k + 1 to plane k, and from plane k to the full prices, can change.
-- x and y are any two points.
use Rattle.std.specs.Prelude.{◌≡◌, ℕ, suc, ◌+◌, ◌*◌, ◌^◌, ◌≤◌, List, ℤ, pos, ◌+ℤ◌, ◌≤ℤ◌}
use Rattle.rows.specs.Prices.{price, weight, row_at, remainders, bits, ones_below}

abbrev pub twice : ℤ → ℤ
twice p = p +ℤ p

pub record PlaneLaws (k : ℕ) (ps : List ℤ) : Type 0 where
  -- twice an advantage at plane k + 1 is one at plane k, up to the magnitudes that have bit k
  pub next : (x y : List ℕ) →
      (twice (price (row_at (suc k) ps) y) +ℤ price (row_at k ps) x) ≤ℤ ((twice (price (row_at (suc k) ps) x) +ℤ price (row_at k ps) y) +ℤ pos (bits k ps))
  -- an advantage at plane k is one at the full prices, up to the remainders
  pub full : (x y : List ℕ) (j b : ℕ) → (price (row_at k ps) x +ℤ pos j) ≤ℤ (price (row_at k ps) y +ℤ pos b) →
      (price ps x +ℤ pos (j * 2 ^ k)) ≤ℤ (price ps y +ℤ pos (b * 2 ^ k + remainders k ps))
  -- remainders and ones, one plane up
  pub rest : remainders (suc k) ps ≡ bits k ps * 2 ^ k + remainders k ps
  pub low_ones : ones_below (suc k) ps ≡ bits k ps + ones_below k ps
  -- a row at a plane weighs no more than the row
  pub lighter : weight (row_at k ps) ≤ weight ps
