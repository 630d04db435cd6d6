-- Pinned sets: the members of a set below that agree with a row of pins; an entry 0 or 1 pins its coordinate, 2 leaves it free.
-- n is the dimension, R the reach below, M says which rows are members below, s is the row of pins, x a row, ps are prices.
use Rattle.std.specs.Prelude.{◌≡◌, ℕ, zero, suc, ◌+◌, ◌-◌, ◌/◌, ◌<◌, ◌≤◌, List, [], ◌∷◌, ◌++◌, length, ℤ, pos, neg_ℤ, sum_by, slice_index}
use Rattle.std.specs.Simd.Lanes.{zip2}
use Rattle.rows.specs.Prices.{weight}
use Rattle.rows.specs.Refusals.{Check, ask}
use Rattle.rows.specs.declared.refusals.Fault.TheVariants.{Pins}
use Rattle.augmenter.specs.Questions.{row_checks}

-- x agrees with every 0 and every 1 of s
abbrev pub Keeps : List ℕ → List ℕ → Type 0
Keeps s x = (i : ℕ) → i < length s → slice_index s i ≤ 1 → slice_index x i ≡ slice_index s i

-- the members
abbrev pub PinnedIn : (List ℕ → Type 0) → List ℕ → List ℕ → Type 0
PinnedIn M s x = M x × Keeps s x

-- the number of pins: the entries that are 0 or 1
abbrev pub is_pin : ℕ → ℕ
is_pin zero = 1
is_pin (suc zero) = 1
is_pin (suc (suc _)) = 0

abbrev pub pin_count : List ℕ → ℕ
pin_count s = sum_by is_pin s

-- the reach over a reach R with f pins
abbrev pub reach_over : ℕ → ℕ → ℕ
reach_over R f = (R - f) / (f + 1)

-- the price asked below: k at a pin to 0, −k at a pin to 1, the given one where the coordinate is free
abbrev pub asked : ℕ → ℤ → ℕ → ℤ
asked k p zero = pos k
asked k p (suc zero) = neg_ℤ (pos k)
asked k p (suc (suc _)) = p

abbrev pub asked_prices : ℕ → List ℤ → List ℕ → List ℤ
asked_prices k ps s = zip2 (asked k) ps s

-- the prices of the question put below: to break a pin costs more than all prices together
abbrev pub prices_below : List ℤ → List ℕ → List ℤ
prices_below ps s = asked_prices (weight ps + 1) ps s

-- the checks of a making, in their order
abbrev pub making_checks : ℕ → ℕ → List ℕ → List Check
making_checks n R s = row_checks n 2 s ++ (ask Pins (pin_count s ≤ R) ∷ [])
