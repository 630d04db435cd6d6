-- Listed sets: the members are the points whose packed form stands in a list of rows.
-- n is the dimension, R the reach; a row is a packed point of 16 bytes.
use Rattle.std.specs.Prelude.{◌≡◌, ℕ, ◌^◌, ◌<◌, ◌≤◌, List, [], ◌∷◌, length, slice_index_or}
use Rattle.rows.specs.Points.{Point}
use Rattle.rows.specs.Packed.{packed, ClearFrom}
use Rattle.rows.specs.Refusals.{Check, ask, ask_at}
use Rattle.rows.specs.declared.refusals.Fault.TheVariants.{Dimension, TooMany, Reach, OutOfRange}

-- the members: the points that some row packs
abbrev pub ListedIn : ℕ → List (List ℕ) → List ℕ → Type 0
ListedIn n rows x = Point n x × ((k : ℕ) × (k < length rows) × (slice_index_or rows k [] ≡ packed x))

-- no row has a bit from coordinate n on
abbrev pub ClearRows : ℕ → List (List ℕ) → Type 0
ClearRows n rows = (k : ℕ) → k < length rows → ClearFrom n (slice_index_or rows k [])

-- row k is the first that has one
abbrev pub StrayRow : ℕ → List (List ℕ) → ℕ → Type 0
StrayRow n rows k = (k < length rows) × (ClearFrom n (slice_index_or rows k []) → ⊥) × ((j : ℕ) → j < k → ClearFrom n (slice_index_or rows j []))

-- the checks of a making, in their order
abbrev pub making_checks : ℕ → ℕ → List (List ℕ) → List Check
making_checks n R rows =
    ask Dimension (n ≤ 128) ∷ ask TooMany (length rows ≤ 256) ∷ ask Reach (R < 2 ^ 40) ∷ ask_at OutOfRange (ClearRows n rows) (StrayRow n rows) ∷ []
