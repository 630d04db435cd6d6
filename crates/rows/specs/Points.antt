-- Points: rows of n marks, each 0 or 1, with coordinates counted from 0.
-- A mark is a byte of such a row; a row of any bytes has a first bad mark or is a row of marks.
use Rattle.std.specs.Prelude.{◌≡◌, ℕ, ◌<◌, ◌≤◌, List, length, slice_index}

-- no byte is above m
abbrev pub UpTo : ℕ → List ℕ → Type 0
UpTo m xs = (i : ℕ) → i < length xs → slice_index xs i ≤ m

-- i is the index of the first byte above m
abbrev pub FirstAbove : ℕ → List ℕ → ℕ → Type 0
FirstAbove m xs i = (i < length xs) × (m < slice_index xs i) × ((k : ℕ) → k < i → slice_index xs k ≤ m)

-- every byte is 0 or 1
abbrev pub Marks : List ℕ → Type 0
Marks xs = UpTo 1 xs

-- a point of dimension n
abbrev pub Point : ℕ → List ℕ → Type 0
Point n xs = (length xs ≡ n) × Marks xs

-- i is the index of the first byte above 1
abbrev pub BadMark : List ℕ → ℕ → Type 0
BadMark xs i = FirstAbove 1 xs i
