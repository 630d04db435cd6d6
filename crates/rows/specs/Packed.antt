-- Packed points: 16 bytes, where coordinate i is the bit of value 2^(i mod 8) in byte i div 8.
-- Bits from the dimension on are 0 in a packed point of that dimension.
use Rattle.std.specs.Prelude.{◌≡◌, ℕ, zero, suc, ◌+◌, ◌*◌, ◌/◌, ◌%◌, ◌^◌, ◌<◌, ◌≤◌, List, [], ◌∷◌, map, take, drop, slice_index}
use Rattle.std.specs.List.{range_with_len}

-- the bit of coordinate i
abbrev pub bit_at : List ℕ → ℕ → ℕ
bit_at bs i = slice_index bs (i / 8) / 2 ^ (i % 8) % 2

-- the first n coordinates of a packed point, as a row of marks
abbrev pub unpacked : ℕ → List ℕ → List ℕ
unpacked n bs = map (bit_at bs) (range_with_len 0 n)

-- a mark as a binary digit: any byte but 0 is a one
abbrev pub digit : ℕ → ℕ
digit zero = 0
digit (suc _) = 1

-- the number with these binary digits, the lowest first
abbrev pub value : List ℕ → ℕ
value [] = 0
value (x ∷ xs) = digit x + 2 * value xs

-- byte b of a packed point: the coordinates from 8 b on, eight of them
abbrev pub byte_of : List ℕ → ℕ → ℕ
byte_of xs b = value (take 8 (drop (8 * b) xs))

-- a row of marks packed; coordinates from 128 on are left out
unfoldable pub packed : List ℕ → List ℕ
packed xs = map (byte_of xs) (range_with_len 0 16)

-- no bit from coordinate n on is set
abbrev pub ClearFrom : ℕ → List ℕ → Type 0
ClearFrom n bs = (i : ℕ) → n ≤ i → bit_at bs i ≡ 0

-- i is the first coordinate from n on whose bit is set
abbrev pub StrayBit : ℕ → List ℕ → ℕ → Type 0
StrayBit n bs i = (n ≤ i) × (bit_at bs i ≡ 1) × ((k : ℕ) → n ≤ k → k < i → bit_at bs k ≡ 0)
