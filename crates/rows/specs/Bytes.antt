-- Numbers in bytes, the high byte first, and signed numbers in two's complement.
-- A number that needs more bytes than there are loses its high ones.
use Rattle.std.specs.Prelude.{ℕ, zero, suc, ◌-◌, ◌/◌, ◌%◌, ◌^◌, List, [], ◌∷◌, ℤ, pos, negsuc}

-- a number in w bytes
abbrev pub big_endian : ℕ → ℕ → List ℕ
big_endian zero v = []
big_endian (suc zero) v = v % 256 ∷ []
big_endian (suc (suc w)) v = v / 256 ^ suc w % 256 ∷ big_endian (suc w) v

-- a signed number of 128 bits, as a number below 2^128
abbrev pub complement : ℤ → ℕ
complement (pos m) = m
complement (negsuc m) = 2 ^ 128 - suc m

-- a signed number in w bytes
abbrev pub signed_bytes : ℕ → ℤ → List ℕ
signed_bytes w z = big_endian w (complement z)
