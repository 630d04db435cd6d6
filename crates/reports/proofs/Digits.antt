-- The text of a row of marks is UTF-8.
use Rattle.std.proofs.Common.{ℕ, zero, suc, ◌+◌, ◌<◌, List, [], ◌∷◌, get_or, arith}
use Rattle.std.specs.Str.{IsUtf8}
use Rattle.std.proofs.lemmas.Str.{IsUtf8-from_ascii}
use Rattle.rows.specs.Packed.{digit}
use Rattle.reports.specs.Marks.{digits}

character : (mark : ℕ) → 48 + digit mark < 128
character zero = omega arith
character (suc mark) = omega arith

ascii : (row : List ℕ) (i : ℕ) → get_or (digits row) i 0 < 128
ascii [] zero = omega arith
ascii [] (suc i) = omega arith
ascii (mark ∷ row) zero = character mark
ascii (mark ∷ row) (suc i) = ascii row i

pub digits_utf8 : (row : List ℕ) → IsUtf8 (digits row)
digits_utf8 row = IsUtf8-from_ascii (digits row) (ascii row)
