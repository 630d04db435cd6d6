-- A row of marks as text.
use Rattle.std.specs.Prelude.{◌+◌, ℕ, List, map}
use Rattle.rows.specs.Packed.{digit}

-- the character 0 for a mark of 0, and 1 for any other byte
abbrev pub digits : List ℕ → List ℕ
digits row = map (λ mark. 48 + digit mark) row
