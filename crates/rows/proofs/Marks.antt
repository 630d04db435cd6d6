-- Rows of marks.
use Rattle.std.proofs.Common.{ℕ, suc, List, ◌∷◌, arith}
use Rattle.rows.specs.Points.{Marks, BadMark}

-- a row of marks has no bad mark
pub marks_good : (x : List ℕ) (i : ℕ) → Marks x → BadMark x i → ⊥
marks_good x i m b = let h = m i b.0 in let g = b.1 in omega arith

-- without its first entry it is one still
pub marks_rest : (a : ℕ) (x : List ℕ) → Marks (a ∷ x) → Marks x
marks_rest a x h = λ i l. h (suc i) (omega arith)
