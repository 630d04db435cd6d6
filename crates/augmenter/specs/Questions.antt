-- Questions: what an augmenter promises of a price row, a point and an output row, whatever its set of members is.
-- n is the dimension, R the reach, M says which rows are members; ps are the prices, x the point, o and o' the output row before and after.
use Rattle.std.specs.Prelude.{◌≡◌, ℕ, ◌≤◌, List, [], ◌∷◌, ◌++◌, length, ℤ, ◌≤ℤ◌, ◌<ℤ◌, Ok, Err, Result}
use Rattle.rows.specs.Points.{UpTo, FirstAbove, Marks, BadMark}
use Rattle.rows.specs.Prices.{price, weight}
use Rattle.rows.specs.Refusals.{Check, ask, ask_at, Passes, RefusedBy}
use Rattle.rows.specs.declared.refusals.Fault.TheVariants.{Length, Mark, Weight, NotMember}
use Rattle.rows.specs.declared.refusals.Refusal.{Refusal}
use Rattle.augmenter.specs.declared.answers.Answer.{Answer}
use Rattle.augmenter.specs.declared.answers.Answer.TheVariants.{Found, Nothing}

-- prices, point and an output row of length m have the dimension
abbrev pub Lengths : ℕ → List ℤ → List ℕ → ℕ → Type 0
Lengths n ps x m = (length ps ≡ n) × (length x ≡ n) × (m ≡ n)

-- the checks that are the same for every set, in their order
abbrev pub shared_checks : ℕ → ℕ → List ℤ → List ℕ → ℕ → List Check
shared_checks n R ps x m = ask Length (Lengths n ps x m) ∷ ask_at Mark (Marks x) (BadMark x) ∷ ask Weight (weight ps ≤ R) ∷ []

-- the checks of a row s of n bytes none of which is above m
abbrev pub row_checks : ℕ → ℕ → List ℕ → List Check
row_checks n m s = ask Length (length s ≡ n) ∷ ask_at Mark (UpTo m s) (FirstAbove m s) ∷ []

-- the checks of a question, in their order
abbrev pub checks : ℕ → ℕ → (List ℕ → Type 0) → List ℤ → List ℕ → ℕ → List Check
checks n R M ps x m = shared_checks n R ps x m ++ (ask NotMember (M x) ∷ [])

-- no member is cheaper than x
abbrev pub Cheapest : (List ℕ → Type 0) → List ℤ → List ℕ → Type 0
Cheapest M ps x = (y : List ℕ) → M y → price ps x ≤ℤ price ps y

-- y is a member that is cheaper than x
abbrev pub Cheaper : (List ℕ → Type 0) → List ℤ → List ℕ → List ℕ → Type 0
Cheaper M ps x y = M y × (price ps y <ℤ price ps x)

-- what each answer says
abbrev pub Answered : (List ℕ → Type 0) → List ℤ → List ℕ → List ℕ → List ℕ → Answer → Type 0
Answered M ps x o o' Found = Cheaper M ps x o'
Answered M ps x o o' Nothing = Cheapest M ps x × (o' ≡ o)

-- what *better* promises: an answer exactly where every check passes, else the refusal of the first that does not
abbrev pub Better : ℕ → ℕ → (List ℕ → Type 0) → List ℤ → List ℕ → List ℕ → List ℕ → Result Answer Refusal → Type 0
Better n R M ps x o o' (Ok a) = Passes (checks n R M ps x (length o)) × Answered M ps x o o' a
Better n R M ps x o o' (Err e) = RefusedBy (checks n R M ps x (length o)) e × (o' ≡ o)

-- what the checks that all sets share promise by themselves
abbrev pub Screened : List Check → Result (Unit {0}) Refusal → Type 0
Screened cs (Ok _) = Passes cs
Screened cs (Err e) = RefusedBy cs e
