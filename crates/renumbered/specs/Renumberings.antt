-- Renumberings: coordinate i above stands for coordinate p[i] below, for a row p that names every coordinate exactly one time.
-- n is the dimension, p the row of numbers, x a row in the numbers above and y one in the numbers below; M says which rows are members below.
use Rattle.std.specs.Prelude.{◌≡◌, ℕ, ◌<◌, List, [], ◌∷◌, length, ◌≢◌, slice_index, slice_index_or}
use Rattle.rows.specs.Points.{Point}
use Rattle.rows.specs.Refusals.{Check, ask, ask_at}
use Rattle.rows.specs.declared.refusals.Fault.TheVariants.{Length, Numbering}
use Rattle.augmenter.specs.declared.answers.Answer.{Answer}
use Rattle.augmenter.specs.declared.answers.Answer.TheVariants.{Found, Nothing}

-- entry i is a coordinate that no earlier entry names
abbrev pub NewEntry : ℕ → List ℕ → ℕ → Type 0
NewEntry n p i = (slice_index p i < n) × ((j : ℕ) → j < i → slice_index p j ≢ slice_index p i)

-- so is every entry
abbrev pub AllNew : ℕ → List ℕ → Type 0
AllNew n p = (i : ℕ) → i < length p → NewEntry n p i

-- entry i is the first that is not below n or equals an earlier one
abbrev pub BadEntry : ℕ → List ℕ → ℕ → Type 0
BadEntry n p i = (i < length p) × (NewEntry n p i → ⊥) × ((k : ℕ) → k < i → NewEntry n p k)

-- p names every coordinate exactly one time: it has n entries, below n and all different
abbrev pub Renumbers : ℕ → List ℕ → Type 0
Renumbers n p = (length p ≡ n) × AllNew n p

-- p moves x to y: entry i of x is entry p[i] of y; d is what stands beyond an end
abbrev pub Moves : {X : Type 0} → List ℕ → List X → List X → Type 0
Moves {X} p x y = (length y ≡ length x) × ((i : ℕ) → i < length p → (d : X) → slice_index_or y (slice_index p i) d ≡ slice_index_or x i d)

-- the members above, where p renumbers the dimension: the points that it moves to members below
abbrev pub MemberAbove : ℕ → (List ℕ → Type 0) → List ℕ → List ℕ → Type 0
MemberAbove n M p x = Renumbers n p × Point n x × ((y : List ℕ) × Moves p x y × M y)

-- what the output row o becomes above, o', by the answer below and the row y that was found there
abbrev pub BroughtBack : List ℕ → List ℕ → List ℕ → List ℕ → Answer → Type 0
BroughtBack p y o o' Found = Moves p o' y
BroughtBack p y o o' Nothing = o' ≡ o

-- the checks of a making, in their order
abbrev pub making_checks : ℕ → List ℕ → List Check
making_checks n p = ask Length (length p ≡ n) ∷ ask_at Numbering (AllNew n p) (BadEntry n p) ∷ []
