-- Turned sets: the members are the points that, combined with a row of marks by exclusive or, are members of a set below.
-- n is the dimension, M says which rows are members below, s is the row of marks, x a row, ps are prices.
use Rattle.std.specs.Prelude.{◌≡◌, ℕ, zero, suc, List, ℤ, neg_ℤ, bit_xor}
use Rattle.std.specs.Simd.Lanes.{zip2}
use Rattle.rows.specs.Points.{Point}
use Rattle.rows.specs.Refusals.{Check}
use Rattle.augmenter.specs.Questions.{row_checks}
use Rattle.augmenter.specs.declared.answers.Answer.{Answer}
use Rattle.augmenter.specs.declared.answers.Answer.TheVariants.{Found, Nothing}

-- a row turned: each mark of it combined with the mark of s there by exclusive or
abbrev pub xor : List ℕ → List ℕ → List ℕ
xor x s = zip2 bit_xor x s

-- the members
abbrev pub TurnedIn : ℕ → (List ℕ → Type 0) → List ℕ → List ℕ → Type 0
TurnedIn n M s x = Point n x × M (xor x s)

-- prices turned: negated at the ones of s
abbrev pub turn : ℤ → ℕ → ℤ
turn p zero = p
turn p (suc _) = neg_ℤ p

abbrev pub turned_prices : List ℤ → List ℕ → List ℤ
turned_prices ps s = zip2 turn ps s

-- the output row once the row f that was found below, if one was, is turned back into it
abbrev pub TurnedBack : List ℕ → List ℕ → List ℕ → List ℕ → Answer → Type 0
TurnedBack s f o o' Found = o' ≡ xor f s
TurnedBack s f o o' Nothing = o' ≡ o

-- the checks of a making, in their order
abbrev pub making_checks : ℕ → List ℕ → List Check
making_checks n s = row_checks n 1 s
