-- Scripts of listed sets: the order of the commands, the checks of each, what refuses a script and what a script describes.
-- s is a script, cs are the commands that it begins with, c is the command after them. Letters: N 78, L 76, P 80, C 67, Y 89, S 83, Z 90.
use Rattle.std.specs.Prelude.{◌≡◌, ℕ, ◌*◌, ◌^◌, ◌<◌, ◌≤◌, true, cond, ◌⊎◌, List, [], ◌∷◌, ◌++◌, map, length, take, drop, replicate, ℤ, pos, is_some, Some, None, Ok, Err, Option, Result, ◌==◌, slice_index, slice_index_or}
use Rattle.std.specs.Int.{w64}
use Rattle.std.proofs.Common.{to_z}
use Rattle.std.specs.Int.Digits.{number_from_digits}
use Rattle.std.specs.List.{flat_map, AllByRecursion}
use Rattle.rows.specs.Classes.{class_of, days}
use Rattle.rows.specs.Packed.{ClearFrom}
use Rattle.rows.specs.Refusals.{Check, Passes, RefusedBy, ask_here, number as numbered}
use Rattle.rows.specs.declared.classes.Class.{Class}
use Rattle.rows.specs.declared.refusals.Fault.TheVariants.{Dimension, Reach, OutOfRange, Full, Width, Order, UnknownClass}
use Rattle.rows.specs.declared.refusals.Refusal.{Refusal}
use Rattle.commands.specs.Commands.{Said, Whole, bytes}
use Rattle.commands.specs.Reading.{reading_checks, standing}
use Rattle.script.specs.declared.problem.Problem.{Problem}

abbrev pub letter : Said → ℕ
letter c = c.0

-- the letters of a whole script: N, L, any P, any C and Y, S, Z
abbrev pub InOrder : List ℕ → Type 0
InOrder w =
    (ps qs : List ℕ) × AllByRecursion (λ x. x ≡ 80) ps × AllByRecursion (λ x. (x ≡ 67) ⊎ (x ≡ 89)) qs × (w ≡ 78 ∷ 76 ∷ (ps ++ (qs ++ 83 ∷ 90 ∷ [])))

-- some whole script begins with the letters of cs and then that of c
abbrev pub Continues : List Said → Said → Type 0
Continues cs c = (rest : List ℕ) × InOrder (map letter cs ++ c.0 ∷ rest)

-- the dimension is what the first command says
abbrev pub dimension_of : List Said → ℕ
dimension_of [] = 0
dimension_of (c ∷ cs) = number_from_digits 256 c.1

-- the listed rows are the operands of the commands P, in their order
abbrev pub rows_of : List Said → List (List ℕ)
rows_of [] = []
rows_of (c ∷ cs) = cond (c.0 == 80) (c.1 ∷ rows_of cs) (rows_of cs)

-- the numbers of a command are below their counts: a coordinate in C and Y, the bits that are set in P and S
pub record InRange (n : ℕ) (c : Said) : Type 0 where
  pub coordinate : (c.0 ≡ 67) ⊎ (c.0 ≡ 89) → slice_index c.1 0 < n
  pub bits : (c.0 ≡ 80) ⊎ (c.0 ≡ 83) → ClearFrom n c.1

-- the checks of the command c at the place a, after the commands cs
abbrev pub command_checks : ℕ → List Said → Said → List Check
command_checks a cs c =
    ask_here a Order (Continues cs c) ∷
    ask_here a Dimension (c.0 ≡ 78 → number_from_digits 256 c.1 ≤ 128) ∷
    ask_here a Reach (c.0 ≡ 76 → number_from_digits 256 c.1 < 2 ^ 40) ∷
    ask_here a UnknownClass (c.0 ≡ 89 → is_some (class_of (slice_index c.1 1)) ≡ true) ∷
    ask_here a OutOfRange (InRange (dimension_of cs) c) ∷
    ask_here a Full (c.0 ≡ 80 → length (rows_of cs) < 256) ∷
    []

-- the checks of what stands at the place a of the script s, after the commands cs
abbrev pub checks : List ℕ → ℕ → List Said → List Check
checks s a cs = reading_checks s a ++ command_checks a cs (standing s a)

-- cs may begin a script: each of its commands has its letter's width and passes the checks after those before it
abbrev pub Begins : List Said → Type 0
Begins cs = (before after : List Said) (c : Said) → cs ≡ before ++ c ∷ after → Whole c × Passes (command_checks (length (flat_map bytes before)) before c)

-- the script s begins with such commands cs, which end at the place a
abbrev pub Upto : List ℕ → ℕ → List Said → Type 0
Upto s a cs = (a ≤ length s) × (flat_map bytes cs ≡ take a s) × Begins cs

-- the last of the commands cs is a Z
abbrev pub Ended : List Said → Type 0
Ended cs = (before : List Said) × (o : List ℕ) × (cs ≡ before ++ (90, o) ∷ [])

-- a script that begins with cs stops at the place a: bytes follow the Z, the Z is missing, or what stands there is refused
abbrev pub Stops : List ℕ → ℕ → List Said → Refusal → Type 0
Stops s a cs e =
    (Ended cs × (a < length s) × (e ≡ record { fault = Order; place = a }))
    ⊎ (((Ended cs → ⊥) × (a ≡ length s) × (e ≡ record { fault = Order; place = a }))
    ⊎ ((Ended cs → ⊥) × (a < length s) × RefusedBy (checks s a cs) e))

-- the script s is refused by e
abbrev pub Refuses : List ℕ → Refusal → Type 0
Refuses s e =
    ((65536 < length s) × (e ≡ record { fault = Width; place = 65536 }))
    ⊎ ((length s ≤ 65536) × ((a : ℕ) × (cs : List Said) × Upto s a cs × Stops s a cs e))

-- v is what the last of the commands cs of which P holds gives, and d where there is none
abbrev pub Last : {V : Type 0} → (Said → Type 0) → (Said → V) → V → List Said → V → Type 0
Last P gives d cs v =
    (AllByRecursion (λ c. P c → ⊥) cs × (v ≡ d))
    ⊎ ((before : List Said) × (after : List Said) × (c : Said) × (cs ≡ before ++ c ∷ after) × P c × AllByRecursion (λ e. P e → ⊥) after × (v ≡ gives c))

-- c prices coordinate i
abbrev pub Prices : ℕ → Said → Type 0
Prices i c = ((c.0 ≡ 67) ⊎ (c.0 ≡ 89)) × (slice_index c.1 0 ≡ i)

-- the days of the class with this letter, 0 where no class has it
abbrev pub class_days : Option Class → ℕ
class_days None = 0
class_days (Some k) = days k

-- the price that a C or a Y gives: eight bytes in two's complement, or units times days
abbrev pub price_of : Said → ℤ
price_of c = cond (c.0 == 67) (to_z w64 (number_from_digits 256 (drop 1 c.1))) (pos (number_from_digits 256 (drop 2 c.1) * class_days (class_of (slice_index c.1 1))))

abbrev pub ReachIs : List Said → ℕ → Type 0
ReachIs cs r = Last (λ c. c.0 ≡ 76) (λ c. number_from_digits 256 c.1) 0 cs r

abbrev pub PriceAt : List Said → ℕ → ℤ → Type 0
PriceAt cs i z = Last (Prices i) price_of (pos 0) cs z

abbrev pub StartIs : List Said → List ℕ → Type 0
StartIs cs o = Last (λ c. c.0 ≡ 83) (λ c. c.1) (replicate 16 0) cs o

-- the rows that a problem lists
abbrev pub listed_rows : Problem → List (List ℕ)
listed_rows p = take p.rows.count p.rows.slots

-- what the commands of a whole script mean: a later price for the same coordinate replaces the earlier, and a price that is not named is 0
pub record Means (cs : List Said) (p : Problem) : Type 0 where
  pub dimension : p.dimension ≡ dimension_of cs
  pub reach : ReachIs cs p.reach
  pub listed : listed_rows p ≡ rows_of cs
  pub prices : (i : ℕ) → i < 128 → PriceAt cs i (slice_index_or p.prices i (pos 0))
  pub start : StartIs cs p.start

-- the script s describes the problem p
abbrev pub Describes : List ℕ → Problem → Type 0
Describes s p = (length s ≤ 65536) × ((cs : List Said) × Upto s (length s) cs × Ended cs × Means cs p)

abbrev pub Parsed : List ℕ → Result Problem Refusal → Type 0
Parsed s (Ok p) = Describes s p
Parsed s (Err e) = Refuses s e

-- two problems that say the same
pub record Alike (p q : Problem) : Type 0 where
  pub dimension : p.dimension ≡ q.dimension
  pub reach : p.reach ≡ q.reach
  pub listed : listed_rows p ≡ listed_rows q
  pub prices : (i : ℕ) → i < 128 → slice_index_or p.prices i (pos 0) ≡ slice_index_or q.prices i (pos 0)
  pub start : p.start ≡ q.start

-- a script is never both described and refused, is refused by one number at one place, and describes one problem
pub record Settled (s : List ℕ) : Type 0 where
  pub never_both : (p : Problem) (e : Refusal) → Describes s p → Refuses s e → ⊥
  pub one_refusal : (e f : Refusal) → Refuses s e → Refuses s f → (numbered e.fault ≡ numbered f.fault) × (e.place ≡ f.place)
  pub one_meaning : (p q : Problem) → Describes s p → Describes s q → Alike p q
