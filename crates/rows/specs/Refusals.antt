-- Refusals: the number of every fault, and what it means that a call's checks, in their order, refuse it or let it pass.
-- Every promise on a refusal, in every crate, is stated by these few definitions and a list of checks.
use Rattle.std.specs.Prelude.{◌≡◌, ◌≢◌, ℕ, List, [], ◌∷◌, MatchBool, ◌==◌, Result, MatchResult, codes, ◌++◌}
use Rattle.std.specs.Fmt.{decimal}
use Rattle.rows.specs.declared.refusals.Fault.{Fault}
use Rattle.rows.specs.declared.refusals.Fault.TheVariants.{Length, Mark, Weight, NotMember, Dimension, TooMany, Reach, OutOfRange, Pins, Numbering, Begun, NotBegun, RowLimit, NotFinished, Ticketed, WrongTicket, ShortBuffer, Full, UnknownLetter, Width, Order, UnknownClass}
use Rattle.rows.specs.declared.refusals.Refusal.{Refusal}
use Rattle.rows.specs.declared.refusals.UnknownNumber.{UnknownNumber}

-- the number of each fault in the table of refusals
abbrev pub number : Fault → ℕ
number Length = 1
number Mark = 2
number Weight = 3
number NotMember = 4
number Dimension = 5
number TooMany = 6
number Reach = 7
number OutOfRange = 8
number Pins = 9
number Numbering = 10
number Begun = 11
number NotBegun = 12
number RowLimit = 13
number NotFinished = 14
number Ticketed = 15
number WrongTicket = 16
number ShortBuffer = 17
number Full = 18
number UnknownLetter = 19
number Width = 20
number Order = 21
number UnknownClass = 22

-- the fault of a number, or that number, which no fault has
abbrev pub Numbers : ℕ → Result Fault UnknownNumber → Type 0
Numbers n r = MatchResult r (λ f. number f ≡ n) (λ e. (e.0 ≡ n) × ((f : Fault) → number f ≢ n))

-- the reason of each fault in words
abbrev pub reason : Fault → List ℕ
reason Length = codes "a length is not the dimension"
reason Mark = codes "a byte of a row of marks is above 1"
reason Weight = codes "the weight of the prices is above the reach"
reason NotMember = codes "the point is not a legal layout"
reason Dimension = codes "the dimension is above 128"
reason TooMany = codes "there are more entries than a set takes"
reason Reach = codes "the reach is above 2^40 - 1"
reason OutOfRange = codes "a number is not below its count, or a packed point has a bit beyond the dimension"
reason Pins = codes "the reach below is less than the number of pins"
reason Numbering = codes "a number of a renumbering is not below the dimension, or was seen earlier"
reason Begun = codes "the job has begun already"
reason NotBegun = codes "the job has not begun"
reason RowLimit = codes "the job has as many rows of prices as a job accepts"
reason NotFinished = codes "the job is not finished"
reason Ticketed = codes "a ticket is out for the present row of prices, or its plan is written"
reason WrongTicket = codes "the ticket is not the one that the job has out"
reason ShortBuffer = codes "the buffer is too short"
reason Full = codes "there is no place for one more entry"
reason UnknownLetter = codes "no command has this letter"
reason Width = codes "an operand is cut short or has another width, or the script is too long"
reason Order = codes "a command is out of its order, the end of the script is missing, or something follows it"
reason UnknownClass = codes "no class of records has this letter"

-- a refusal in words
abbrev pub refusal_text : Refusal → List ℕ
refusal_text e = codes "Refused by " ++ (decimal (number e.fault) ++ (codes " at place " ++ (decimal e.place ++ codes ".")))

-- a check of a call: what it asks, the fault where that is not so, and what it says of a place that the fault is there
pub record Check : Type 1 where
  pub fault : Fault
  pub asks : Type 0
  pub broken : ℕ → Type 0

-- a check whose refusal names a place
abbrev pub ask_at : Fault → Type 0 → (ℕ → Type 0) → Check
ask_at f P B = record { fault = f; asks = P; broken = B }

-- a check whose refusal names no place, which is then 0
abbrev pub ask : Fault → Type 0 → Check
ask f P = ask_at f P (λ i. (i ≡ 0) × (P → ⊥))

-- a check whose refusal names the place a
abbrev pub ask_here : ℕ → Fault → Type 0 → Check
ask_here a f P = ask_at f P (λ i. (i ≡ a) × (P → ⊥))

-- a call passes its checks where it is as each of them asks
abbrev pub Passes : List Check → Type 0
Passes [] = Unit {0}
Passes (c ∷ cs) = c.asks × Passes cs

-- a call is refused by the first check that is broken: those before it are met, and it gives the fault and the place;
-- no list of checks has a fault twice
abbrev pub RefusedBy : List Check → Refusal → Type 0
RefusedBy [] e = ⊥
RefusedBy (c ∷ cs) e =
    MatchBool (number e.fault == number c.fault) (c.broken e.place) (c.asks × RefusedBy cs e)
