-- The bytes of an answer: those of a plan, or one command E with the number of a refusal and its place.
-- Numbers stand with their high byte first.
use Rattle.std.specs.Prelude.{ℕ, List, ◌∷◌, Ok, Err, Result}
use Rattle.rows.specs.Bytes.{big_endian}
use Rattle.rows.specs.Refusals.{number as numbered}
use Rattle.rows.specs.declared.refusals.Refusal.{Refusal}
use Rattle.commands.specs.Commands.{bytes}

-- an answer is the bytes of the one or of the other
abbrev pub Answer : Type 0
Answer = Result (List ℕ) (List ℕ)

abbrev pub answer_bytes : Answer → List ℕ
answer_bytes (Ok u) = u
answer_bytes (Err u) = u

-- E, number, place
abbrev pub refusal_bytes : Refusal → List ℕ
refusal_bytes e = bytes (69, numbered e.fault ∷ big_endian 4 e.place)
