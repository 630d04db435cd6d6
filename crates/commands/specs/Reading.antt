-- Reading and writing: one command at a time, and whole runs of them; and that each undoes the other.
-- s is a script and a a place in it, b the place after a reading; u is a buffer before a writing and v after it.
use Rattle.std.specs.Prelude.{◌≡◌, ℕ, ◌+◌, ◌<◌, ◌≤◌, true, List, [], ◌∷◌, ◌++◌, map, length, take, drop, is_some, Some, None, Ok, Err, Option, Result, slice_index, slice_range}
use Rattle.std.specs.List.{flat_map, AllByRecursion}
use Rattle.rows.specs.Refusals.{Check, ask, ask_here, Passes, RefusedBy}
use Rattle.rows.specs.declared.refusals.Fault.TheVariants.{ShortBuffer, UnknownLetter, Width}
use Rattle.rows.specs.declared.refusals.Refusal.{Refusal}
use Rattle.commands.specs.declared.command.Command.{Command}
use Rattle.commands.specs.Commands.{Said, Whole, bytes, said, width_of}

-- some command has the letter; and how many operand bytes it takes, 0 where none has it
abbrev pub Known : ℕ → Type 0
Known x = is_some (width_of x) ≡ true

abbrev pub or_0 : Option ℕ → ℕ
or_0 None = 0
or_0 (Some w) = w

abbrev pub operand_width : ℕ → ℕ
operand_width x = or_0 (width_of x)

-- the command that stands at the place a, and the checks of a reading there
abbrev pub standing : List ℕ → ℕ → Said
standing s a = (slice_index s a, take (operand_width (slice_index s a)) (drop (a + 1) s))

abbrev pub reading_checks : List ℕ → ℕ → List Check
reading_checks s a =
    ask_here a UnknownLetter (Known (slice_index s a)) ∷ ask_here a Width (a + (1 + operand_width (slice_index s a)) ≤ length s) ∷ []

-- what a reading gives: none at the end, else the command that stands there, with its place, or a refusal that does not move on
abbrev pub Given : Type 0
Given = Result (Option (ℕ × Command)) Refusal

abbrev pub Next : List ℕ → ℕ → Given → ℕ → Type 0
Next s a (Ok None) b = (a ≡ length s) × (b ≡ a)
Next s a (Ok (Some p)) b =
    (a < length s) × Passes (reading_checks s a) × (p.0 ≡ a) × (said p.1 ≡ standing s a) × (b ≡ a + length (bytes (said p.1)))
Next s a (Err e) b = (a < length s) × RefusedBy (reading_checks s a) e × (b ≡ a)

-- writing the command c at the start of a buffer of m bytes
abbrev pub write_checks : Said → ℕ → List Check
write_checks c m = ask Width (Whole c) ∷ ask ShortBuffer (length (bytes c) ≤ m) ∷ []

abbrev pub Put : Said → List ℕ → Result ℕ Refusal → List ℕ → Type 0
Put c u (Ok n) v = Passes (write_checks c (length u)) × (n ≡ length (bytes c)) × (v ≡ bytes c ++ drop n u)
Put c u (Err e) v = RefusedBy (write_checks c (length u)) e × (v ≡ u)

-- writing the commands cs one after the other: all of them or none
abbrev pub run_checks : List Said → ℕ → List Check
run_checks cs m = ask Width (AllByRecursion Whole cs) ∷ ask ShortBuffer (length (flat_map bytes cs) ≤ m) ∷ []

abbrev pub PutRun : List Said → List ℕ → Result ℕ Refusal → List ℕ → Type 0
PutRun cs u (Ok n) v = Passes (run_checks cs (length u)) × (n ≡ length (flat_map bytes cs)) × (v ≡ flat_map bytes cs ++ drop n u)
PutRun cs u (Err e) v = RefusedBy (run_checks cs (length u)) e × (v ≡ u)

-- a reading gives the first of the commands that are to come, and none after the last
abbrev pub Comes : List Said → Given → Type 0
Comes [] (Ok None) = Unit {0}
Comes [] (Ok (Some p)) = ⊥
Comes [] (Err e) = ⊥
Comes (c ∷ cs) (Ok None) = ⊥
Comes (c ∷ cs) (Ok (Some p)) = said p.1 ≡ c
Comes (c ∷ cs) (Err e) = ⊥

-- readings from the place a gave the commands ds and led to the place b
abbrev pub Readings : List ℕ → ℕ → List Command → ℕ → Type 0
Readings s a [] b = a ≡ b
Readings s a (d ∷ ds) b = (m : ℕ) × (Next s a (Ok (Some (a, d))) m × Readings s m ds b)

-- what is written reads back: where a script begins with the bytes of a command, a reading gives the command and ends where they do
abbrev pub ReadsBack : List ℕ → Type 0
ReadsBack s =
    (c : Said) (rest : List ℕ) → Whole c → s ≡ bytes c ++ rest → (r : Given) (b : ℕ) → Next s 0 r b → Comes (c ∷ []) r × (b ≡ length (bytes c))

-- and of a run: where a script is the bytes of commands, whatever was read so far are the first of them, and the next reading gives the next, or none after the last
abbrev pub ReadsBackRun : List ℕ → Type 0
ReadsBackRun s =
    (cs : List Said) → AllByRecursion Whole cs → s ≡ flat_map bytes cs → (ds : List Command) (b : ℕ) (r : Given) (e : ℕ) → Readings s 0 ds b → Next s b r e →
    (more : List Said) × ((cs ≡ map said ds ++ more) × Comes more r)

-- what reads whole is what would be written: writing the command to any buffer with room for it gives the bytes that were read
abbrev pub WouldWrite : Said → List ℕ → Type 0
WouldWrite c w = (u v : List ℕ) (r : Result ℕ Refusal) → Put c u r v → length w ≤ length u → (r ≡ Ok (length w)) × (v ≡ w ++ drop (length w) u)

abbrev pub WritesBack : List ℕ → ℕ → Given → ℕ → Type 0
WritesBack s a (Ok None) b = Unit {0}
WritesBack s a (Ok (Some p)) b = WouldWrite (said p.1) (slice_range s a b)
WritesBack s a (Err e) b = Unit {0}

-- and of a run: the bytes up to where readings led are the bytes of the commands that they gave, each of its letter's width
abbrev pub WritesBackRun : List ℕ → Type 0
WritesBackRun s = (ds : List Command) (b : ℕ) → Readings s 0 ds b → AllByRecursion Whole (map said ds) × (flat_map bytes (map said ds) ≡ take b s)

-- the laws of reading and writing, for a script
pub record ReadingLaws (s : List ℕ) : Type 0 where
  pub reads_back : ReadsBack s
  pub reads_back_run : ReadsBackRun s
  pub writes_back_run : WritesBackRun s
