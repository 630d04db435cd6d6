-- Tickets and plans: what issue, write and withdraw promise, for every job and every ticket.
-- a is the view before the call and b after it; a ticket is a pair of a job number m and a row count k.
use Rattle.std.specs.Prelude.{◌≡◌, ℕ, ◌≤◌, List, [], ◌∷◌, ◌++◌, length, drop, Ok, Err, Result}
use Rattle.rows.specs.Packed.{packed}
use Rattle.rows.specs.Prices.{price}
use Rattle.rows.specs.Refusals.{Check, ask, Passes, RefusedBy}
use Rattle.rows.specs.declared.refusals.Fault.TheVariants.{NotBegun as NotBegunFault, NotFinished, Ticketed, WrongTicket, ShortBuffer}
use Rattle.rows.specs.declared.refusals.Refusal.{Refusal}
use Rattle.plans.specs.Bytes.{plan_bytes}
use Rattle.plans.specs.declared.Plan.{Plan}
use Rattle.job.specs.declared.parts.State.TheVariants.{Finished}
use Rattle.job.specs.declared.parts.Ticket.{Ticket}
use Rattle.job.specs.declared.parts.Ticketing.TheVariants.{Unissued, Out, Written}
use Rattle.job.specs.Views.{View, IsBegun, ticketed}

-- issue: a ticket for the present row of a finished job, while none is out and the row's plan is not written
abbrev pub issue_checks : View → List Check
issue_checks a = ask NotBegunFault (IsBegun a.state) ∷ ask NotFinished (a.state ≡ Finished) ∷ ask Ticketed (a.ticketing ≡ Unissued) ∷ []

abbrev pub Issued : View → Result Ticket Refusal → View → Type 0
Issued a (Ok t) b = Passes (issue_checks a) × ((t.number ≡ a.number) × (t.row ≡ a.totals.rows)) × (b ≡ ticketed a Out)
Issued a (Err e) b = RefusedBy (issue_checks a) e × (b ≡ a)

-- the pair is that of the ticket that the job has out
abbrev pub Valid : View → ℕ → ℕ → Type 0
Valid a m k = (m ≡ a.number) × (k ≡ a.totals.rows) × (a.ticketing ≡ Out)

-- the plan of a job of the kind `letter` and the dimension n
abbrev pub plan_of : ℕ → ℕ → View → Plan
plan_of letter n a = record {
  kind = letter;
  dimension = n;
  number = a.number;
  point = packed a.point;
  price = price a.prices a.point;
  asked = a.totals.asked;
  improved = a.totals.improved;
}

-- write: the buffer is u before the call and u' after it
abbrev pub write_checks : View → ℕ → ℕ → ℕ → List Check
write_checks a m k room = ask WrongTicket (Valid a m k) ∷ ask ShortBuffer (46 ≤ room) ∷ []

abbrev pub Wrote : ℕ → ℕ → View → ℕ → ℕ → List ℕ → Result (Unit {0}) (Ticket × Refusal) → View → List ℕ → Type 0
Wrote letter n a m k u (Ok _) b u' =
    Passes (write_checks a m k (length u)) × (b ≡ ticketed a Written) × (u' ≡ plan_bytes (plan_of letter n a) ++ drop 46 u)
Wrote letter n a m k u (Err e) b u' =
    RefusedBy (write_checks a m k (length u)) e.1 × ((e.0.number ≡ m) × (e.0.row ≡ k)) × (b ≡ a) × (u' ≡ u)

-- withdraw
pub record Withdrew (a : View) (m k : ℕ) (b : View) : Type 0 where
  pub valid : Valid a m k → b ≡ ticketed a Unissued
  pub other : (Valid a m k → ⊥) → b ≡ a

-- issue and write in one
abbrev pub plan_checks : View → ℕ → List Check
plan_checks a room = issue_checks a ++ (ask ShortBuffer (46 ≤ room) ∷ [])

abbrev pub WrotePlan : ℕ → ℕ → View → List ℕ → Result (Unit {0}) Refusal → View → List ℕ → Type 0
WrotePlan letter n a u (Ok _) b u' =
    Passes (plan_checks a (length u)) × (b ≡ ticketed a Written) × (u' ≡ plan_bytes (plan_of letter n a) ++ drop 46 u)
WrotePlan letter n a u (Err e) b u' = RefusedBy (plan_checks a (length u)) e × (b ≡ a) × (u' ≡ u)
