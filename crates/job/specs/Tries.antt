-- One call tried on a job: which call, what came of it, and that both are as the call's own promise says.
-- n, R and M are dimension, reach and set of the augmenter, `letter` its kind letter; a is the view before the call and b after it.
use Rattle.std.specs.Prelude.{◌≡◌, ℕ, List, Ok, Err, Result}
use Rattle.rows.specs.Refusals.{Passes, RefusedBy}
use Rattle.rows.specs.declared.refusals.Refusal.{Refusal}
use Rattle.plans.specs.Bytes.{plan_bytes}
use Rattle.job.specs.declared.parts.Step.{Step}
use Rattle.job.specs.declared.parts.Ticket.{Ticket}
use Rattle.job.specs.declared.parts.Ticketing.TheVariants.{Written as PlanWritten}
use Rattle.job.specs.declared.tries.Call.{Call}
use Rattle.job.specs.declared.tries.Call.TheVariants.{Begin, Advance, Reprice, Issue, Write, Withdraw}
use Rattle.job.specs.declared.tries.Outcome.{Outcome}
use Rattle.job.specs.declared.tries.Outcome.TheVariants.{Accepted, Advanced as SteppedOn, Issued as Given, Written, Withdrawn}
use Rattle.job.specs.Calls.{Began, Advanced, Repriced}
use Rattle.job.specs.Tickets.{Issued, Withdrew, write_checks, plan_of}
use Rattle.job.specs.Views.{View, ticketed}

-- what a call's own result comes to: the outcome, or the refusal
abbrev pub row_outcome : Result (Unit {0}) Refusal → Result Outcome Refusal
row_outcome (Ok _) = Ok Accepted
row_outcome (Err e) = Err e

abbrev pub step_outcome : Result Step Refusal → Result Outcome Refusal
step_outcome (Ok s) = Ok (SteppedOn s)
step_outcome (Err e) = Err e

abbrev pub issue_outcome : Result Ticket Refusal → Result Outcome Refusal
issue_outcome (Ok t) = Ok (Given t.number t.row)
issue_outcome (Err e) = Err e

-- a writing into a buffer of the length room, by the bytes written or the refusal
abbrev pub write_outcome : Result (List ℕ) Refusal → Result Outcome Refusal
write_outcome (Ok u) = Ok (Written u)
write_outcome (Err e) = Err e

abbrev pub TriedWrite : ℕ → ℕ → View → ℕ → ℕ → ℕ → Result (List ℕ) Refusal → View → Type 0
TriedWrite letter n a m k room (Ok u) b =
    Passes (write_checks a m k room) × (b ≡ ticketed a PlanWritten) × (u ≡ plan_bytes (plan_of letter n a))
TriedWrite letter n a m k room (Err e) b = RefusedBy (write_checks a m k room) e × (b ≡ a)

-- the call c had the outcome o
abbrev pub TriedCall : ℕ → ℕ → ℕ → (List ℕ → Type 0) → View → Call → Result Outcome Refusal → View → Type 0
TriedCall letter n R M a (Begin s p) o b = (r : Result (Unit {0}) Refusal) × ((o ≡ row_outcome r) × Began n R M a s.now p.now r b)
TriedCall letter n R M a Advance o b = (r : Result Step Refusal) × ((o ≡ step_outcome r) × Advanced n R M a r b)
TriedCall letter n R M a (Reprice p) o b = (r : Result (Unit {0}) Refusal) × ((o ≡ row_outcome r) × Repriced n R a p.now r b)
TriedCall letter n R M a Issue o b = (r : Result Ticket Refusal) × ((o ≡ issue_outcome r) × Issued a r b)
TriedCall letter n R M a (Write m k room) o b = (r : Result (List ℕ) Refusal) × ((o ≡ write_outcome r) × TriedWrite letter n a m k room r b)
TriedCall letter n R M a (Withdraw m k) o b = (o ≡ Ok Withdrawn) × Withdrew a m k b
