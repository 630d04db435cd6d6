-- Jobs over an augmenter: what a job shows, and the promises of its calls, said of the job itself.
-- X is the type of the augmenter below the job, and G gives its kind letter, dimension, reach and set.
use Rattle.std.specs.Prelude.{ℕ, List, take, ℤ, Result}
use Rattle.rows.specs.declared.refusals.Refusal.{Refusal}
use Rattle.plans.specs.declared.Plan.{Plan}
use Rattle.augmenter.specs.declared.Augmenter.{Ghosts}
use Rattle.job.specs.declared.job.Job.{Job}
use Rattle.job.specs.declared.parts.Step.{Step}
use Rattle.job.specs.declared.parts.Ticket.{Ticket}
use Rattle.job.specs.declared.tries.Call.{Call}
use Rattle.job.specs.declared.tries.Outcome.{Outcome}
use Rattle.job.specs.Calls.{Began, Advanced, Repriced}
use Rattle.job.specs.Soundness.{Sound, BeginKeeps, AdvanceKeeps}
use Rattle.job.specs.Tickets.{Issued, Valid, Wrote, Withdrew, WrotePlan, plan_of}
use Rattle.job.specs.Tries.{TriedWrite, TriedCall}
use Rattle.job.specs.Views.{View}

-- what a job shows: rows stand at the start of arrays of the largest dimension, and only their first n entries count
abbrev pub view : {X : Type 0} {G : Ghosts X} → Job X G → View
view {X} {G} j = record {
  number = j.number;
  state = j.state;
  point = take (G.dim j.below) j.point;
  prices = take (G.dim j.below) j.prices;
  totals = j.totals;
  ledger = j.ledger.lines;
  ticketing = j.ticketing;
}

abbrev pub SoundJob : {X : Type 0} {G : Ghosts X} → Job X G → Type 0
SoundJob {X} {G} j = Sound (G.dim j.below) (G.reaches j.below) (G.Member j.below) (view j)

-- below, a is the job before the call, e the call's result, and b the job after it

abbrev pub BeganBy : {X : Type 0} {G : Ghosts X} → Job X G → List ℕ → List ℤ → Result (Unit {0}) Refusal → Job X G → Type 0
BeganBy {X} {G} a s ps e b = Began (G.dim a.below) (G.reaches a.below) (G.Member a.below) (view a) s ps e (view b)

abbrev pub BeginKeepsBy : {X : Type 0} {G : Ghosts X} → Job X G → List ℤ → Result (Unit {0}) Refusal → Job X G → Type 0
BeginKeepsBy {X} {G} a ps e b = SoundJob a → BeginKeeps (G.dim a.below) (G.reaches a.below) (G.Member a.below) ps e (view b)

abbrev pub AdvancedBy : {X : Type 0} {G : Ghosts X} → Job X G → Result Step Refusal → Job X G → Type 0
AdvancedBy {X} {G} a e b = Advanced (G.dim a.below) (G.reaches a.below) (G.Member a.below) (view a) e (view b)

abbrev pub AdvanceKeepsBy : {X : Type 0} {G : Ghosts X} → Job X G → Result Step Refusal → Job X G → Type 0
AdvanceKeepsBy {X} {G} a e b = SoundJob a → AdvanceKeeps (G.dim a.below) (G.reaches a.below) (G.Member a.below) (view a) e (view b)

abbrev pub RepricedBy : {X : Type 0} {G : Ghosts X} → Job X G → List ℤ → Result (Unit {0}) Refusal → Job X G → Type 0
RepricedBy {X} {G} a ps e b = Repriced (G.dim a.below) (G.reaches a.below) (view a) ps e (view b)

abbrev pub IssuedBy : {X : Type 0} {G : Ghosts X} → Job X G → Result Ticket Refusal → Job X G → Type 0
IssuedBy a e b = Issued (view a) e (view b)

-- m and k are the numbers of the ticket, u and u' the buffer before the call and after it
abbrev pub WroteBy : {X : Type 0} {G : Ghosts X} → Job X G → ℕ → ℕ → List ℕ → Result (Unit {0}) (Ticket × Refusal) → Job X G → List ℕ → Type 0
WroteBy {X} {G} a m k u e b u' = Wrote G.KIND (G.dim a.below) (view a) m k u e (view b) u'

abbrev pub WithdrewBy : {X : Type 0} {G : Ghosts X} → Job X G → ℕ → ℕ → Job X G → Type 0
WithdrewBy a m k b = Withdrew (view a) m k (view b)

abbrev pub WrotePlanBy : {X : Type 0} {G : Ghosts X} → Job X G → List ℕ → Result (Unit {0}) Refusal → Job X G → List ℕ → Type 0
WrotePlanBy {X} {G} a u e b u' = WrotePlan G.KIND (G.dim a.below) (view a) u e (view b) u'

-- the plan of a job, and whether a ticket of the numbers m and k is the one that it has out
abbrev pub plan_by : {X : Type 0} {G : Ghosts X} → Job X G → Plan
plan_by {X} {G} a = plan_of G.KIND (G.dim a.below) (view a)

abbrev pub ValidBy : {X : Type 0} {G : Ghosts X} → Job X G → ℕ → ℕ → Type 0
ValidBy a m k = Valid (view a) m k

-- a write by those numbers into a buffer of the length room, and a call c
abbrev pub TriedWriteBy : {X : Type 0} {G : Ghosts X} → Job X G → ℕ → ℕ → ℕ → Result (List ℕ) Refusal → Job X G → Type 0
TriedWriteBy {X} {G} a m k room e b = TriedWrite G.KIND (G.dim a.below) (view a) m k room e (view b)

abbrev pub TriedBy : {X : Type 0} {G : Ghosts X} → Job X G → Call → Result Outcome Refusal → Job X G → Type 0
TriedBy {X} {G} a c o b = TriedCall G.KIND (G.dim a.below) (G.reaches a.below) (G.Member a.below) (view a) c o (view b)
