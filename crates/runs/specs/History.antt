-- Histories: the calls tried on a job since its making, each with what came of it, and what is counted over them.
-- The present row is the last that was accepted.
use Rattle.std.specs.Prelude.{ℕ, ◌+◌, List, [], ◌∷◌, ℤ, fold, sum_by, Ok, Err, Result}
use Rattle.rows.specs.declared.refusals.Refusal.{Refusal}
use Rattle.rows.specs.Prices.{ones}
use Rattle.job.specs.declared.parts.Step.{Step}
use Rattle.job.specs.declared.parts.Step.TheVariants.{Improved, Closed, Done}
use Rattle.job.specs.declared.tries.Call.{Call}
use Rattle.job.specs.declared.tries.Call.TheVariants.{Begin, Advance, Reprice, Issue, Write, Withdraw}
use Rattle.job.specs.declared.tries.Outcome.{Outcome}
use Rattle.job.specs.declared.tries.Outcome.TheVariants.{Accepted, Advanced, Issued, Written, Withdrawn}

-- a call and its outcome
abbrev pub Turn : Type 0
Turn = Call × Result Outcome Refusal

-- calls and outcomes, pair by pair
abbrev pub turns : List Call → List (Result Outcome Refusal) → List Turn
turns [] os = []
turns (c ∷ cs) [] = []
turns (c ∷ cs) (o ∷ os) = (c, o) ∷ turns cs os

-- the price row that a call hands in
abbrev pub row_of : Call → List ℤ
row_of (Begin s p) = p.now
row_of Advance = []
row_of (Reprice p) = p.now
row_of Issue = []
row_of (Write m k room) = []
row_of (Withdraw m k) = []

-- 1 for the call advance, else 0
abbrev pub advance : Call → ℕ
advance (Begin s p) = 0
advance Advance = 1
advance (Reprice p) = 0
advance Issue = 0
advance (Write m k room) = 0
advance (Withdraw m k) = 0

-- x where the outcome is that a row was accepted, else y
abbrev pub if_accepted : {X : Type 0} → Result Outcome Refusal → X → X → X
if_accepted (Ok Accepted) x y = x
if_accepted (Ok (Advanced s)) x y = y
if_accepted (Ok (Issued m k)) x y = y
if_accepted (Ok (Written u)) x y = y
if_accepted (Ok Withdrawn) x y = y
if_accepted (Err e) x y = y

-- i, c or d for an advance that improved, closed a plane or was done, else 0
abbrev pub by_step : ℕ → ℕ → ℕ → Step → ℕ
by_step i c d Improved = i
by_step i c d Closed = c
by_step i c d Done = d

abbrev pub if_advanced : ℕ → ℕ → ℕ → Result Outcome Refusal → ℕ
if_advanced i c d (Ok Accepted) = 0
if_advanced i c d (Ok (Advanced s)) = by_step i c d s
if_advanced i c d (Ok (Issued m k)) = 0
if_advanced i c d (Ok (Written u)) = 0
if_advanced i c d (Ok Withdrawn) = 0
if_advanced i c d (Err e) = 0

-- 1 for a plan written, else 0
abbrev pub writing : Result Outcome Refusal → ℕ
writing (Ok Accepted) = 0
writing (Ok (Advanced s)) = 0
writing (Ok (Issued m k)) = 0
writing (Ok (Written u)) = 1
writing (Ok Withdrawn) = 0
writing (Err e) = 0

-- over all turns: improvements, planes closed, rows accepted, and the ones of all accepted rows together
abbrev pub improvements : List Turn → ℕ
improvements h = sum_by (λ (t : Turn). if_advanced 1 0 0 t.1) h

abbrev pub closings : List Turn → ℕ
closings h = sum_by (λ (t : Turn). if_advanced 0 1 0 t.1) h

abbrev pub acceptances : List Turn → ℕ
acceptances h = sum_by (λ (t : Turn). if_accepted t.1 1 0) h

abbrev pub ones_of_rows : List Turn → ℕ
ones_of_rows h = sum_by (λ (t : Turn). if_accepted t.1 (ones (row_of t.0)) 0) h

-- the present row; and since it was accepted, the advances tried and the plans written
abbrev pub present : List Turn → List ℤ
present h = fold (λ (ps : List ℤ) (t : Turn). if_accepted t.1 (row_of t.0) ps) [] h

abbrev pub advances : List Turn → ℕ
advances h = fold (λ (i : ℕ) (t : Turn). if_accepted t.1 0 (i + advance t.0)) 0 h

abbrev pub writings : List Turn → ℕ
writings h = fold (λ (i : ℕ) (t : Turn). if_accepted t.1 0 (i + writing t.1)) 0 h
