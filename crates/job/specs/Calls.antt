-- What each call of a job promises, for every job and every argument: which refusal, or which view after it.
-- n is the augmenter's dimension, R its reach, M says which rows are members; a is the view before the call and b after it.
use Rattle.std.specs.Prelude.{◌≡◌, ℕ, ◌<◌, ◌≤◌, List, [], ◌∷◌, length, take, ℤ, Some, None, Ok, Err, Option, Result}
use Rattle.rows.specs.Prices.{row_at, weight}
use Rattle.rows.specs.Refusals.{Check, ask, Passes, RefusedBy}
use Rattle.rows.specs.declared.refusals.Fault.TheVariants.{Length, Weight, Begun, NotBegun as NotBegunFault, RowLimit}
use Rattle.rows.specs.declared.refusals.Refusal.{Refusal}
use Rattle.augmenter.specs.Questions.{checks, Cheapest, Cheaper}
use Rattle.job.specs.declared.parts.State.{State}
use Rattle.job.specs.declared.parts.State.TheVariants.{NotBegun, Open, Finished}
use Rattle.job.specs.declared.parts.Step.{Step}
use Rattle.job.specs.declared.parts.Step.TheVariants.{Improved, Closed, Done}
use Rattle.job.specs.Views.{View, IsBegun, accepted, improved, closed}

-- begin with the start s and the prices ps: its checks, and the view after it
abbrev pub begin_checks : ℕ → ℕ → (List ℕ → Type 0) → View → List ℕ → List ℤ → List Check
begin_checks n R M a s ps = ask Begun (a.state ≡ NotBegun) ∷ checks n R M ps s n

abbrev pub Began : ℕ → ℕ → (List ℕ → Type 0) → View → List ℕ → List ℤ → Result (Unit {0}) Refusal → View → Type 0
Began n R M a s ps (Ok _) b = Passes (begin_checks n R M a s ps) × (b ≡ accepted a s ps)
Began n R M a s ps (Err e) b = RefusedBy (begin_checks n R M a s ps) e × (b ≡ a)

-- what one question with the prices ps and the point x gives: a row found at the start of an array, or nothing, or a refusal
abbrev pub Put : ℕ → ℕ → (List ℕ → Type 0) → List ℤ → List ℕ → Result (Option (List ℕ)) Refusal → Type 0
Put n R M ps x (Ok (Some o)) = Passes (checks n R M ps x n) × Cheaper M ps x (take n o)
Put n R M ps x (Ok None) = Passes (checks n R M ps x n) × Cheapest M ps x
Put n R M ps x (Err e) = RefusedBy (checks n R M ps x n) e

-- the question that advance puts with plane k open: the row at plane k, and the job's point
abbrev pub question_checks : ℕ → ℕ → (List ℕ → Type 0) → View → ℕ → List Check
question_checks n R M a k = checks n R M (row_at k a.prices) a.point n

-- plane k is open
abbrev pub Opens : State → ℕ → Type 0
Opens NotBegun k = ⊥
Opens (Open i j) k = i ≡ k
Opens Finished k = ⊥

-- advance, by the state before it
abbrev pub AdvancedFrom : ℕ → ℕ → (List ℕ → Type 0) → View → State → Result Step Refusal → View → Type 0
AdvancedFrom n R M a NotBegun (Ok _) b = ⊥
AdvancedFrom n R M a NotBegun (Err e) b = (e ≡ record { fault = NotBegunFault; place = 0 }) × (b ≡ a)
AdvancedFrom n R M a (Open k j) (Ok Improved) b =
    Passes (question_checks n R M a k) × Cheaper M (row_at k a.prices) a.point b.point × (b ≡ improved a k j b.point)
AdvancedFrom n R M a (Open k j) (Ok Closed) b =
    Passes (question_checks n R M a k) × Cheapest M (row_at k a.prices) a.point × (b ≡ closed a k)
AdvancedFrom n R M a (Open k j) (Ok Done) b = ⊥
AdvancedFrom n R M a (Open k j) (Err e) b = RefusedBy (question_checks n R M a k) e × (b ≡ a)
AdvancedFrom n R M a Finished (Ok Improved) b = ⊥
AdvancedFrom n R M a Finished (Ok Closed) b = ⊥
AdvancedFrom n R M a Finished (Ok Done) b = b ≡ a
AdvancedFrom n R M a Finished (Err e) b = ⊥

abbrev pub Advanced : ℕ → ℕ → (List ℕ → Type 0) → View → Result Step Refusal → View → Type 0
Advanced n R M a r b = AdvancedFrom n R M a a.state r b

-- reprice with the prices ps: the point is kept, and the row opens as begin's does
abbrev pub reprice_checks : ℕ → ℕ → View → List ℤ → List Check
reprice_checks n R a ps =
    ask NotBegunFault (IsBegun a.state) ∷ ask RowLimit (a.totals.rows < 1000) ∷ ask Length (length ps ≡ n) ∷ ask Weight (weight ps ≤ R) ∷ []

abbrev pub Repriced : ℕ → ℕ → View → List ℤ → Result (Unit {0}) Refusal → View → Type 0
Repriced n R a ps (Ok _) b = Passes (reprice_checks n R a ps) × (b ≡ accepted a a.point ps)
Repriced n R a ps (Err e) b = RefusedBy (reprice_checks n R a ps) e × (b ≡ a)
