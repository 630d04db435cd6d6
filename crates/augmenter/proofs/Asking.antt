-- A question that a set hands on to another: what the checks of the one say of the checks of the other.
use Rattle.std.proofs.Common.{◌≡◌, ℕ, List, ℤ, subst, arith}
use Rattle.rows.specs.Refusals.{Passes, RefusedBy}
use Rattle.rows.specs.declared.refusals.Fault.TheVariants.{NotMember}
use Rattle.rows.specs.declared.refusals.Refusal.{Refusal}
use Rattle.rows.proofs.Checks.{Excludes, not_both}
use Rattle.rows.proofs.Marks.{marks_good}
use Rattle.rows.proofs.Relays.{relayed}
use Rattle.augmenter.specs.Questions.{shared_checks, checks}

-- the shared checks at a dimension and a reach that were asked for
pub shared_at : (n d R r : ℕ) (ps : List ℤ) (x : List ℕ) (m : ℕ) → d ≡ n → r ≡ R → Passes (shared_checks d r ps x m) → Passes (shared_checks n R ps x m)
shared_at n d R r ps x m de re p =
    let P : ℕ → ℕ → Type 0 = λ i j. Passes (shared_checks i j ps x m) in
    subst (λ (j : ℕ). P n j) re (subst (λ (i : ℕ). P i r) de p)

shared_exclude : (n R : ℕ) (ps : List ℤ) (x : List ℕ) (m : ℕ) → Excludes (shared_checks n R ps x m)
shared_exclude n R ps x m = ((λ i p b. b.1 p), (marks_good x, ((λ i p b. b.1 p), tt)))

-- a question that passes every check is not refused
pub not_refused : (n R : ℕ) (M : List ℕ → Type 0) (ps : List ℤ) (x : List ℕ) (m : ℕ) (e : Refusal) →
    Passes (shared_checks n R ps x m) → M x → RefusedBy (checks n R M ps x m) e → ⊥
not_refused n R M ps x m e p h r =
    not_both (checks n R M ps x m) e ((λ i q b. b.1 q), (marks_good x, ((λ i q b. b.1 q), ((λ i q b. b.1 q), tt)))) (p.0, (p.1.0, (p.1.1.0, (h, tt)))) r

-- where both questions pass the shared checks, the refusal of the one below is that of the one above
pub refused_above : (n R k Q : ℕ) (M N : List ℕ → Type 0) (ps qs : List ℤ) (x y : List ℕ) (m l : ℕ) (e : Refusal) →
    Passes (shared_checks n R ps x m) → Passes (shared_checks k Q qs y l) → (M x → N y) → RefusedBy (checks k Q N qs y l) e → RefusedBy (checks n R M ps x m) e
refused_above n R k Q M N ps qs x y m l e p q g r =
    relayed (shared_checks k Q qs y l) (shared_checks n R ps x m) NotMember (N y) (M x) e (shared_exclude k Q qs y l) q
    ((λ f. omega (arith, f)), ((λ f. omega (arith, f)), ((λ f. omega (arith, f)), tt))) p g r
