-- A refusal handed on: where a call's own checks pass, and so do the like checks of the call that it makes, the last check of that one is its own.
use Rattle.std.proofs.Common.{◌≡◌, ℕ, Bool, true, false, eqb, List, [], ◌∷◌, ◌++◌, MatchBool, sym, subst, ⊎_elim}
use Rattle.std.proofs.lemmas.Bool.{cases_Bool, eqb-true, eq-eqb}
use Rattle.rows.specs.Refusals.{Check, ask, number, Passes, RefusedBy}
use Rattle.rows.specs.declared.refusals.Fault.{Fault}
use Rattle.rows.specs.declared.refusals.Refusal.{Refusal}
use Rattle.rows.proofs.Checks.{Excludes, Without, past, after}

past_all : (cs ds : List Check) (e : Refusal) → Excludes cs → Passes cs → RefusedBy (cs ++ ds) e → RefusedBy ds e
past_all [] ds e x p r = r
past_all (c ∷ cs) ds e x p r = past_all cs ds e x.1 p.1 (past c (cs ++ ds) e p.0 x.0 r)

after_all : (cs ds : List Check) (e : Refusal) → Without (number e.fault) cs → Passes cs → RefusedBy ds e → RefusedBy (cs ++ ds) e
after_all [] ds e w p r = r
after_all (c ∷ cs) ds e w p r = after c (cs ++ ds) e p.0 (λ q. w.0 (sym q)) (after_all cs ds e w.1 p.1 r)

-- a lone check refuses by its own fault
lone_number : (f : Fault) (P : Type 0) (e : Refusal) → RefusedBy (ask f P ∷ []) e → number e.fault ≡ number f
lone_number f P e r =
    let t = eqb (number e.fault) (number f) in
    let W : Bool → Type 0 = λ b. MatchBool b ((e.place ≡ 0) × (P → ⊥)) (P × ⊥) in
    ⊎_elim
    (λ (h : t ≡ true). eqb-true (number e.fault) (number f) h)
    (λ (h : t ≡ false). absurd (subst W h r).1)
    (cases_Bool t)

lone_other : (f : Fault) (P Q : Type 0) (e : Refusal) → (Q → P) → RefusedBy (ask f P ∷ []) e → RefusedBy (ask f Q ∷ []) e
lone_other f P Q e g r =
    let s : eqb (number e.fault) (number f) ≡ true = eq-eqb (number e.fault) (number f) (lone_number f P e r) in
    let W : Bool → Type 0 = λ b. MatchBool b ((e.place ≡ 0) × (P → ⊥)) (P × ⊥) in
    let V : Bool → Type 0 = λ b. MatchBool b ((e.place ≡ 0) × (Q → ⊥)) (Q × ⊥) in
    let q = subst W s r in
    subst V (sym s) (q.0, λ z. q.1 (g z))

pub relayed : (cs ds : List Check) (f : Fault) (P Q : Type 0) (e : Refusal) → Excludes cs → Passes cs → Without (number f) ds → Passes ds → (Q → P) →
    RefusedBy (cs ++ ask f P ∷ []) e → RefusedBy (ds ++ ask f Q ∷ []) e
relayed cs ds f P Q e x p w q g r =
    let l = past_all cs (ask f P ∷ []) e x p r in
    let O : ℕ → Type 0 = λ k. Without k ds in
    after_all ds (ask f Q ∷ []) e (subst O (sym (lone_number f P e l)) w) q (lone_other f P Q e g l)
