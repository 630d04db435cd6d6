-- A call that passes its checks is not refused by them, and a refusal comes from a check that it does not pass.
use Rattle.std.proofs.Common.{◌≡◌, ℕ, Bool, true, false, eqb, List, [], ◌∷◌, ◌++◌, MatchBool, sym, ◌∙◌, subst, ⊎_elim}
use Rattle.std.proofs.lemmas.Bool.{cases_Bool, eqb-true, ne_eqb}
use Rattle.rows.specs.Refusals.{Check, number, Passes, RefusedBy}
use Rattle.rows.specs.declared.refusals.Refusal.{Refusal}

-- what a check asks keeps it from being broken
abbrev pub Excludes : List Check → Type 0
Excludes [] = Unit {0}
Excludes (c ∷ cs) = ((i : ℕ) → c.asks → c.broken i → ⊥) × Excludes cs

pub not_both : (cs : List Check) (e : Refusal) → Excludes cs → Passes cs → RefusedBy cs e → ⊥
not_both [] e x p r = r
not_both (c ∷ cs) e x p r =
    let t = eqb (number e.fault) (number c.fault) in
    let W : Bool → Type 0 = λ b. MatchBool b (c.broken e.place) (c.asks × RefusedBy cs e) in
    ⊎_elim
    (λ (h : t ≡ true). x.0 e.place p.0 (subst W h r))
    (λ (h : t ≡ false). not_both cs e x.1 p.1 (subst W h r).1)
    (cases_Bool t)

-- a refusal comes from a check after one that is passed
pub past : (c : Check) (cs : List Check) (e : Refusal) → c.asks → ((i : ℕ) → c.asks → c.broken i → ⊥) → RefusedBy (c ∷ cs) e → RefusedBy cs e
past c cs e p x r =
    let t = eqb (number e.fault) (number c.fault) in
    let W : Bool → Type 0 = λ b. MatchBool b (c.broken e.place) (c.asks × RefusedBy cs e) in
    ⊎_elim
    (λ (h : t ≡ true). absurd (x e.place p (subst W h r)))
    (λ (h : t ≡ false). (subst W h r).1)
    (cases_Bool t)

-- and stays one where checks are put before those that refuse, or after them
pub after : (c : Check) (cs : List Check) (e : Refusal) → c.asks → (number e.fault ≡ number c.fault → ⊥) → RefusedBy cs e → RefusedBy (c ∷ cs) e
after c cs e p n r =
    let t = eqb (number e.fault) (number c.fault) in
    let W : Bool → Type 0 = λ b. MatchBool b (c.broken e.place) (c.asks × RefusedBy cs e) in
    subst W (sym (ne_eqb (number e.fault) (number c.fault) n)) (p, r)

pub appended : (cs ds : List Check) (e : Refusal) → RefusedBy cs e → RefusedBy (cs ++ ds) e
appended [] ds e r = absurd r
appended (c ∷ cs) ds e r =
    let t = eqb (number e.fault) (number c.fault) in
    let W : Bool → Type 0 = λ b. MatchBool b (c.broken e.place) (c.asks × RefusedBy cs e) in
    let V : Bool → Type 0 = λ b. MatchBool b (c.broken e.place) (c.asks × RefusedBy (cs ++ ds) e) in
    ⊎_elim
    (λ (h : t ≡ true). subst V (sym h) (subst W h r))
    (λ (h : t ≡ false). let q = subst W h r in subst V (sym h) (q.0, appended cs ds e q.1))
    (cases_Bool t)

-- a refusal has the number of one of the checks
abbrev pub Without : ℕ → List Check → Type 0
Without k [] = Unit {0}
Without k (c ∷ cs) = (number c.fault ≡ k → ⊥) × Without k cs

pub not_number : (cs : List Check) (e : Refusal) (k : ℕ) → Without k cs → RefusedBy cs e → number e.fault ≡ k → ⊥
not_number [] e k w r q = r
not_number (c ∷ cs) e k w r q =
    let t = eqb (number e.fault) (number c.fault) in
    let W : Bool → Type 0 = λ b. MatchBool b (c.broken e.place) (c.asks × RefusedBy cs e) in
    ⊎_elim
    (λ (h : t ≡ true). w.0 (sym (eqb-true (number e.fault) (number c.fault) h) ∙ q))
    (λ (h : t ≡ false). not_number cs e k w.1 (subst W h r).1 q)
    (cases_Bool t)

-- checks refuse by one number at one place, where each names one place
abbrev pub Exact : List Check → Type 0
Exact [] = Unit {0}
Exact (c ∷ cs) = ((i j : ℕ) → c.broken i → c.broken j → i ≡ j) × Exact cs

pub one_refusal : (cs : List Check) (e f : Refusal) → Excludes cs → Exact cs → RefusedBy cs e → RefusedBy cs f → (number e.fault ≡ number f.fault) × (e.place ≡ f.place)
one_refusal [] e f x y r q = absurd r
one_refusal (c ∷ cs) e f x y r q =
    let k = number c.fault in
    let t = eqb (number e.fault) k in
    let u = eqb (number f.fault) k in
    let W : Bool → Type 0 = λ b. MatchBool b (c.broken e.place) (c.asks × RefusedBy cs e) in
    let V : Bool → Type 0 = λ b. MatchBool b (c.broken f.place) (c.asks × RefusedBy cs f) in
    ⊎_elim
    (λ (h : t ≡ true). ⊎_elim
    (λ (g : u ≡ true). (eqb-true (number e.fault) k h ∙ sym (eqb-true (number f.fault) k g), y.0 e.place f.place (subst W h r) (subst V g q)))
    (λ (g : u ≡ false). absurd (x.0 e.place (subst V g q).0 (subst W h r)))
    (cases_Bool u))
    (λ (h : t ≡ false). ⊎_elim
    (λ (g : u ≡ true). absurd (x.0 f.place (subst W h r).0 (subst V g q)))
    (λ (g : u ≡ false). one_refusal cs e f x.1 y.1 (subst W h r).1 (subst V g q).1)
    (cases_Bool u))
    (cases_Bool t)
