-- The stages of the parser and the order of a script's letters: a letter has a stage after it exactly where a whole script goes on with it.
use Rattle.std.proofs.Common.{◌≡◌, ℕ, cond, eqb, ◌⊎◌, List, [], ◌∷◌, ◌++◌, map, Some, None, Option, sym, refl, ap, ◌∙◌, subst, inl, inr, ⊎_elim, arith}
use Rattle.commands.specs.Commands.{Said}
use Rattle.script.specs.Scripts.{Continues, InOrder, letter}
use Rattle.script.specs.Stages.{next, run}
use Rattle.script.specs.declared.draft.Stage.TheVariants.{Dimension, Done, Ending, Kind, Members, Prices}
use Rattle.script.specs.declared.draft.Stage.{Stage}
use Rattle.std.proofs.lemmas.Bool.{cases_eq, eq-eqb, ne_eqb}
use Rattle.std.specs.List.{AllByRecursion}

pub run_append : (s : Option Stage) (u v : List ℕ) → run s (u ++ v) ≡ run (run s u) v
run_append None u v = refl
run_append (Some s) [] v = refl
run_append (Some s) (x ∷ u) v = run_append (next s x) u v

prices_run : (qs : List ℕ) → AllByRecursion (λ x. (x ≡ 67) ⊎ (x ≡ 89)) qs → run (Some Prices) (qs ++ 83 ∷ 90 ∷ []) ≡ Some Done
prices_run [] a = refl
prices_run (x ∷ qs) (inl e, a) = rw e (prices_run qs a)
prices_run (x ∷ qs) (inr e, a) = rw e (prices_run qs a)

members_run : (ps qs : List ℕ) → AllByRecursion (λ x. x ≡ 80) ps → AllByRecursion (λ x. (x ≡ 67) ⊎ (x ≡ 89)) qs → run (Some Members) (ps ++ (qs ++ 83 ∷ 90 ∷ [])) ≡ Some Done
members_run [] [] a b = refl
members_run [] (x ∷ qs) a (inl e, b) = rw e (prices_run qs b)
members_run [] (x ∷ qs) a (inr e, b) = rw e (prices_run qs b)
members_run (x ∷ ps) qs (e, a) b = rw e (members_run ps qs a b)

pub forward : (w : List ℕ) → InOrder w → run (Some Dimension) w ≡ Some Done
forward w (ps, qs, a, b, e) = rw e (members_run ps qs a b)

-- a letter that a stage takes, and the stage after it
abbrev pub Step : Stage → ℕ → Stage → Type 0
Step Dimension x t = (x ≡ 78) × (t ≡ Kind)
Step Kind x t = (x ≡ 76) × (t ≡ Members)
Step Members x t = ((x ≡ 80) × (t ≡ Members)) ⊎ ((((x ≡ 67) ⊎ (x ≡ 89)) × (t ≡ Prices)) ⊎ ((x ≡ 83) × (t ≡ Ending)))
Step Prices x t = (((x ≡ 67) ⊎ (x ≡ 89)) × (t ≡ Prices)) ⊎ ((x ≡ 83) × (t ≡ Ending))
Step Ending x t = (x ≡ 90) × (t ≡ Done)
Step Done x t = ⊥

-- a test on the way to a stage
by : (x k : ℕ) (a t : Stage) (o : Option Stage) → cond (eqb x k) (Some a) o ≡ Some t → ((x ≡ k) × (t ≡ a)) ⊎ (o ≡ Some t)
by x k a t o e =
    ⊎_elim (λ p. let q = eq-eqb x k p in let g : Some a ≡ Some t = rw q at e in inl (p, (cc)))
    (λ n. let q = ne_eqb x k n in inr (rw q at e)) (cases_eq x k)

none : (t : Stage) → ◌≡◌ {A = Option Stage} None (Some t) → ⊥
none t e = let z : ◌≡◌ {A = ℕ} 0 1 = cc in omega arith

priced : (x : ℕ) (t : Stage) → next Prices x ≡ Some t → (((x ≡ 67) ⊎ (x ≡ 89)) × (t ≡ Prices)) ⊎ ((x ≡ 83) × (t ≡ Ending))
priced x t e =
    ⊎_elim (λ (p : (x ≡ 67) × (t ≡ Prices)). inl (inl p.0, p.1))
    (λ f. ⊎_elim (λ (p : (x ≡ 89) × (t ≡ Prices)). inl (inr p.0, p.1)) (λ g. ⊎_elim (λ p. inr p) (λ h. absurd (none t h)) (by x 83 Ending t None g)) (by x 89 Prices t _ f))
    (by x 67 Prices t _ e)

pub step_in : (s : Stage) (x : ℕ) (t : Stage) → next s x ≡ Some t → Step s x t
step_in Dimension x t e = ⊎_elim (λ p. p) (λ f. absurd (none t f)) (by x 78 Kind t None e)
step_in Kind x t e = ⊎_elim (λ p. p) (λ f. absurd (none t f)) (by x 76 Members t None e)
step_in Members x t e = ⊎_elim (λ p. inl p) (λ f. inr (priced x t f)) (by x 80 Members t _ e)
step_in Prices x t e = priced x t e
step_in Ending x t e = ⊎_elim (λ p. p) (λ f. absurd (none t f)) (by x 90 Done t None e)
step_in Done x t e = none t e

live : (o : Option Stage) (w : List ℕ) → run o w ≡ Some Done → (t : Stage) × (o ≡ Some t)
live None w e = absurd (none Done e)
live (Some t) w e = (t, refl)

onward : (o : Option Stage) (w : List ℕ) (t : Stage) → run o w ≡ Some Done → o ≡ Some t → run (Some t) w ≡ Some Done
onward o w t e p = subst (λ (o' : Option Stage). run o' w ≡ Some Done) p e

moved : (w : List ℕ) (s t : Stage) → run (Some s) w ≡ Some Done → s ≡ t → run (Some t) w ≡ Some Done
moved w s t e p = subst (λ (s' : Stage). run (Some s') w ≡ Some Done) p e

-- what a stage leads to
back_done : (w : List ℕ) → run (Some Done) w ≡ Some Done → w ≡ []
back_done [] e = refl
back_done (x ∷ w) e = absurd (none Done e)

back_ending : (w : List ℕ) → run (Some Ending) w ≡ Some Done → w ≡ 90 ∷ []
back_ending [] e = absurd (let z : ◌≡◌ {A = ℕ} 0 1 = cc in omega arith)
back_ending (x ∷ w) e =
    let l = live (next Ending x) w e in
    let s = step_in Ending x l.0 l.1 in
    let r = back_done w (moved w l.0 Done (onward (next Ending x) w l.0 e l.1) s.1) in
    rw (s.0, r)

abbrev Priced : List ℕ → Type 0
Priced w = (qs : List ℕ) × AllByRecursion (λ x. (x ≡ 67) ⊎ (x ≡ 89)) qs × (w ≡ qs ++ 83 ∷ 90 ∷ [])

mutual_prices : (x : ℕ) (w : List ℕ) (t : Stage) → run (Some t) w ≡ Some Done → (run (Some Prices) w ≡ Some Done → Priced w) → (((x ≡ 67) ⊎ (x ≡ 89)) × (t ≡ Prices)) ⊎ ((x ≡ 83) × (t ≡ Ending)) → Priced (x ∷ w)
mutual_prices x w t e more (inl (p, q)) =
    let r = more (moved w t Prices e q) in
    (x ∷ r.0, (p, r.1), ap (λ (v : List ℕ). x ∷ v) r.2)
mutual_prices x w t e more (inr (p, q)) =
    let r = back_ending w (moved w t Ending e q) in
    ([], tt, rw (p, r))

back_prices : (w : List ℕ) → run (Some Prices) w ≡ Some Done → Priced w
back_prices [] e = absurd (let z : ◌≡◌ {A = ℕ} 0 1 = cc in omega arith)
back_prices (x ∷ w) e =
    let l = live (next Prices x) w e in
    mutual_prices x w l.0 (onward (next Prices x) w l.0 e l.1) (back_prices w) (step_in Prices x l.0 l.1)

abbrev Listing : List ℕ → Type 0
Listing w = (ps qs : List ℕ) × AllByRecursion (λ x. x ≡ 80) ps × AllByRecursion (λ x. (x ≡ 67) ⊎ (x ≡ 89)) qs × (w ≡ ps ++ (qs ++ 83 ∷ 90 ∷ []))

mutual_members : (x : ℕ) (w : List ℕ) (t : Stage) → run (Some t) w ≡ Some Done → (run (Some Members) w ≡ Some Done → Listing w) → Step Members x t → Listing (x ∷ w)
mutual_members x w t e more (inl (p, q)) =
    let r = more (moved w t Members e q) in
    (x ∷ r.0, r.1, (p, r.2), r.3, ap (λ (v : List ℕ). x ∷ v) r.4)
mutual_members x w t e more (inr s) =
    let r = mutual_prices x w t e (back_prices w) s in
    ([], r.0, tt, r.1, r.2)

back_members : (w : List ℕ) → run (Some Members) w ≡ Some Done → Listing w
back_members [] e = absurd (let z : ◌≡◌ {A = ℕ} 0 1 = cc in omega arith)
back_members (x ∷ w) e =
    let l = live (next Members x) w e in
    mutual_members x w l.0 (onward (next Members x) w l.0 e l.1) (back_members w) (step_in Members x l.0 l.1)

heads : (x y : ℕ) (w v : List ℕ) → x ≡ 78 → y ≡ 76 → w ≡ v → x ∷ y ∷ w ≡ 78 ∷ 76 ∷ v
heads x y w v p q r = cc

pub backward : (w : List ℕ) → run (Some Dimension) w ≡ Some Done → InOrder w
backward [] e = absurd (let z : ◌≡◌ {A = ℕ} 0 1 = cc in omega arith)
backward (x ∷ []) e =
    let l = live (next Dimension x) [] e in
    let s = step_in Dimension x l.0 l.1 in
    let f = moved [] l.0 Kind (onward (next Dimension x) [] l.0 e l.1) s.1 in
    absurd (let z : ◌≡◌ {A = ℕ} 0 1 = cc in omega arith)
backward (x ∷ y ∷ w) e =
    let l = live (next Dimension x) (y ∷ w) e in
    let s = step_in Dimension x l.0 l.1 in
    let f = moved (y ∷ w) l.0 Kind (onward (next Dimension x) (y ∷ w) l.0 e l.1) s.1 in
    let m = live (next Kind y) w f in
    let u = step_in Kind y m.0 m.1 in
    let r = back_members w (moved w m.0 Members (onward (next Kind y) w m.0 f m.1) u.1) in
    (r.0, r.1, r.2, r.3, heads x y w _ s.0 u.0 r.4)

-- every stage can be brought to the end
finish : (s : Stage) → (ds : List ℕ) × (run (Some s) ds ≡ Some Done)
finish Dimension = (78 ∷ 76 ∷ 83 ∷ 90 ∷ [], refl)
finish Kind = (76 ∷ 83 ∷ 90 ∷ [], refl)
finish Members = (83 ∷ 90 ∷ [], refl)
finish Prices = (83 ∷ 90 ∷ [], refl)
finish Ending = (90 ∷ [], refl)
finish Done = ([], refl)

module _ (cs : List Said) (c : Said) (s : Stage) (h : run (Some Dimension) (map letter cs) ≡ Some s) where
  on : (ds : List ℕ) → run (Some Dimension) (map letter cs ++ c.0 ∷ ds) ≡ run (next s c.0) ds
  on ds = run_append (Some Dimension) (map letter cs) (c.0 ∷ ds) ∙ ap (λ (o : Option Stage). run o (c.0 ∷ ds)) h

  pub order_ok : (t : Stage) → next s c.0 ≡ Some t → Continues cs c
  order_ok t n =
      let f = finish t in
      (f.0, backward _ (on f.0 ∙ ap (λ (o : Option Stage). run o f.0) n ∙ f.1))

  pub order_bad : next s c.0 ≡ None → Continues cs c → ⊥
  order_bad n (ds, i) = none Done (sym (on ds ∙ ap (λ (o : Option Stage). run o ds) n) ∙ forward _ i)

-- a command that may come next has stages before and after it
pub staged : (cs : List Said) (c : Said) → Continues cs c → (s t : Stage) × (run (Some Dimension) (map letter cs) ≡ Some s) × (next s c.0 ≡ Some t)
staged cs c (rest, i) =
    let o = run (Some Dimension) (map letter cs) in
    let e : run o (c.0 ∷ rest) ≡ Some Done = sym (run_append (Some Dimension) (map letter cs) (c.0 ∷ rest)) ∙ forward _ i in
    let l = live o (c.0 ∷ rest) e in
    let m = live (next l.0 c.0) rest (onward o (c.0 ∷ rest) l.0 e l.1) in
    (l.0, m.0, l.1, m.1)
