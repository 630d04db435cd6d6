-- One command more: what it adds to what the commands so far mean, and that it passes its checks or is refused by one of them.
use Rattle.std.proofs.Common.{◌≡◌, ℕ, length-drop, length-take, ◌-◌, ◌*◌, ◌^◌, ◌<◌, ◌≤◌, Bool, true, false, cond, eqb, ◌⊎◌, List, [], ◌∷◌, ◌++◌, map, length, get_or, take, drop, set, replicate, ℤ, pos, is_some, Some, None, Ok, Err, MatchResult, Result, Option, sym, refl, ap, ◌∙◌, subst, ap₂, inl, inr, ⊎_elim, arith, w64, to_z, Bor}
use Rattle.std.specs.Int.Digits.{number_from_digits}
use Rattle.std.proofs.ByRecursion.{All-push}
use Rattle.std.proofs.lemmas.List.{append_assoc, append-nil, get_or-set_other, get_or-set_same, map_push, take_rest}
use Rattle.std.proofs.lemmas.Bool.{cases_eq, eqb-false, ne_eqb}
use Rattle.rows.specs.Classes.{class_of, days}
use Rattle.rows.specs.Packed.{ClearFrom}
use Rattle.rows.specs.Refusals.{Passes, RefusedBy}
use Rattle.rows.specs.declared.classes.Class.{Class}
use Rattle.rows.specs.declared.packed_rows.PackedRows.{PackedRows}
use Rattle.rows.specs.declared.refusals.Fault.{Fault}
use Rattle.rows.specs.declared.refusals.Fault.TheVariants as fault
use Rattle.commands.specs.Commands.{Said, said}
use Rattle.commands.specs.declared.command.Command.{Command}
use Rattle.commands.specs.declared.command.Command.TheVariants as command
use Rattle.script.proofs.Order.{order_bad, order_ok, run_append, staged, step_in}
use Rattle.script.specs.Scripts.{Continues, InRange, Last, Means, PriceAt, Prices as Pricing, ReachIs, StartIs, class_days, command_checks, dimension_of, letter, listed_rows, price_of, rows_of}
use Rattle.script.specs.Stages.{Adds, Takes, next, run}
use Rattle.script.specs.declared.draft.Draft.{Draft}
use Rattle.script.specs.declared.draft.Stage.{Stage}
use Rattle.script.specs.declared.draft.Stage.TheVariants.{Dimension, Done, Ending, Kind, Members, Prices}
use Rattle.script.specs.declared.problem.Problem.{Problem}

neither : (x a b : ℕ) → (x ≡ a → ⊥) → (x ≡ b → ⊥) → (x ≡ a) ⊎ (x ≡ b) → ⊥
neither x a b n m (inl e) = n e
neither x a b n m (inr e) = m e

-- one command more at the end
last_on : {V : Type 0} (P : Said → Type 0) (gives : Said → V) (d : V) (cs : List Said) (c : Said) (v : V) → (P c → ⊥) → Last P gives d cs v → Last P gives d (cs ++ c ∷ []) v
last_on P gives d cs c v n (inl (a, e)) = inl (All-push (λ x. P x → ⊥) cs c a n, e)
last_on P gives d cs c v n (inr (b, a, x, e, p, q, r)) =
    inr (b, a ++ c ∷ [], x, ap (λ (l : List Said). l ++ c ∷ []) e ∙ append_assoc b (x ∷ a) (c ∷ []), p, All-push (λ y. P y → ⊥) a c q n, r)

last_new : {V : Type 0} (P : Said → Type 0) (gives : Said → V) (d : V) (cs : List Said) (c : Said) (v : V) → P c → v ≡ gives c → Last P gives d (cs ++ c ∷ []) v
last_new P gives d cs c v p e = inr (cs, [], c, refl, p, tt, e)

rows_on : (cs : List Said) (c : Said) → rows_of (cs ++ c ∷ []) ≡ rows_of cs ++ cond (eqb c.0 80) (c.1 ∷ []) []
rows_on [] c = refl
rows_on (d ∷ cs) c =
    let r = rows_on cs c in
    elim (eqb d.0 80) as (λ b. cond b (d.1 ∷ rows_of (cs ++ c ∷ [])) (rows_of (cs ++ c ∷ [])) ≡ cond b (d.1 ∷ rows_of cs) (rows_of cs) ++ cond (eqb c.0 80) (c.1 ∷ []) [])
    [ true ↦ ap (λ (l : List (List ℕ)). d.1 ∷ l) r | false ↦ r ]

module _ (cs : List Said) (c : Said) (s t : Stage) (h : run (Some Dimension) (map letter cs) ≡ Some s) (n : next s c.0 ≡ Some t) where
  stage_on : run (Some Dimension) (map letter (cs ++ c ∷ [])) ≡ Some t
  stage_on =
      ap (run (Some Dimension)) (map_push letter cs c) ∙ (run_append (Some Dimension) (map letter cs) (c.0 ∷ []) ∙ (ap (λ (o : Option Stage). run o (c.0 ∷ [])) h ∙ ap (λ (o : Option Stage). run o []) n))

dimension_on : (cs : List Said) (c : Said) (s : Stage) → run (Some Dimension) (map letter cs) ≡ Some s → (s ≡ Dimension → ⊥) → dimension_of (cs ++ c ∷ []) ≡ dimension_of cs
dimension_on [] c s e ne = absurd (ne (cc))
dimension_on (d ∷ cs) c s e ne = refl

named_on : (s t : Stage) (c : Said) (cs : List Said) (n : ℕ) → run (Some Dimension) (map letter cs) ≡ Some s → next s c.0 ≡ Some t → (c.0 ≡ 78 → ⊥) → n ≡ dimension_of cs → n ≡ dimension_of (cs ++ c ∷ [])
named_on s t c cs n h e ne k =
    k ∙ sym (dimension_on cs c s h (λ q. ne (step_in Dimension c.0 t (ap (λ (s' : Stage). next s' c.0) (sym q) ∙ e)).0))

-- at the N there is no command yet
next_not_first : (s : Stage) (x : ℕ) → next s x ≡ Some Dimension → ⊥
next_not_first Dimension x e = let q = (step_in Dimension x Dimension e).1 in let z : ◌≡◌ {A = ℕ} 0 1 = cc in omega arith
next_not_first Kind x e = let q = (step_in Kind x Dimension e).1 in let z : ◌≡◌ {A = ℕ} 0 1 = cc in omega arith
next_not_first Members x e =
    ⊎_elim (λ q. let r = q.1 in let z : ◌≡◌ {A = ℕ} 0 1 = cc in omega arith)
    (λ m. ⊎_elim (λ q. let r = q.1 in let z : ◌≡◌ {A = ℕ} 0 1 = cc in omega arith) (λ q. let r = q.1 in let z : ◌≡◌ {A = ℕ} 0 1 = cc in omega arith) m) (step_in Members x Dimension e)
next_not_first Prices x e =
    ⊎_elim (λ q. let r = q.1 in let z : ◌≡◌ {A = ℕ} 0 1 = cc in omega arith) (λ q. let r = q.1 in let z : ◌≡◌ {A = ℕ} 0 1 = cc in omega arith) (step_in Prices x Dimension e)
next_not_first Ending x e = let q = (step_in Ending x Dimension e).1 in let z : ◌≡◌ {A = ℕ} 0 1 = cc in omega arith
next_not_first Done x e = step_in Done x Dimension e

never : (o : Option Stage) (w : List ℕ) → (o ≡ Some Dimension → ⊥) → run o w ≡ Some Dimension → ⊥
never None w n e = n e
never (Some s) [] n e = n e
never (Some s) (x ∷ w) n e = never (next s x) w (next_not_first s x) e

first : (cs : List Said) → run (Some Dimension) (map letter cs) ≡ Some Dimension → cs ≡ []
first [] e = refl
first (c ∷ cs) e = absurd (never (next Dimension c.0) (map letter cs) (next_not_first Dimension c.0) e)

at_n : (s t : Stage) → next s 78 ≡ Some t → s ≡ Dimension
at_n Dimension t e = refl
at_n Kind t e = let q = (step_in Kind 78 t e).0 in absurd (omega arith)
at_n Members t e = absurd (⊎_elim (λ q. let r = q.0 in omega arith) (λ m. ⊎_elim (λ q. neither 78 67 89 (λ e. omega arith) (λ e. omega arith) q.0) (λ q. let r = q.0 in omega arith) m) (step_in Members 78 t e))
at_n Prices t e = absurd (⊎_elim (λ q. neither 78 67 89 (λ e. omega arith) (λ e. omega arith) q.0) (λ q. let r = q.0 in omega arith) (step_in Prices 78 t e))
at_n Ending t e = let q = (step_in Ending 78 t e).0 in absurd (omega arith)
at_n Done t e = absurd (step_in Done 78 t e)

named_first : (s t : Stage) (o : List ℕ) (cs : List Said) (n : ℕ) → run (Some Dimension) (map letter cs) ≡ Some s → next s 78 ≡ Some t → n ≡ number_from_digits 256 o → n ≡ dimension_of (cs ++ (78, o) ∷ [])
named_first s t o cs n e k q = q ∙ ap (λ (l : List Said). dimension_of (l ++ (78, o) ∷ [])) (sym (first cs (e ∙ ap Some (at_n s t k))))

-- what the command c leaves as it was
module _ (cs : List Said) (c : Said) (p : Problem) (m : Means cs p) (g : Continues cs c) where
  dimension_kept : (c.0 ≡ 78 → ⊥) → p.dimension ≡ dimension_of (cs ++ c ∷ [])
  dimension_kept n = let k = staged cs c g in named_on k.0 k.1 c cs p.dimension k.2 k.3 n m.dimension

  reach_kept : (c.0 ≡ 76 → ⊥) → ReachIs (cs ++ c ∷ []) p.reach
  reach_kept n = last_on (λ x. x.0 ≡ 76) (λ x. number_from_digits 256 x.1) 0 cs c _ n m.reach

  listed_kept : (c.0 ≡ 80 → ⊥) → listed_rows p ≡ rows_of (cs ++ c ∷ [])
  listed_kept n =
      m.listed ∙ sym (rows_on cs c ∙ (ap (λ (b : Bool). rows_of cs ++ cond b (c.1 ∷ []) []) (ne_eqb c.0 80 n) ∙ append-nil (rows_of cs)))

  prices_kept : (c.0 ≡ 67 → ⊥) → (c.0 ≡ 89 → ⊥) → (i : ℕ) → i < 128 → PriceAt (cs ++ c ∷ []) i (get_or p.prices i (pos 0))
  prices_kept n k i l = last_on (Pricing i) price_of (pos 0) cs c _ (λ q. neither c.0 67 89 n k q.0) (m.prices i l)

  start_kept : (c.0 ≡ 83 → ⊥) → StartIs (cs ++ c ∷ []) p.start
  start_kept n = last_on (λ x. x.0 ≡ 83) (λ x. x.1) (replicate 16 0) cs c _ n m.start

-- what holds of a part of the problem after a command: the new fact where b says that the part is the command's, else that it is as before
abbrev pub Part : Bool → Type 0 → Type 0 → Type 0
Part true new same = new
Part false new same = same

part : {N S R : Type 0} (x y : ℕ) → Part (eqb x y) N S → (N → R) → ((x ≡ y → ⊥) → S → R) → R
part {N} {S} {R} x y h f g = pick (eqb x y) refl h
  where
    pick : (b : Bool) → eqb x y ≡ b → Part b N S → R
    pick true e k = f k
    pick false e k = g (eqb-false x y e) k

-- the problem q after a command that is neither a C nor a Y
pub means_on : (cs : List Said) (x : ℕ) (o : List ℕ) (p q : Problem) → Means cs p → Continues cs (x, o) → (x ≡ 67 → ⊥) → (x ≡ 89 → ⊥) → q.prices ≡ p.prices →
    Part (eqb x 78) (q.dimension ≡ dimension_of (cs ++ (x, o) ∷ [])) (q.dimension ≡ p.dimension) →
    Part (eqb x 76) (ReachIs (cs ++ (x, o) ∷ []) q.reach) (q.reach ≡ p.reach) →
    Part (eqb x 80) (listed_rows q ≡ rows_of (cs ++ (x, o) ∷ [])) (listed_rows q ≡ listed_rows p) →
    Part (eqb x 83) (StartIs (cs ++ (x, o) ∷ []) q.start) (q.start ≡ p.start) → Means (cs ++ (x, o) ∷ []) q
means_on cs x o p q m g c y prices n l r s =
    let e = cs ++ (x, o) ∷ [] in
    record {
      dimension = part x 78 n (λ k. k) (λ k i. i ∙ dimension_kept cs (x, o) p m g k);
      reach = part x 76 l (λ k. k) (λ k i. subst (ReachIs e) (sym i) (reach_kept cs (x, o) p m g k));
      listed = part x 80 r (λ k. k) (λ k i. i ∙ listed_kept cs (x, o) p m g k);
      prices = λ i k. subst (λ (v : List ℤ). PriceAt e i (get_or v i (pos 0))) (sym prices) (prices_kept cs (x, o) p m g c y i k);
      start = part x 83 s (λ k. k) (λ k i. subst (StartIs e) (sym i) (start_kept cs (x, o) p m g k));
    }

-- and what it gives
pub dimension_new : (cs : List Said) (o : List ℕ) (n : ℕ) → Continues cs (78, o) → n ≡ number_from_digits 256 o → n ≡ dimension_of (cs ++ (78, o) ∷ [])
dimension_new cs o n g e = let k = staged cs (78, o) g in named_first k.0 k.1 o cs n k.2 k.3 e

pub reach_new : (cs : List Said) (o : List ℕ) (r : ℕ) → r ≡ number_from_digits 256 o → ReachIs (cs ++ (76, o) ∷ []) r
reach_new cs o r e = last_new (λ x. x.0 ≡ 76) (λ x. number_from_digits 256 x.1) 0 cs (76, o) _ refl e

pub start_new : (cs : List Said) (o s : List ℕ) → s ≡ o → StartIs (cs ++ (83, o) ∷ []) s
start_new cs o s e = last_new (λ x. x.0 ≡ 83) (λ x. x.1) (replicate 16 0) cs (83, o) _ refl e

-- the checks of each letter
outside : (n x : ℕ) (o : List ℕ) → (x ≡ 67 → ⊥) → (x ≡ 89 → ⊥) → (x ≡ 80 → ⊥) → (x ≡ 83 → ⊥) → InRange n (x, o)
outside n x o c y p s = record { coordinate = λ e. absurd (neither x 67 89 c y e); bits = λ e. absurd (neither x 80 83 p s e) }

bits_in : (n x : ℕ) (o : List ℕ) → (x ≡ 67 → ⊥) → (x ≡ 89 → ⊥) → ClearFrom n o → InRange n (x, o)
bits_in n x o c y k = record { coordinate = λ e. absurd (neither x 67 89 c y e); bits = λ e. k }

module _ (cs : List Said) (o : List ℕ) (a : ℕ) where
  pub dimension_passes : Continues cs (78, o) → number_from_digits 256 o ≤ 128 → Passes (command_checks a cs (78, o))
  dimension_passes n k =
      (n, ((λ e. k), ((λ e. omega arith), ((λ e. absurd (omega arith)), (outside (dimension_of cs) 78 o (λ e. omega arith) (λ e. omega arith) (λ e. omega arith) (λ e. omega arith), ((λ e. omega arith), tt))))))

  pub dimension_refused : Continues cs (78, o) → 128 < number_from_digits 256 o → RefusedBy (command_checks a cs (78, o)) (record { fault = fault.Dimension; place = a })
  dimension_refused n k = (n, (refl, λ p. let q = p refl in omega arith))

  pub reach_passes : Continues cs (76, o) → number_from_digits 256 o < 2 ^ 40 → Passes (command_checks a cs (76, o))
  reach_passes n k =
      (n, ((λ e. omega arith), ((λ e. k), ((λ e. absurd (omega arith)), (outside (dimension_of cs) 76 o (λ e. omega arith) (λ e. omega arith) (λ e. omega arith) (λ e. omega arith), ((λ e. omega arith), tt))))))

  pub reach_refused : Continues cs (76, o) → 2 ^ 40 ≤ number_from_digits 256 o → RefusedBy (command_checks a cs (76, o)) (record { fault = fault.Reach; place = a })
  reach_refused n k = (n, ((λ e. omega arith), (refl, λ p. let q = p refl in omega arith)))

  pub row_passes : Continues cs (80, o) → ClearFrom (dimension_of cs) o → length (rows_of cs) < 256 → Passes (command_checks a cs (80, o))
  row_passes n k few =
      (n, ((λ e. omega arith), ((λ e. omega arith), ((λ e. absurd (omega arith)), (bits_in (dimension_of cs) 80 o (λ e. omega arith) (λ e. omega arith) k, ((λ e. few), tt))))))

  pub row_beyond : Continues cs (80, o) → (ClearFrom (dimension_of cs) o → ⊥) → RefusedBy (command_checks a cs (80, o)) (record { fault = fault.OutOfRange; place = a })
  row_beyond n k = (n, ((λ e. omega arith), ((λ e. omega arith), ((λ e. absurd (omega arith)), (refl, λ p. k (p.bits (inl refl)))))))

  pub row_full : Continues cs (80, o) → ClearFrom (dimension_of cs) o → 256 ≤ length (rows_of cs) → RefusedBy (command_checks a cs (80, o)) (record { fault = fault.Full; place = a })
  row_full n k full =
      (n, ((λ e. omega arith), ((λ e. omega arith), ((λ e. absurd (omega arith)), (bits_in (dimension_of cs) 80 o (λ e. omega arith) (λ e. omega arith) k, (refl, λ p. let q = p refl in omega arith))))))

  pub start_passes : Continues cs (83, o) → ClearFrom (dimension_of cs) o → Passes (command_checks a cs (83, o))
  start_passes n k =
      (n, ((λ e. omega arith), ((λ e. omega arith), ((λ e. absurd (omega arith)), (bits_in (dimension_of cs) 83 o (λ e. omega arith) (λ e. omega arith) k, ((λ e. omega arith), tt))))))

  pub start_beyond : Continues cs (83, o) → (ClearFrom (dimension_of cs) o → ⊥) → RefusedBy (command_checks a cs (83, o)) (record { fault = fault.OutOfRange; place = a })
  start_beyond n k = (n, ((λ e. omega arith), ((λ e. omega arith), ((λ e. absurd (omega arith)), (refl, λ p. k (p.bits (inr refl)))))))

  pub end_passes : Continues cs (90, o) → Passes (command_checks a cs (90, o))
  end_passes n =
      (n, ((λ e. omega arith), ((λ e. omega arith), ((λ e. absurd (omega arith)), (outside (dimension_of cs) 90 o (λ e. omega arith) (λ e. omega arith) (λ e. omega arith) (λ e. omega arith), ((λ e. omega arith), tt))))))

-- the error of a function that another one hands on
pub handed_on : (p q : Problem) (c : Said) (e f : Fault) (r : Result (Unit {0}) Fault) → r ≡ Err e → e ≡ f → Adds p c (Err f) q → Adds p c r q
handed_on p q c e f r i k h = subst (λ (v : Result (Unit {0}) Fault). Adds p c v q) (sym (i ∙ ap Err k)) h

pub row_refused : (p q : Problem) (o : List ℕ) → (ClearFrom p.dimension o → ⊥) → Adds p (80, o) (Err fault.OutOfRange) q
row_refused p q o n = λ cs m g a. row_beyond cs o a g (λ k. n (subst (λ (d : ℕ). ClearFrom d o) (sym m.dimension) k))

pub start_refused : (p q : Problem) (o : List ℕ) → (ClearFrom p.dimension o → ⊥) → Adds p (83, o) (Err fault.OutOfRange) q
start_refused p q o n = λ cs m g a. start_beyond cs o a g (λ k. n (subst (λ (d : ℕ). ClearFrom d o) (sym m.dimension) k))

-- a row was added to those listed, or there was no room
pub row_added : (p : Problem) (small : p.dimension ≤ 128) (rows : PackedRows) (o row : List ℕ) (r : Result (Unit {0}) Fault) → row ≡ o → ClearFrom p.dimension o →
    MatchResult r (λ _. (p.rows.count < 256) × (take rows.count rows.slots ≡ listed_rows p ++ row ∷ [])) (λ f. (f ≡ fault.Full) × (length (listed_rows p) ≡ 256) × (p.rows.count ≡ 256) × (rows ≡ p.rows)) →
    Adds p (80, o) r (record { dimension = p.dimension; reach = p.reach; rows = rows; prices = p.prices; start = p.start; small = small })
row_added p small rows o row (Ok u) e clear h =
    λ cs m g a. (
      row_passes cs o a g (subst (λ (n : ℕ). ClearFrom n o) m.dimension clear) (omega (arith, h.0, ap length m.listed, length-take p.rows.count p.rows.slots)),
      means_on cs 80 o p _ m g (λ e. omega arith) (λ e. omega arith) refl refl refl (h.1 ∙ (ap₂ (λ (u : List (List ℕ)) (v : List ℕ). u ++ v ∷ []) m.listed e ∙ sym (rows_on cs (80, o)))) refl,
    )
row_added p small rows o row (Err f) e clear h =
    λ cs m g a. subst (λ (k : Fault). RefusedBy (command_checks a cs (80, o)) (record { fault = k; place = a })) (sym h.0)
    (row_full cs o a g (subst (λ (n : ℕ). ClearFrom n o) m.dimension clear) (omega (arith, ap length m.listed, h.1)))

-- the price row after a C or a Y
prices_more : (prices : List ℤ) (i : ℕ) (z : ℤ) (c : Said) (cs : List Said) → i < length prices → Pricing i c → z ≡ price_of c → ((j : ℕ) → j < 128 → PriceAt cs j (get_or prices j (pos 0))) → (j : ℕ) → j < 128 → PriceAt (cs ++ c ∷ []) j (get_or (set prices i z) j (pos 0))
prices_more prices i z c cs l p e h j k =
    ⊎_elim (λ q. subst (λ (v : ℤ). PriceAt (cs ++ c ∷ []) j v) (sym (ap (λ (m : ℕ). get_or (set prices i z) m (pos 0)) q ∙ (get_or-set_same prices i z (pos 0) l ∙ e))) (last_new (Pricing j) price_of (pos 0) cs c _ (p.0, p.1 ∙ sym q) refl))
    (λ ne. subst (λ (v : ℤ). PriceAt (cs ++ c ∷ []) j v) (sym (get_or-set_other prices i j z (pos 0) ne)) (last_on (Pricing j) price_of (pos 0) cs c _ (λ q. ne (sym q.1 ∙ p.1)) (h j k))) (cases_eq j i)

neither_is : (x k : ℕ) → (67 ≡ k → ⊥) → (89 ≡ k → ⊥) → (x ≡ 67) ⊎ (x ≡ 89) → x ≡ k → ⊥
neither_is x k n m (inl e) q = n (sym e ∙ q)
neither_is x k n m (inr e) q = m (sym e ∙ q)

-- a C or a Y set a price, or its coordinate is not below the dimension
module _ (p q : Problem) (c : Said) (k : (c.0 ≡ 67) ⊎ (c.0 ≡ 89)) (u : c.0 ≡ 89 → is_some (class_of (get_or c.1 1 0)) ≡ true) (z : ℤ) (v : z ≡ price_of c) (l : length p.prices ≡ 128) where
  no : (j : ℕ) → (67 ≡ j → ⊥) → (89 ≡ j → ⊥) → c.0 ≡ j → ⊥
  no j n m = neither_is c.0 j n m k

  pub price_added : (r : Result (Unit {0}) Fault) →
      MatchResult r (λ _. (get_or c.1 0 0 < p.dimension) × (q ≡ record p { prices = set p.prices (get_or c.1 0 0) z })) (λ f. (f ≡ fault.OutOfRange) × (p.dimension ≤ get_or c.1 0 0)) → Adds p c r q
  price_added (Ok t) h = λ cs m g a. (
    (
      g,
      (
        (λ e. absurd (no 78 (λ e. omega arith) (λ e. omega arith) e)),
        (
          (λ e. absurd (no 76 (λ e. omega arith) (λ e. omega arith) e)),
          (
            u,
            (
              record { coordinate = λ e. omega (arith, m.dimension, h.0); bits = λ e. absurd (neither c.0 80 83 (no 80 (λ e. omega arith) (λ e. omega arith)) (no 83 (λ e. omega arith) (λ e. omega arith)) e) },
              ((λ e. absurd (no 80 (λ e. omega arith) (λ e. omega arith) e)), tt),
            ),
          ),
        ),
      ),
    ),
    subst (Means (cs ++ c ∷ [])) (sym h.1) (record {
      dimension = dimension_kept cs c p m g (no 78 (λ e. omega arith) (λ e. omega arith));
      reach = reach_kept cs c p m g (no 76 (λ e. omega arith) (λ e. omega arith));
      listed = listed_kept cs c p m g (no 80 (λ e. omega arith) (λ e. omega arith));
      prices = prices_more p.prices (get_or c.1 0 0) z c cs (omega (arith, p.small, h.0, l)) (k, refl) v m.prices;
      start = start_kept cs c p m g (no 83 (λ e. omega arith) (λ e. omega arith));
    }),
  )
  price_added (Err f) h = λ cs m g a.
      subst (λ (y : Fault). RefusedBy (command_checks a cs c) (record { fault = y; place = a })) (sym h.0)
      (g, ((λ e. absurd (no 78 (λ e. omega arith) (λ e. omega arith) e)), ((λ e. absurd (no 76 (λ e. omega arith) (λ e. omega arith) e)), (u, (refl, λ y. let x = y.coordinate k in omega (arith, m.dimension, h.1))))))

-- the price that a C gives, and a Y
pub price_value : (o : List ℕ) (n : ℕ) (z : ℤ) → length o ≡ 9 → z ≡ to_z w64 n → (length (take (length o - 1) (drop 1 o)) ≤ 8 → n ≡ number_from_digits 256 (take (length o - 1) (drop 1 o))) →
    z ≡ to_z w64 (number_from_digits 256 (drop 1 o))
price_value o n z l e h =
    let r = take_rest o 1 in
    e ∙ ap (to_z w64) (h (omega (arith, ap length r, length-drop 1 o)) ∙ ap (number_from_digits 256) r)

pub units_value : (o : List ℕ) (n : ℕ) (k : Class) (z : ℤ) → length o ≡ 6 → Some k ≡ class_of (get_or o 1 0) → z ≡ pos (n * days k) →
    (length (take (length o - 2) (drop 2 o)) ≤ 8 → n ≡ number_from_digits 256 (take (length o - 2) (drop 2 o))) →
    z ≡ pos (number_from_digits 256 (drop 2 o) * class_days (class_of (get_or o 1 0)))
units_value o n k z l e v h =
    let r = take_rest o 2 in
    let m : n ≡ number_from_digits 256 (drop 2 o) = h (omega (arith, ap length r, length-drop 2 o)) ∙ ap (number_from_digits 256) r in
    v ∙ ap₂ (λ (x y : ℕ). pos (x * y)) m (ap class_days e)

-- a letter that some stage takes
only : (s t : Stage) (x : ℕ) → next s x ≡ Some t → (x ≡ 78 → ⊥) → (x ≡ 76 → ⊥) → (x ≡ 80 → ⊥) → (x ≡ 67 → ⊥) → (x ≡ 89 → ⊥) → (x ≡ 83 → ⊥) → (x ≡ 90 → ⊥) → ⊥
only Dimension t x e n l p c y s z = n (step_in Dimension x t e).0
only Kind t x e n l p c y s z = l (step_in Kind x t e).0
only Members t x e n l p c y s z = ⊎_elim (λ q. p q.0) (λ m. ⊎_elim (λ q. neither x 67 89 c y q.0) (λ q. s q.0) m) (step_in Members x t e)
only Prices t x e n l p c y s z = ⊎_elim (λ q. neither x 67 89 c y q.0) (λ q. s q.0) (step_in Prices x t e)
only Ending t x e n l p c y s z = z (step_in Ending x t e).0
only Done t x e n l p c y s z = step_in Done x t e

pub end_added : (p : Problem) (o : List ℕ) → Adds p (90, o) (Ok tt) p
end_added p o =
    λ cs m g a. (
      end_passes cs o a g,
      means_on cs 90 o p p m g (λ e. omega arith) (λ e. omega arith) refl refl refl refl refl,
    )

-- the command k, whose letter is x, and o what the stage of the draft d is after the letter
module _ (d : Draft) (k : Command) (s : Said) (x : ℕ) (o : Option Stage) (e : s ≡ said k) (f : x ≡ s.0) (n : o ≡ next d.stage x) where
  letter_next : next d.stage (said k).0 ≡ o
  letter_next = ap (next d.stage) (sym (f ∙ ap (λ (c : Said). c.0) e)) ∙ sym n

  -- the order and the problem are both one command further
  pub taken : (t : Stage) (q : Problem) → o ≡ Some t → Adds d.problem (said k) (Ok tt) q → Takes d (said k) (Ok tt) (record { stage = t; problem = q })
  taken t q i h =
      λ cs l a. (let b = h cs l.means (order_ok cs (said k) d.stage l.stage t (letter_next ∙ i)) a in (b.0, record { stage = stage_on cs (said k) d.stage t l.stage (letter_next ∙ i); means = b.1 }))

  -- or the problem refuses the command
  pub not_added : (t : Stage) (y : Draft) (q : Problem) (g : Fault) (r : Result (Unit {0}) Fault) → o ≡ Some t → r ≡ Err g → Adds d.problem (said k) (Err g) q → Takes d (said k) r y
  not_added t y q g r i w h =
      subst (λ (v : Result (Unit {0}) Fault). Takes d (said k) v y) (sym w) (λ cs l a. h cs l.means (order_ok cs (said k) d.stage l.stage t (letter_next ∙ i)) a)

  -- or the command may not come next
  pub out_of_order : (y : Draft) (g : Fault) (r : Result (Unit {0}) Fault) → o ≡ None → r ≡ Err g → g ≡ fault.Order → Takes d (said k) r y
  out_of_order y g r i w h =
      subst (λ (v : Result (Unit {0}) Fault). Takes d (said k) v y) (sym (w ∙ ap Err h)) (λ cs l a. (refl, order_bad cs (said k) d.stage l.stage (letter_next ∙ i)))

-- the command k is j
pub added : (k j : Command) (p q : Problem) (r : Result (Unit {0}) Fault) → k ≡ j → Adds p (said j) r q → Adds p (said k) r q
added k j p q r w h = subst (λ (v : Command). Adds p (said v) r q) (sym w) h

pub only_command : (k : Command) (a t : Stage) → next a (said k).0 ≡ Some t → ((o : Bor (List ℕ)) → k ≡ command.Dimension o → ⊥) → ((o : Bor (List ℕ)) → k ≡ command.Reach o → ⊥) → ((o : Bor (List ℕ)) → k ≡ command.ListedRow o → ⊥) → ((o : Bor (List ℕ)) → k ≡ command.Price o → ⊥) → ((o : Bor (List ℕ)) → k ≡ command.Units o → ⊥) → ((o : Bor (List ℕ)) → k ≡ command.Start o → ⊥) → (k ≡ command.End → ⊥) → ⊥
only_command (command.Dimension o) a t e n l p c y s z = n o refl
only_command (command.Reach o) a t e n l p c y s z = l o refl
only_command (command.ListedRow o) a t e n l p c y s z = p o refl
only_command (command.Price o) a t e n l p c y s z = c o refl
only_command (command.Units o) a t e n l p c y s z = y o refl
only_command (command.Start o) a t e n l p c y s z = s o refl
only_command command.End a t e n l p c y s z = z refl
only_command (command.FlowNodes o) a t e n l p c y s z = only a t 70 e (λ e. omega arith) (λ e. omega arith) (λ e. omega arith) (λ e. omega arith) (λ e. omega arith) (λ e. omega arith) (λ e. omega arith)
only_command (command.GraphNodes o) a t e n l p c y s z = only a t 71 e (λ e. omega arith) (λ e. omega arith) (λ e. omega arith) (λ e. omega arith) (λ e. omega arith) (λ e. omega arith) (λ e. omega arith)
only_command (command.Arc o) a t e n l p c y s z = only a t 65 e (λ e. omega arith) (λ e. omega arith) (λ e. omega arith) (λ e. omega arith) (λ e. omega arith) (λ e. omega arith) (λ e. omega arith)
only_command (command.Balance o) a t e n l p c y s z = only a t 68 e (λ e. omega arith) (λ e. omega arith) (λ e. omega arith) (λ e. omega arith) (λ e. omega arith) (λ e. omega arith) (λ e. omega arith)
only_command (command.Classes o) a t e n l p c y s z = only a t 72 e (λ e. omega arith) (λ e. omega arith) (λ e. omega arith) (λ e. omega arith) (λ e. omega arith) (λ e. omega arith) (λ e. omega arith)
only_command (command.Class o) a t e n l p c y s z = only a t 85 e (λ e. omega arith) (λ e. omega arith) (λ e. omega arith) (λ e. omega arith) (λ e. omega arith) (λ e. omega arith) (λ e. omega arith)
only_command (command.Capacity o) a t e n l p c y s z = only a t 86 e (λ e. omega arith) (λ e. omega arith) (λ e. omega arith) (λ e. omega arith) (λ e. omega arith) (λ e. omega arith) (λ e. omega arith)
only_command (command.Kind o) a t e n l p c y s z = only a t 75 e (λ e. omega arith) (λ e. omega arith) (λ e. omega arith) (λ e. omega arith) (λ e. omega arith) (λ e. omega arith) (λ e. omega arith)
only_command (command.JobNumber o) a t e n l p c y s z = only a t 74 e (λ e. omega arith) (λ e. omega arith) (λ e. omega arith) (λ e. omega arith) (λ e. omega arith) (λ e. omega arith) (λ e. omega arith)
only_command (command.Point o) a t e n l p c y s z = only a t 88 e (λ e. omega arith) (λ e. omega arith) (λ e. omega arith) (λ e. omega arith) (λ e. omega arith) (λ e. omega arith) (λ e. omega arith)
only_command (command.Cost o) a t e n l p c y s z = only a t 77 e (λ e. omega arith) (λ e. omega arith) (λ e. omega arith) (λ e. omega arith) (λ e. omega arith) (λ e. omega arith) (λ e. omega arith)
only_command (command.Asked o) a t e n l p c y s z = only a t 81 e (λ e. omega arith) (λ e. omega arith) (λ e. omega arith) (λ e. omega arith) (λ e. omega arith) (λ e. omega arith) (λ e. omega arith)
only_command (command.Improved o) a t e n l p c y s z = only a t 73 e (λ e. omega arith) (λ e. omega arith) (λ e. omega arith) (λ e. omega arith) (λ e. omega arith) (λ e. omega arith) (λ e. omega arith)
only_command (command.Refused o) a t e n l p c y s z = only a t 69 e (λ e. omega arith) (λ e. omega arith) (λ e. omega arith) (λ e. omega arith) (λ e. omega arith) (λ e. omega arith) (λ e. omega arith)

-- a command that no stage takes never comes
pub not_met : (k : Command) (p q : Problem) (f : Fault) → ((t s : Stage) → next s (said k).0 ≡ Some t → ⊥) → Adds p (said k) (Err f) q
not_met k p q f n = λ cs m g a. (let h = staged cs (said k) g in absurd (n h.1 h.0 h.3))

-- the letter Z is that of the end alone
pub end_is : (k : Command) → k ≡ command.End → (said k).0 ≡ 90
end_is k e = ap (λ (c : Command). (said c).0) e

pub not_end : (k : Command) → (k ≡ command.End → ⊥) → (said k).0 ≡ 90 → ⊥
not_end command.End n e = n refl
not_end (command.Dimension o) n e = omega arith
not_end (command.Reach o) n e = omega arith
not_end (command.ListedRow o) n e = omega arith
not_end (command.FlowNodes o) n e = omega arith
not_end (command.GraphNodes o) n e = omega arith
not_end (command.Arc o) n e = omega arith
not_end (command.Balance o) n e = omega arith
not_end (command.Classes o) n e = omega arith
not_end (command.Class o) n e = omega arith
not_end (command.Capacity o) n e = omega arith
not_end (command.Price o) n e = omega arith
not_end (command.Units o) n e = omega arith
not_end (command.Start o) n e = omega arith
not_end (command.Kind o) n e = omega arith
not_end (command.JobNumber o) n e = omega arith
not_end (command.Point o) n e = omega arith
not_end (command.Cost o) n e = omega arith
not_end (command.Asked o) n e = omega arith
not_end (command.Improved o) n e = omega arith
not_end (command.Refused o) n e = omega arith
