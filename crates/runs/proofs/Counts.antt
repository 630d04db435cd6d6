-- The counts of a history, and how each call keeps a job's totals equal to them.
use Rattle.std.proofs.Common.{◌≡◌, ℕ, zero, suc, ◌+◌, ◌^◌, ◌<◌, ◌≤◌, List, [], ◌∷◌, ◌++◌, ℤ, Ok, Err, Result, sym, refl, ap, ◌∙◌, subst, ⊎_elim, arith}
use Rattle.std.proofs.lemmas.List.Sums.{sum_by_push, fold_push}
use Rattle.rows.specs.Points.{Point}
use Rattle.rows.specs.Prices.{weight, ones, planes, bits, ones_below, Under}
use Rattle.rows.specs.declared.refusals.Refusal.{Refusal}
use Rattle.rows.proofs.Planes.{under_planes, top_light, ones_below_suc, ones_below_all}
use Rattle.job.specs.declared.parts.State.{State}
use Rattle.job.specs.declared.parts.State.TheVariants.{NotBegun, Open, Finished}
use Rattle.job.specs.declared.parts.Step.{Step}
use Rattle.job.specs.declared.parts.Step.TheVariants.{Improved, Closed, Done}
use Rattle.job.specs.declared.parts.Ticket.{Ticket}
use Rattle.job.specs.declared.parts.Ticketing.{Ticketing}
use Rattle.job.specs.declared.parts.Ticketing.TheVariants.{Unissued, Out, Written as PlanWritten}
use Rattle.job.specs.declared.tries.Call.{Call}
use Rattle.job.specs.declared.tries.Call.TheVariants.{Begin, Advance, Reprice, Issue, Write, Withdraw}
use Rattle.job.specs.declared.tries.Outcome.{Outcome}
use Rattle.job.specs.declared.tries.Outcome.TheVariants.{Accepted, Advanced as SteppedOn, Issued as Given, Written, Withdrawn}
use Rattle.job.specs.Views.{View, IsOpen, opened, accepted, ticketed}
use Rattle.job.specs.Calls.{Began, AdvancedFrom, Repriced}
use Rattle.job.specs.Soundness.{Standing, Sound}
use Rattle.job.specs.Tickets.{Issued, Valid, Withdrew}
use Rattle.job.specs.Tries.{TriedCall, TriedWrite, row_outcome, step_outcome, issue_outcome, write_outcome}
use Rattle.job.proofs.Sounds.{totals_few, stands_improved, never_refused, begin_keeps, advance_keeps, reprice_sound, issue_sound, write_sound, withdraw_sound, validity}
use Rattle.runs.specs.History.{Turn, row_of, advance, if_accepted, if_advanced, writing, improvements, closings, acceptances, ones_of_rows, present, advances, writings}

-- the counts of a history, together
pub record Tally : Type 0 where
  pub gains : ℕ
  pub ends : ℕ
  pub all_ones : ℕ
  pub rows : ℕ
  pub since : ℕ
  pub row : List ℤ
  pub writes : ℕ

abbrev pub tally : List Turn → Tally
tally h = record {
  gains = improvements h;
  ends = closings h;
  all_ones = ones_of_rows h;
  rows = acceptances h;
  since = advances h;
  row = present h;
  writes = writings h;
}

-- one turn more
abbrev pub turned : Tally → Call → Result Outcome Refusal → Tally
turned t c o = record {
  gains = t.gains + if_advanced 1 0 0 o;
  ends = t.ends + if_advanced 0 1 0 o;
  all_ones = t.all_ones + if_accepted o (ones (row_of c)) 0;
  rows = t.rows + if_accepted o 1 0;
  since = if_accepted o 0 (t.since + advance c);
  row = if_accepted o (row_of c) t.row;
  writes = if_accepted o 0 (t.writes + writing o);
}

same_tally : (a a' b b' c c' d d' e e' : ℕ) (r r' : List ℤ) (f f' : ℕ) → a ≡ a' → b ≡ b' → c ≡ c' → d ≡ d' → e ≡ e' → r ≡ r' → f ≡ f' →
    ◌≡◌ {A = Tally} (record { gains = a; ends = b; all_ones = c; rows = d; since = e; row = r; writes = f }) (record { gains = a'; ends = b'; all_ones = c'; rows = d'; since = e'; row = r'; writes = f' })
same_tally a a' b b' c c' d d' e e' r r' f f' ea eb ec ed ee er ef = cc

pub tally_push : (h : List Turn) (c : Call) (o : Result Outcome Refusal) → tally (h ++ ((c, o) ∷ [])) ≡ turned (tally h) c o
tally_push h c o =
    same_tally _ _ _ _ _ _ _ _ _ _ _ _ _ _
    (sum_by_push (λ (t : Turn). if_advanced 1 0 0 t.1) h (c, o))
    (sum_by_push (λ (t : Turn). if_advanced 0 1 0 t.1) h (c, o))
    (sum_by_push (λ (t : Turn). if_accepted t.1 (ones (row_of t.0)) 0) h (c, o))
    (sum_by_push (λ (t : Turn). if_accepted t.1 1 0) h (c, o))
    (fold_push (λ (i : ℕ) (t : Turn). if_accepted t.1 0 (i + advance t.0)) 0 h (c, o))
    (fold_push (λ (ps : List ℤ) (t : Turn). if_accepted t.1 (row_of t.0) ps) [] h (c, o))
    (fold_push (λ (i : ℕ) (t : Turn). if_accepted t.1 0 (i + writing t.1)) 0 h (c, o))

-- what the counts come to in a state
abbrev pub Held : List ℤ → Tally → State → Type 0
Held ps t NotBegun = (t.gains ≡ 0) × (t.rows ≡ 0)
Held ps t (Open k j) =
    (t.gains + ones_below (suc k) ps ≤ t.all_ones + j) × (t.since + ones_below (suc k) ps + suc k ≤ ones ps + planes ps + j) × (ps ≡ t.row) × (1 ≤ t.rows)
Held ps t Finished = (t.gains ≤ t.all_ones) × (ps ≡ t.row) × (1 ≤ t.rows)

-- a job with the number m shows what was counted
pub record Kept (m : ℕ) (v : View) (t : Tally) : Type 0 where
  pub number : v.number ≡ m
  pub improved : v.totals.improved ≡ t.gains
  pub closed : v.totals.closed ≡ t.ends
  pub rows : v.totals.rows ≡ t.rows
  pub held : Held v.prices t v.state
  pub wrote : (v.ticketing ≡ PlanWritten → ⊥) → t.writes ≡ 0

pub gains_few : (R : ℕ) (M : List ℕ → Type 0) (ps : List ℤ) (x : List ℕ) (t : Tally) (s : State) → Standing R M ps x s → Held ps t s → t.gains ≤ t.all_ones
gains_few R M ps x t NotBegun st p = omega arith
gains_few R M ps x t (Open k j) st p = let e = ones_below_suc k ps in omega arith
gains_few R M ps x t Finished st p = p.0

-- a turn that accepts no row, improves nothing and closes no plane
quiet_held : (ps : List ℤ) (t : Tally) (c : Call) (o : Result Outcome Refusal) (s : State) → (turned t c o).gains ≡ t.gains → (turned t c o).all_ones ≡ t.all_ones →
    (turned t c o).rows ≡ t.rows → (turned t c o).row ≡ t.row → (IsOpen s → (turned t c o).since ≡ t.since) → Held ps t s → Held ps (turned t c o) s
quiet_held ps t c o NotBegun eg eo er ep es p = (omega arith, omega arith)
quiet_held ps t c o (Open k j) eg eo er ep es p = let e = es tt in (omega arith, omega arith, p.2 ∙ sym ep, omega arith)
quiet_held ps t c o Finished eg eo er ep es p = (omega arith, p.1 ∙ sym ep, omega arith)

quiet_kept : (m : ℕ) (a : View) (t : Tally) (c : Call) (o : Result Outcome Refusal) → (turned t c o).gains ≡ t.gains → (turned t c o).ends ≡ t.ends → (turned t c o).all_ones ≡ t.all_ones →
    (turned t c o).rows ≡ t.rows → (turned t c o).row ≡ t.row → (IsOpen a.state → (turned t c o).since ≡ t.since) → (turned t c o).writes ≡ t.writes →
    Kept m a t → Kept m a (turned t c o)
quiet_kept m a t c o eg ee eo er ep es ew k = record {
  number = k.number;
  improved = k.improved ∙ sym eg;
  closed = k.closed ∙ sym ee;
  rows = k.rows ∙ sym er;
  held = quiet_held a.prices t c o a.state eg eo er ep es k.held;
  wrote = λ h. ew ∙ k.wrote h;
}

-- a refusal
refused_kept : (m : ℕ) (a : View) (t : Tally) (c : Call) (e : Refusal) → (IsOpen a.state → advance c ≡ 0) → Kept m a t → Kept m a (turned t c (Err e))
refused_kept m a t c e z k =
    quiet_kept m a t c (Err e) (omega arith) (omega arith) (omega arith) (omega arith) refl (λ h. let y = z h in omega arith) (omega arith) k

-- another state of the ticket
ticketed_kept : (m : ℕ) (a : View) (x : Ticketing) (t : Tally) → Kept m a t → ((x ≡ PlanWritten → ⊥) → t.writes ≡ 0) → Kept m (ticketed a x) t
ticketed_kept m a x t k f = record { number = k.number; improved = k.improved; closed = k.closed; rows = k.rows; held = k.held; wrote = f }

-- a row accepted
held_opened : (ps : List ℤ) (t : Tally) (c : Call) (k : ℕ) → planes ps ≡ k → ps ≡ row_of c → Under (2 ^ k) ps → t.gains ≤ t.all_ones → Held ps (turned t c (Ok Accepted)) (opened k)
held_opened ps t c zero e q u g = (omega arith, q, omega arith)
held_opened ps t c (suc k) e q u g =
    let o = ones_below_all (suc k) ps u in
    let o' : ones ps ≡ ones (row_of c) = ap ones q in
    (omega arith, omega arith, q, omega arith)

-- a plane closed
held_closed : (ps : List ℤ) (t : Tally) (k j : ℕ) → j ≤ bits k ps → Held ps t (Open k j) → Held ps (turned t Advance (Ok (SteppedOn Closed))) (opened k)
held_closed ps t zero j b s = let e = ones_below_suc 0 ps in (omega arith, s.2, omega arith)
held_closed ps t (suc k) j b s = let e = ones_below_suc (suc k) ps in (omega arith, omega arith, s.2, omega arith)

pub not_yet : (ps : List ℤ) (t : Tally) (s : State) → s ≡ NotBegun → Held ps t s → t.rows ≡ 0
not_yet ps t NotBegun e p = p.1
not_yet ps t (Open k j) e p = let z : ◌≡◌ {A = ℕ} 0 1 = cc in omega arith
not_yet ps t Finished e p = let z : ◌≡◌ {A = ℕ} 0 1 = cc in omega arith

module _ (letter n R m : ℕ) (M : List ℕ → Type 0) (small : n ≤ 128) (low : R < 2 ^ 40) (points : (y : List ℕ) → M y → Point n y) where
  accepted_kept : (a : View) (t : Tally) (c : Call) (x : List ℕ) (ps : List ℤ) → Sound n R M a → Kept m a t → a.totals.rows < 1000 →
      ps ≡ row_of c → weight ps ≤ R → Kept m (accepted a x ps) (turned t c (Ok Accepted))
  accepted_kept a t c x ps w k few q light =
      let top = top_light ps in
      let g = gains_few R M a.prices a.point t a.state w.stands k.held in
      record {
        number = k.number;
        improved = omega (arith, k.improved);
        closed = omega (arith, k.closed);
        rows = omega (arith, k.rows);
        held = held_opened ps t c (planes ps) refl q (under_planes ps (omega arith)) g;
        wrote = λ h. refl;
      }

  begin_kept : (a b : View) (t : Tally) (c : Call) (s : List ℕ) (ps : List ℤ) (r : Result (Unit {0}) Refusal) → ps ≡ row_of c → advance c ≡ 0 →
      Began n R M a s ps r b → Sound n R M a → Kept m a t → Kept m b (turned t c (row_outcome r))
  begin_kept a b t c s ps (Ok u) q z g w k =
      let none = not_yet a.prices t a.state g.0.0 k.held in
      let same = k.rows in
      let P : View → Type 0 = λ v. Kept m v (turned t c (Ok Accepted)) in
      subst P (sym g.1) (accepted_kept a t c s ps w k (omega arith) q g.0.1.1.1.0)
  begin_kept a b t c s ps (Err e) q z g w k =
      let P : View → Type 0 = λ v. Kept m v (turned t c (Err e)) in
      subst P (sym g.1) (refused_kept m a t c e (λ h. z) k)

  reprice_kept : (a b : View) (t : Tally) (c : Call) (ps : List ℤ) (r : Result (Unit {0}) Refusal) → ps ≡ row_of c → advance c ≡ 0 →
      Repriced n R a ps r b → Sound n R M a → Kept m a t → Kept m b (turned t c (row_outcome r))
  reprice_kept a b t c ps (Ok u) q z g w k =
      let P : View → Type 0 = λ v. Kept m v (turned t c (Ok Accepted)) in
      subst P (sym g.1) (accepted_kept a t c a.point ps w k g.0.1.0 q g.0.1.1.1.0)
  reprice_kept a b t c ps (Err e) q z g w k =
      let P : View → Type 0 = λ v. Kept m v (turned t c (Err e)) in
      subst P (sym g.1) (refused_kept m a t c e (λ h. z) k)

  not_open : (s s' : State) → s ≡ s' → (IsOpen s' → ⊥) → IsOpen s → ⊥
  not_open s s' e f o = f (subst IsOpen e o)

  advance_kept_from : (a b : View) (t : Tally) (s : State) (r : Result Step Refusal) → a.state ≡ s → AdvancedFrom n R M a s r b → Sound n R M a →
      Standing R M a.prices a.point s → Held a.prices t s → Kept m a t → Kept m b (turned t Advance (step_outcome r))
  advance_kept_from a b t NotBegun (Ok x) es g w st p k = absurd g
  advance_kept_from a b t NotBegun (Err e) es g w st p k =
      let P : View → Type 0 = λ v. Kept m v (turned t Advance (Err e)) in
      subst P (sym g.1) (refused_kept m a t Advance e (λ h. absurd (not_open a.state NotBegun es (λ z. z) h)) k)
  advance_kept_from a b t Finished (Ok Improved) es g w st p k = absurd g
  advance_kept_from a b t Finished (Ok Closed) es g w st p k = absurd g
  advance_kept_from a b t Finished (Ok Done) es g w st p k =
      let P : View → Type 0 = λ v. Kept m v (turned t Advance (Ok (SteppedOn Done))) in
      subst P (sym g)
      (quiet_kept m a t Advance (Ok (SteppedOn Done)) (omega arith) (omega arith) (omega arith) (omega arith) refl (λ h. absurd (not_open a.state Finished es (λ z. z) h)) (omega arith) k)
  advance_kept_from a b t Finished (Err e) es g w st p k = absurd g
  advance_kept_from a b t (Open i j) (Ok Improved) es g w st p k =
      let f = stands_improved n R M a.prices a.point b.point i j small w.prices_long st g.1 in
      let few = totals_few R M a.prices a.point a.totals a.state w.stands w.spent in
      let rows = w.few_rows in
      let P : View → Type 0 = λ v. Kept m v (turned t Advance (Ok (SteppedOn Improved))) in
      subst P (sym g.2)
      (record {
        number = k.number;
        improved = omega (arith, k.improved);
        closed = omega (arith, k.closed);
        rows = omega (arith, k.rows);
        held = (omega arith, omega arith, p.2, omega arith);
        wrote = λ h. let z = k.wrote h in omega arith;
      })
  advance_kept_from a b t (Open i j) (Ok Closed) es g w st p k =
      let few = totals_few R M a.prices a.point a.totals a.state w.stands w.spent in
      let rows = w.few_rows in
      let P : View → Type 0 = λ v. Kept m v (turned t Advance (Ok (SteppedOn Closed))) in
      subst P (sym g.2)
      (record {
        number = k.number;
        improved = omega (arith, k.improved);
        closed = omega (arith, k.closed);
        rows = omega (arith, k.rows);
        held = held_closed a.prices t i j st.3 p;
        wrote = λ h. let z = k.wrote h in omega arith;
      })
  advance_kept_from a b t (Open i j) (Ok Done) es g w st p k = absurd g
  advance_kept_from a b t (Open i j) (Err e) es g w st p k =
      absurd (never_refused n R M small low points a.prices a.point i e w.prices_long st.0 st.1 g.0)

  issue_kept : (a b : View) (t : Tally) (r : Result Ticket Refusal) → Issued a r b → Kept m a t → Kept m b (turned t Issue (issue_outcome r))
  issue_kept a b t (Ok x) g k =
      let P : View → Type 0 = λ v. Kept m v (turned t Issue (Ok (Given x.number x.row))) in
      let q = quiet_kept m a t Issue (Ok (Given x.number x.row)) (omega arith) (omega arith) (omega arith) (omega arith) refl (λ h. omega arith) (omega arith) k in
      subst P (sym g.2) (ticketed_kept m a Out (turned t Issue (Ok (Given x.number x.row))) q (λ h.
      let u = g.0.1.1.0 in
      q.wrote (λ z. let y : ◌≡◌ {A = ℕ} 0 1 = cc in omega arith)))
  issue_kept a b t (Err e) g k =
      let P : View → Type 0 = λ v. Kept m v (turned t Issue (Err e)) in
      subst P (sym g.1) (refused_kept m a t Issue e (λ h. refl) k)

  write_kept : (a b : View) (t : Tally) (i j room : ℕ) (r : Result (List ℕ) Refusal) → TriedWrite letter n a i j room r b → Kept m a t →
      Kept m b (turned t (Write i j room) (write_outcome r))
  write_kept a b t i j room (Ok u) g k =
      let o : Result Outcome Refusal = Ok (Written u) in
      let P : View → Type 0 = λ v. Kept m v (turned t (Write i j room) (Ok (Written u))) in
      subst P (sym g.1) (record {
        number = k.number;
        improved = omega (arith, k.improved);
        closed = omega (arith, k.closed);
        rows = omega (arith, k.rows);
        held = quiet_held a.prices t (Write i j room) (Ok (Written u)) a.state (omega arith) (omega arith) (omega arith) refl (λ h. omega arith) k.held;
        wrote = λ h. absurd (h refl);
      })
  write_kept a b t i j room (Err e) g k =
      let P : View → Type 0 = λ v. Kept m v (turned t (Write i j room) (Err e)) in
      subst P (sym g.1) (refused_kept m a t (Write i j room) e (λ h. refl) k)

  withdraw_kept : (a b : View) (t : Tally) (i j : ℕ) → Withdrew a i j b → Kept m a t → Kept m b (turned t (Withdraw i j) (Ok Withdrawn))
  withdraw_kept a b t i j g k =
      let P : View → Type 0 = λ v. Kept m v (turned t (Withdraw i j) (Ok Withdrawn)) in
      let q = quiet_kept m a t (Withdraw i j) (Ok Withdrawn) (omega arith) (omega arith) (omega arith) (omega arith) refl (λ h. omega arith) (omega arith) k in
      ⊎_elim
      (λ (v : Valid a i j). subst P (sym (g.valid v)) (ticketed_kept m a Unissued (turned t (Withdraw i j) (Ok Withdrawn)) q (λ h.
      let o = v.2 in
      q.wrote (λ z. let y : ◌≡◌ {A = ℕ} 0 1 = cc in omega arith))))
      (λ (v : Valid a i j → ⊥). subst P (sym (g.other v)) q)
      (validity n R M a i j)

  -- one call tried
  pub call_keeps : (a b : View) (h : List Turn) (c : Call) (o : Result Outcome Refusal) → Sound n R M a → Kept m a (tally h) → TriedCall letter n R M a c o b →
      Sound n R M b × Kept m b (tally (h ++ ((c, o) ∷ [])))
  call_keeps a b h c o w k g =
      let both = by_call c g in
      (both.0, subst (Kept m b) (sym (tally_push h c o)) both.1)
    where
      at_outcome : (c : Call) (o o' : Result Outcome Refusal) → o ≡ o' → Kept m b (turned (tally h) c o') → Kept m b (turned (tally h) c o)
      at_outcome c o o' e k = let P : Result Outcome Refusal → Type 0 = λ z. Kept m b (turned (tally h) c z) in subst P (sym e) k

      by_call : (c : Call) → TriedCall letter n R M a c o b → Sound n R M b × Kept m b (turned (tally h) c o)
      by_call (Begin s p) g = (
        (begin_keeps n R M small low points a b s.now p.now g.0 g.1.1 w).sound,
        at_outcome (Begin s p) o _ g.1.0 (begin_kept a b (tally h) (Begin s p) s.now p.now g.0 refl refl g.1.1 w k),
      )
      by_call Advance g = (
        (advance_keeps n R M small low points a b g.0 g.1.1 w).sound,
        at_outcome Advance o _ g.1.0 (advance_kept_from a b (tally h) a.state g.0 refl g.1.1 w w.stands k.held k),
      )
      by_call (Reprice p) g = (
        reprice_sound n R M small low points a b p.now g.0 g.1.1 w,
        at_outcome (Reprice p) o _ g.1.0 (reprice_kept a b (tally h) (Reprice p) p.now g.0 refl refl g.1.1 w k),
      )
      by_call Issue g =
          (issue_sound n R M a b g.0 g.1.1 w, at_outcome Issue o _ g.1.0 (issue_kept a b (tally h) g.0 g.1.1 k))
      by_call (Write i j room) g = (
        write_sound n R M letter a b i j room g.0 g.1.1 w,
        at_outcome (Write i j room) o _ g.1.0 (write_kept a b (tally h) i j room g.0 g.1.1 k),
      )
      by_call (Withdraw i j) g =
          (withdraw_sound n R M a b i j g.1 w, at_outcome (Withdraw i j) o _ g.0 (withdraw_kept a b (tally h) i j g.1 k))
