-- What holds of each turn: a written plan is that of a cheapest member, and a question is never refused.
use Rattle.std.proofs.Common.{◌≡◌, ℕ, ◌^◌, ◌<◌, ◌≤◌, List, [], ◌∷◌, ◌++◌, length, get_or, take, ℤ, Ok, Err, Result, sym, refl, ap, ◌∙◌, subst, inl, inr, arith, length-append}
use Rattle.std.proofs.lemmas.Bool.{cases_lt}
use Rattle.std.proofs.lemmas.List.{get_or_append_left, get_or_push, take-append-le, take_at}
use Rattle.rows.specs.Packed.{packed}
use Rattle.rows.specs.Points.{Point}
use Rattle.rows.specs.Prices.{price}
use Rattle.rows.specs.declared.refusals.Refusal.{Refusal}
use Rattle.augmenter.specs.Questions.{Cheapest}
use Rattle.plans.specs.Bytes.{plan_bytes}
use Rattle.plans.specs.declared.Plan.{Plan}
use Rattle.job.specs.declared.parts.State.{State}
use Rattle.job.specs.declared.parts.State.TheVariants.{NotBegun, Open, Finished}
use Rattle.job.specs.declared.parts.Step.{Step}
use Rattle.job.specs.declared.parts.Ticket.{Ticket}
use Rattle.job.specs.declared.tries.Call.{Call}
use Rattle.job.specs.declared.tries.Call.TheVariants.{Begin, Advance, Reprice, Issue, Write, Withdraw}
use Rattle.job.specs.declared.tries.Outcome.{Outcome}
use Rattle.job.specs.declared.tries.Outcome.TheVariants.{Written, Withdrawn}
use Rattle.job.specs.Views.{View, IsBegun}
use Rattle.job.specs.Calls.{Advanced}
use Rattle.job.specs.Soundness.{Sound}
use Rattle.job.specs.Tries.{TriedCall, TriedWrite, row_outcome, step_outcome, issue_outcome, write_outcome}
use Rattle.job.proofs.Sounds.{advance_keeps, out_finished, member, cheapest}
use Rattle.runs.specs.History.{Turn}
use Rattle.runs.specs.Promise.{PlanAfter, TurnAfter}
use Rattle.runs.proofs.Counts.{Tally, tally, Held, Kept, not_yet}

-- outcomes that are no plan
row_no_plan : (r : Result (Unit {0}) Refusal) (u : List ℕ) → row_outcome r ≡ Ok (Written u) → ⊥
row_no_plan (Ok x) u e = let z : ◌≡◌ {A = ℕ} 0 1 = cc in omega arith
row_no_plan (Err x) u e = let z : ◌≡◌ {A = ℕ} 0 1 = cc in omega arith

step_no_plan : (r : Result Step Refusal) (u : List ℕ) → step_outcome r ≡ Ok (Written u) → ⊥
step_no_plan (Ok x) u e = let z : ◌≡◌ {A = ℕ} 0 1 = cc in omega arith
step_no_plan (Err x) u e = let z : ◌≡◌ {A = ℕ} 0 1 = cc in omega arith

issue_no_plan : (r : Result Ticket Refusal) (u : List ℕ) → issue_outcome r ≡ Ok (Written u) → ⊥
issue_no_plan (Ok x) u e = let z : ◌≡◌ {A = ℕ} 0 1 = cc in omega arith
issue_no_plan (Err x) u e = let z : ◌≡◌ {A = ℕ} 0 1 = cc in omega arith

-- a finished job's prices are the present row
finished_row : (ps : List ℤ) (t : Tally) (s : State) → s ≡ Finished → Held ps t s → ps ≡ t.row
finished_row ps t NotBegun e p = let z : ◌≡◌ {A = ℕ} 0 1 = cc in absurd (omega arith)
finished_row ps t (Open k j) e p = let z : ◌≡◌ {A = ℕ} 0 1 = cc in absurd (omega arith)
finished_row ps t Finished e p = p.1

begun_finished : (s : State) → s ≡ Finished → IsBegun s
begun_finished s e = subst IsBegun (sym e) tt

pub same_plan : (k d m m' : ℕ) (x : List ℕ) (p p' : ℤ) (a a' i i' : ℕ) → m ≡ m' → p ≡ p' → a ≡ a' → i ≡ i' →
    ◌≡◌ {A = Plan}
    (record { kind = k; dimension = d; number = m; point = x; price = p; asked = a; improved = i })
    (record { kind = k; dimension = d; number = m'; point = x; price = p'; asked = a'; improved = i' })
same_plan k d m m' x p p' a a' i i' em ep ea ei = cc

module _ (letter n R m : ℕ) (M : List ℕ → Type 0) (small : n ≤ 128) (low : R < 2 ^ 40) (points : (y : List ℕ) → M y → Point n y) where
  wrote_plan : (a b : View) (h : List Turn) (i j room : ℕ) (r : Result (List ℕ) Refusal) (u : List ℕ) → TriedWrite letter n a i j room r b →
      Sound n R M a → Kept m a (tally h) → write_outcome r ≡ Ok (Written u) → PlanAfter letter n m M h u
  wrote_plan a b h i j room (Ok x) u g w k e =
      let f = out_finished n R M a w g.0.0.2 in
      let q = finished_row a.prices (tally h) a.state f k.held in
      let C : List ℤ → Type 0 = λ ps. Cheapest M ps a.point in
      let ux : u ≡ x = cc in
      let o = g.0.0.2 in
      record {
        point = a.point;
        member = member n R M a w (begun_finished a.state f);
        cheapest = subst C q (cheapest n R M a w f);
        first = k.wrote (λ z. let y : ◌≡◌ {A = ℕ} 0 1 = cc in omega arith);
        bytes = ux ∙ g.2 ∙ ap plan_bytes
            (same_plan letter n _ _ (packed a.point) _ _ _ _ _ _ k.number (ap (λ (ps : List ℤ). price ps a.point) q) (omega (arith, w.asked, k.improved, k.closed)) k.improved);
      }
  wrote_plan a b h i j room (Err x) u g w k e = let z : ◌≡◌ {A = ℕ} 0 1 = cc in absurd (omega arith)

  -- the turn of a call that was tried
  pub turn_after : (a b : View) (h : List Turn) (c : Call) (o : Result Outcome Refusal) → Sound n R M a → Kept m a (tally h) → TriedCall letter n R M a c o b →
      TurnAfter letter n m M h (c, o)
  turn_after a b h (Begin s p) o w k g = record {
    plan = λ u e. absurd (row_no_plan g.0 u (sym g.1.0 ∙ e));
    answered = λ e x y. let z : ◌≡◌ {A = ℕ} 0 1 = cc in absurd (omega arith);
  }
  turn_after a b h Advance o w k g = record {
    plan = λ u e. absurd (step_no_plan g.0 u (sym g.1.0 ∙ e));
    answered = λ e x y. not_yet a.prices (tally h) a.state (refused_first g.0 e (sym g.1.0 ∙ y) g.1.1) k.held;
  }
    where
      refused_first : (r : Result Step Refusal) (e : Refusal) → step_outcome r ≡ Err e → Advanced n R M a r b → a.state ≡ NotBegun
      refused_first (Ok s) e x q = let z : ◌≡◌ {A = ℕ} 0 1 = cc in absurd (omega arith)
      refused_first (Err f) e x q = (advance_keeps n R M small low points a b (Err f) q w).refused f refl
  turn_after a b h (Reprice p) o w k g = record {
    plan = λ u e. absurd (row_no_plan g.0 u (sym g.1.0 ∙ e));
    answered = λ e x y. let z : ◌≡◌ {A = ℕ} 0 1 = cc in absurd (omega arith);
  }
  turn_after a b h Issue o w k g = record {
    plan = λ u e. absurd (issue_no_plan g.0 u (sym g.1.0 ∙ e));
    answered = λ e x y. let z : ◌≡◌ {A = ℕ} 0 1 = cc in absurd (omega arith);
  }
  turn_after a b h (Write i j room) o w k g = record {
    plan = λ u e. wrote_plan a b h i j room g.0 u g.1.1 w k (sym g.1.0 ∙ e);
    answered = λ e x y. let z : ◌≡◌ {A = ℕ} 0 1 = cc in absurd (omega arith);
  }
  turn_after a b h (Withdraw i j) o w k g = record {
    plan = λ u e. let f = g.0 in let z : ◌≡◌ {A = ℕ} 0 1 = cc in absurd (omega arith);
    answered = λ e x y. let z : ◌≡◌ {A = ℕ} 0 1 = cc in absurd (omega arith);
  }

  abbrev pub Each : List Turn → Type 0
  Each h = (i : ℕ) → i < length h → TurnAfter letter n m M (take i h) (get_or h i (Advance, Ok Withdrawn))

  pub each_more : (h : List Turn) (t : Turn) → TurnAfter letter n m M h t → Each h → Each (h ++ (t ∷ []))
  each_more h t g q i l =
      let D : Turn = (Advance, Ok Withdrawn) in
      let P : List Turn → Turn → Type 0 = λ z y. TurnAfter letter n m M z y in
      elim (cases_lt i (length h)) [
        | inl lt ↦
            subst (λ (z : List Turn). P z (get_or (h ++ (t ∷ [])) i D)) (sym (take-append-le i h (t ∷ []) (omega arith)))
            (subst (λ (y : Turn). P (take i h) y) (sym (get_or_append_left h (t ∷ []) D i lt)) (q i lt))
        | inr ge ↦
            let e : length h ≡ i = omega (arith, length-append h (t ∷ [])) in
            subst (λ (z : List Turn). P z (get_or (h ++ (t ∷ [])) i D)) (sym (take_at h (t ∷ []) i e))
            (subst (λ (y : Turn). P h y) (sym (get_or_push h t D i e)) g)
      ]
