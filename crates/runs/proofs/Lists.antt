-- Calls tried in turn: what is kept from one to the next, and the promise at the end.
use Rattle.std.proofs.Common.{◌≡◌, ℕ, ◌+◌, ◌^◌, ◌<◌, ◌≤◌, List, [], ◌∷◌, ◌++◌, length, get_or, take, set, ℤ, Ok, Result, sym, refl, ap, subst, arith, length-append}
use Rattle.rows.specs.declared.refusals.Refusal.{Refusal}
use Rattle.std.proofs.lemmas.List.{take_more, take_more_set}
use Rattle.rows.specs.Points.{Point}
use Rattle.rows.specs.Prices.{ones, planes}
use Rattle.rows.proofs.Planes.{ones_below_suc}
use Rattle.job.specs.declared.parts.State.{State}
use Rattle.job.specs.declared.parts.State.TheVariants.{NotBegun, Open, Finished}
use Rattle.job.specs.declared.tries.Call.{Call}
use Rattle.job.specs.declared.tries.Call.TheVariants.{Advance}
use Rattle.job.specs.declared.tries.Outcome.{Outcome}
use Rattle.job.specs.declared.tries.Outcome.TheVariants.{Withdrawn}
use Rattle.job.specs.Views.{View, IsBegun, blank, margin_at}
use Rattle.job.specs.Soundness.{Standing, Sound, Near}
use Rattle.job.specs.Tries.{TriedCall}
use Rattle.job.proofs.Sounds.{blank_sound, member, near}
use Rattle.runs.specs.History.{Turn, turns, present}
use Rattle.runs.specs.Promise.{TurnAfter, Runs, Tried}
use Rattle.runs.proofs.Counts.{Tally, tally, Held, Kept, call_keeps, gains_few}
use Rattle.runs.proofs.Plans.{Each, turn_after, each_more}

turns_push : (cs : List Call) (os : List (Result Outcome Refusal)) (c : Call) (o : Result Outcome Refusal) → length os ≡ length cs →
    turns (cs ++ (c ∷ [])) (os ++ (o ∷ [])) ≡ turns cs os ++ ((c, o) ∷ [])
turns_push [] [] c o e = refl
turns_push [] (p ∷ os) c o e = absurd (omega arith)
turns_push (b ∷ cs) [] c o e = absurd (omega arith)
turns_push (b ∷ cs) (p ∷ os) c o e = ap (λ (z : List Turn). (b, p) ∷ z) (turns_push cs os c o (omega arith))

runs_more : (letter n R : ℕ) (M : List ℕ → Type 0) (v : View) (cs : List Call) (os : List (Result Outcome Refusal)) (u : View) (c : Call) (o : Result Outcome Refusal) (w : View) →
    Runs letter n R M v cs os u → TriedCall letter n R M u c o w → Runs letter n R M v (cs ++ (c ∷ [])) (os ++ (o ∷ [])) w
runs_more letter n R M v [] [] u c o w r s = let P : View → Type 0 = λ z. TriedCall letter n R M z c o w in (w, (subst P (sym r) s, refl))
runs_more letter n R M v [] (p ∷ os) u c o w r s = absurd r
runs_more letter n R M v (b ∷ cs) [] u c o w r s = absurd r
runs_more letter n R M v (b ∷ cs) (p ∷ os) u c o w r s = (r.0, (r.1.0, runs_more letter n R M r.0 cs os u c o w r.1.1 s))

-- after the calls cs with the outcomes os on a job just made, which shows w
pub record Gone (letter n R m : ℕ) (M : List ℕ → Type 0) (cs : List Call) (os : List (Result Outcome Refusal)) (w : View) : Type 0 where
  pub long : length os ≡ length cs
  pub runs : Runs letter n R M (blank m n) cs os w
  pub sound : Sound n R M w
  pub counts : Kept m w (tally (turns cs os))
  pub each : (i : ℕ) → i < length (turns cs os) → TurnAfter letter n m M (take i (turns cs os)) (get_or (turns cs os) i (Advance, Ok Withdrawn))

pub gone_none : (letter n R m : ℕ) (M : List ℕ → Type 0) (v : View) → v ≡ blank m n → Gone letter n R m M [] [] v
gone_none letter n R m M v e =
    let P : View → Type 0 = λ z. Gone letter n R m M [] [] z in
    subst P (sym e) (record {
      long = refl;
      runs = refl;
      sound = blank_sound m n R M;
      counts = record { number = refl; improved = refl; closed = refl; rows = refl; held = (refl, refl); wrote = λ h. refl };
      each = λ i l. absurd (omega arith);
    })

module _ (letter n R m : ℕ) (M : List ℕ → Type 0) (small : n ≤ 128) (low : R < 2 ^ 40) (points : (y : List ℕ) → M y → Point n y) where
  gone_push : (v w : View) (cs : List Call) (os : List (Result Outcome Refusal)) (c : Call) (o : Result Outcome Refusal) → Gone letter n R m M cs os v → TriedCall letter n R M v c o w →
      Gone letter n R m M (cs ++ (c ∷ [])) (os ++ (o ∷ [])) w
  gone_push v w cs os c o g s =
      let h = turns cs os in
      let p = turns_push cs os c o g.long in
      let k = call_keeps letter n R m M small low points v w h c o g.sound g.counts s in
      let t = turn_after letter n R m M small low points v w h c o g.sound g.counts s in
      let C : List Turn → Type 0 = λ z. Kept m w (tally z) in
      let E : List Turn → Type 0 = λ z. Each letter n R m M small low points z in
      record {
        long = omega (arith, length-append os (o ∷ []), length-append cs (c ∷ []), g.long);
        runs = runs_more letter n R M (blank m n) cs os v c o w g.runs s;
        sound = k.0;
        counts = subst C (sym p) k.1;
        each = subst E (sym p) (each_more letter n R m M small low points h (c, o) t g.each);
      }

  -- call i of a list, its outcome put into memory
  pub gone_more : (v w : View) (calls : List Call) (os : List (Result Outcome Refusal)) (i : ℕ) (d : Call) (o : Result Outcome Refusal) → i < length calls → i < length os →
      Gone letter n R m M (take i calls) (take i os) v → TriedCall letter n R M v (get_or calls i d) o w →
      Gone letter n R m M (take (i + 1) calls) (take (i + 1) (set os i o)) w
  gone_more v w calls os i d o h l g s =
      let P : List Call → Type 0 = λ cs. Gone letter n R m M cs (take (i + 1) (set os i o)) w in
      let Q : List (Result Outcome Refusal) → Type 0 = λ z. Gone letter n R m M (take i calls ++ (get_or calls i d ∷ [])) z w in
      subst P (sym (take_more calls i d h)) (subst Q (sym (take_more_set os i o l)) (gone_push v w (take i calls) (take i os) (get_or calls i d) o g s))

  -- what the invariant says at the end
  begun_at : (ps : List ℤ) (t : Tally) (s : State) → Held ps t s → 1 ≤ t.rows → IsBegun s
  begun_at ps t NotBegun p h = absurd (omega arith)
  begun_at ps t (Open k j) p h = tt
  begun_at ps t Finished p h = tt

  rows_at : (ps : List ℤ) (t : Tally) (s : State) → Held ps t s → IsBegun s → (ps ≡ t.row) × (1 ≤ t.rows)
  rows_at ps t NotBegun p b = absurd b
  rows_at ps t (Open k j) p b = (p.2, p.3)
  rows_at ps t Finished p b = (p.1, p.2)

  ends_at : (ps : List ℤ) (x : List ℕ) (t : Tally) (s : State) → Standing R M ps x s → Held ps t s → 1 ≤ t.rows → ones t.row + planes t.row ≤ t.since → s ≡ Finished
  ends_at ps x t NotBegun st p h e = absurd (omega arith)
  ends_at ps x t (Open k j) st p h e =
      let o = ones_below_suc k ps in
      let a : ones ps ≡ ones t.row = ap ones p.2 in
      let b : planes ps ≡ planes t.row = ap planes p.2 in
      absurd (omega arith)
  ends_at ps x t Finished st p h e = refl

  finished_at : (ps : List ℤ) (s : State) → s ≡ Finished → margin_at ps s ≡ 0
  finished_at ps s e = ap (λ (z : State). margin_at ps z) e

  pub promised : (cs : List Call) (os : List (Result Outcome Refusal)) (v : View) → Gone letter n R m M cs os v → Tried letter n R m M cs os v
  promised cs os v g =
      let h = turns cs os in
      let w = g.sound in
      let k = g.counts in
      record {
        long = g.long;
        runs = g.runs;
        sound = w;
        promise = record {
          begun = begun_at v.prices (tally h) v.state k.held;
          not_begun = λ b. (rows_at v.prices (tally h) v.state k.held b).1;
          member = member n R M v w;
          rows = k.rows;
          improved = k.improved;
          closed = k.closed;
          asked = omega (arith, w.asked, k.improved, k.closed);
          few = gains_few R M v.prices v.point (tally h) v.state w.stands k.held;
          ends = ends_at v.prices v.point (tally h) v.state w.stands k.held;
          row = λ b. (rows_at v.prices (tally h) v.state k.held b).0;
          near = λ b.
              let N : List ℤ → Type 0 = λ ps. Near M v (margin_at ps v.state) in
              subst N (rows_at v.prices (tally h) v.state k.held b).0 (near n R M v w b);
          finished = finished_at (present h) v.state;
          each = g.each;
        };
      }

-- a call told at the augmenter of the job then is one at that of the job before
pub call_at : {X : Type 0} (letter : ℕ) (d r : X → ℕ) (M : X → List ℕ → Type 0) (a b : X) (v w : View) (c : Call) (o : Result Outcome Refusal) → a ≡ b →
    TriedCall letter (d a) (r a) (M a) v c o w → TriedCall letter (d b) (r b) (M b) v c o w
call_at {X} letter d r M a b v w c o e s = let P : X → Type 0 = λ z. TriedCall letter (d z) (r z) (M z) v c o w in subst P e s
