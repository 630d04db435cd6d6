-- Soundness: a job just made has it, begin and advance keep it, and what it gives.
use Rattle.std.proofs.Common.{◌≡◌, ℕ, zero, suc, ◌+◌, ◌*◌, ◌^◌, ◌<◌, ◌≤◌, ◌⊎◌, List, length, ℤ, pos, ◌+ℤ◌, ◌≤ℤ◌, Ok, Err, Result, sym, refl, ap, ◌∙◌, subst, inl, inr, ⊎_elim, arith}
use Rattle.std.proofs.lemmas.List.{length-replicate}
use Rattle.std.proofs.lemmas.Int.{ints}
use Rattle.std.proofs.lemmas.Bool.{cases_eq}
use Rattle.rows.specs.Points.{Point}
use Rattle.rows.specs.Prices.{price, weight, ones, planes, row_at, bits, Under}
use Rattle.rows.specs.Refusals.{RefusedBy}
use Rattle.rows.specs.declared.refusals.Refusal.{Refusal}
use Rattle.rows.proofs.Planes.{next_plane, full_prices, at_zero, zeros_above, under_planes, under_largest, top_light, weight_at, length_at, few_planes, few_ones, bits_few, ones_below_suc, ones_below_all, ones_below_zero, remainders_suc}
use Rattle.augmenter.specs.Questions.{checks, Cheapest, Cheaper}
use Rattle.augmenter.proofs.Asking.{not_refused}
use Rattle.job.specs.declared.parts.State.{State}
use Rattle.job.specs.declared.parts.State.TheVariants.{NotBegun, Open, Finished}
use Rattle.job.specs.declared.parts.Step.{Step}
use Rattle.job.specs.declared.parts.Step.TheVariants.{Improved, Closed, Done}
use Rattle.job.specs.declared.parts.Totals.{Totals}
use Rattle.job.specs.declared.parts.Ticket.{Ticket}
use Rattle.job.specs.declared.parts.Ticketing.{Ticketing}
use Rattle.job.specs.declared.parts.Ticketing.TheVariants.{Unissued, Out, Written}
use Rattle.job.specs.Views.{View, IsBegun, IsOpen, more, blank, opened, accepted, ticketed, margin_at, left_at}
use Rattle.job.specs.Calls.{Began, Advanced, AdvancedFrom, Repriced}
use Rattle.job.specs.Tickets.{Issued, Valid, Withdrew}
use Rattle.job.specs.Tries.{TriedWrite}
use Rattle.job.specs.Soundness.{Standing, Spent, Sound, left, BeginKeeps, AdvanceKeeps, Near}

clash : {P : Type 0} {s : State} {k j : ℕ} → s ≡ Open k j → s ≡ Finished → P
clash e f = let z : ◌≡◌ {A = ℕ} 0 1 = cc in absurd (omega arith)

-- the point of a begun job is a member
begun_member : (R : ℕ) (M : List ℕ → Type 0) (ps : List ℤ) (x : List ℕ) (s : State) → Standing R M ps x s → IsBegun s → M x
begun_member R M ps x NotBegun s b = absurd b
begun_member R M ps x (Open k j) s b = s.0
begun_member R M ps x Finished s b = s.0

-- a job just made
pub blank_sound : (m n R : ℕ) (M : List ℕ → Type 0) → Sound n R M (blank m n)
blank_sound m n R M = record {
  point_long = length-replicate n 0;
  prices_long = length-replicate n (pos 0);
  stands = tt;
  few_rows = omega arith;
  asked = refl;
  spent = (refl, refl, refl);
  ticket = λ h. absurd (h refl);
}

-- the totals bound the questions of all rows so far, whatever the state
pub totals_few : (R : ℕ) (M : List ℕ → Type 0) (ps : List ℤ) (x : List ℕ) (t : Totals) (s : State) → Standing R M ps x s → Spent ps t s →
    (t.improved ≤ t.rows * 5120) × (t.closed ≤ t.rows * 40)
totals_few R M ps x t NotBegun st sp = (omega arith, omega arith)
totals_few R M ps x t (Open k j) st sp = let e = ones_below_suc k ps in (omega arith, omega arith)
totals_few R M ps x t Finished st sp = (sp.0, sp.1)

-- a row accepted: how the point stands, what is spent, and the bound on the questions to come
stands_opened : (R : ℕ) (M : List ℕ → Type 0) (ps : List ℤ) (x : List ℕ) (m : ℕ) → R < 2 ^ 40 → planes ps ≡ m → M x → weight ps ≤ R → Standing R M ps x (opened m)
stands_opened R M ps x zero low e mx w =
    let u = under_planes ps (omega (arith, top_light ps)) in
    let u0 : Under (2 ^ 0) ps = subst (λ (z : ℕ). Under (2 ^ z) ps) e u in (
      mx,
      w,
      λ y my.
          let zx : price ps x ≡ pos 0 = rw at_zero at (zeros_above 0 ps x u0) in
          let zy : price ps y ≡ pos 0 = rw at_zero at (zeros_above 0 ps y u0) in
          omega (arith, ints),
    )
stands_opened R M ps x (suc k) low e mx w =
    let u = under_planes ps (omega (arith, top_light ps)) in
    let u1 : Under (2 ^ suc k) ps = subst (λ (z : ℕ). Under (2 ^ z) ps) e u in (
      mx,
      w,
      omega arith,
      omega arith,
      λ y my.
          let one = next_plane k ps x y in
          let zx = zeros_above (suc k) ps x u1 in
          let zy = zeros_above (suc k) ps y u1 in
          omega (arith, ints),
    )

spent_opened : (ps : List ℤ) (t : Totals) (m r : ℕ) → m ≤ 40 → Under (2 ^ m) ps → ones ps ≤ 5120 → r ≡ t.rows + 1 →
    t.improved ≤ t.rows * 5120 → t.closed ≤ t.rows * 40 →
    Spent ps (record { asked = t.asked; improved = t.improved; closed = t.closed; rows = r }) (opened m)
spent_opened ps t zero r f u o e g h = (omega arith, omega arith)
spent_opened ps t (suc k) r f u o e g h = let q = ones_below_all (suc k) ps u in (omega arith, omega arith)

left_opened : (ps : List ℤ) (m : ℕ) → planes ps ≡ m → Under (2 ^ m) ps → left_at ps (opened m) ≡ ones ps + planes ps
left_opened ps zero e u = let q = ones_below_all 0 ps u in let z = ones_below_zero ps in omega arith
left_opened ps (suc k) e u = let q = ones_below_all (suc k) ps u in omega arith

-- a plane closed
stands_closed : (R : ℕ) (M : List ℕ → Type 0) (ps : List ℤ) (x : List ℕ) (k j : ℕ) → Standing R M ps x (Open k j) → Cheapest M (row_at k ps) x → Standing R M ps x (opened k)
stands_closed R M ps x zero j s h = (s.0, s.1, λ y my. rw at_zero at (h y my))
stands_closed R M ps x (suc k) j s h = (
  s.0,
  s.1,
  omega arith,
  omega arith,
  λ y my.
      let one = next_plane k ps x y in
      let g = h y my in
      omega (arith, ints),
)

spent_closed : (ps : List ℤ) (t : Totals) (k j a c : ℕ) → j ≤ bits k ps → c ≡ t.closed + 1 → Spent ps t (Open k j) →
    Spent ps (record { asked = a; improved = t.improved; closed = c; rows = t.rows }) (opened k)
spent_closed ps t zero j a c b e s = let q = ones_below_suc 0 ps in (omega arith, omega arith)
spent_closed ps t (suc k) j a c b e s = let q = ones_below_suc (suc k) ps in (omega arith, omega arith)

closed_falls : (ps : List ℤ) (k j : ℕ) → j ≤ bits k ps → left_at ps (opened k) < left_at ps (Open k j)
closed_falls ps zero j b = let e = ones_below_suc 0 ps in omega arith
closed_falls ps (suc k) j b = let e = ones_below_suc (suc k) ps in omega arith

-- a point improved
pub stands_improved : (n R : ℕ) (M : List ℕ → Type 0) (ps : List ℤ) (x o : List ℕ) (k j : ℕ) → n ≤ 128 → length ps ≡ n → Standing R M ps x (Open k j) →
    Cheaper M (row_at k ps) x o → (more j ≡ j + 1) × (j < bits k ps) × Standing R M ps o (Open k (more j))
stands_improved n R M ps x o k j small len s h =
    let here = s.4 o h.0 in
    let cheaper = h.1 in
    let lt : j < bits k ps = omega (arith, ints) in
    let b = bits_few k ps in
    let e : more j ≡ j + 1 = omega arith in (
      e,
      lt,
      (
        h.0,
        s.1,
        s.2,
        omega arith,
        λ y my.
            let g = s.4 y my in
            omega (arith, ints),
      ),
    )

module _ (n R : ℕ) (M : List ℕ → Type 0) (small : n ≤ 128) (low : R < 2 ^ 40) (points : (y : List ℕ) → M y → Point n y) where
  -- a sound job's question is never refused
  pub never_refused : (ps : List ℤ) (x : List ℕ) (k : ℕ) (e : Refusal) → length ps ≡ n → M x → weight ps ≤ R → RefusedBy (checks n R M (row_at k ps) x n) e → ⊥
  never_refused ps x k e l m w r =
      let light : weight (row_at k ps) ≤ R = omega (arith, weight_at k ps) in
      not_refused n R M (row_at k ps) x n e ((length_at k ps ∙ l, (points x m).0, refl), ((points x m).1, (light, tt))) m r

  -- a row accepted
  pub accepted_sound : (a : View) (x : List ℕ) (ps : List ℤ) → Sound n R M a → a.totals.rows < 1000 → M x → length ps ≡ n → weight ps ≤ R →
      Sound n R M (accepted a x ps) × (left (accepted a x ps) ≡ ones ps + planes ps)
  accepted_sound a x ps w few m l light =
      let t = top_light ps in
      let u = under_planes ps (omega arith) in
      let f = totals_few R M a.prices a.point a.totals a.state w.stands w.spent in
      let o = few_ones ps (under_largest ps 0 (2 ^ 40) (omega arith)) in
      let more_rows : more a.totals.rows ≡ a.totals.rows + 1 = omega arith in (
        record {
          point_long = (points x m).0;
          prices_long = l;
          stands = stands_opened R M ps x (planes ps) low refl m light;
          few_rows = omega arith;
          asked = w.asked;
          spent = spent_opened ps a.totals (planes ps) (more a.totals.rows) (few_planes ps (omega arith)) u (omega arith) more_rows f.0 f.1;
          ticket = λ h. absurd (h refl);
        },
        left_opened ps (planes ps) refl u,
      )

  not_yet : (ps : List ℤ) (t : Totals) (s : State) → s ≡ NotBegun → Spent ps t s → t.rows ≡ 0
  not_yet ps t NotBegun e p = p.2
  not_yet ps t (Open k j) e p = let z : ◌≡◌ {A = ℕ} 0 1 = cc in omega arith
  not_yet ps t Finished e p = let z : ◌≡◌ {A = ℕ} 0 1 = cc in omega arith

  pub begin_keeps : (a b : View) (s : List ℕ) (ps : List ℤ) (r : Result (Unit {0}) Refusal) → Began n R M a s ps r b → Sound n R M a → BeginKeeps n R M ps r b
  begin_keeps a b s ps (Ok u) g w =
      let p = g.0 in
      let none = not_yet a.prices a.totals a.state p.0 w.spent in
      let k = accepted_sound a s ps w (omega arith) p.1.1.1.1.0 p.1.0.0 p.1.1.1.0 in
      record { sound = subst (Sound n R M) (sym g.1) k.0; bound = λ h. ap left g.1 ∙ k.1 }
  begin_keeps a b s ps (Err e) g w =
      record { sound = subst (Sound n R M) (sym g.1) w; bound = λ h. let z : ◌≡◌ {A = ℕ} 0 1 = cc in absurd (omega arith) }

  -- advance, by the state before it
  advance_from : (a b : View) (s : State) (r : Result Step Refusal) → a.state ≡ s → AdvancedFrom n R M a s r b → Sound n R M a →
      Standing R M a.prices a.point s → Spent a.prices a.totals s →
      Sound n R M b × ((e : Refusal) → r ≡ Err e → s ≡ NotBegun) × (IsOpen s → left b < left_at a.prices s)
  advance_from a b NotBegun (Ok t) es g w st sp = absurd g
  advance_from a b NotBegun (Err e) es g w st sp = (subst (Sound n R M) (sym g.1) w, (λ f h. refl), λ h. absurd h)
  advance_from a b Finished (Ok Improved) es g w st sp = absurd g
  advance_from a b Finished (Ok Closed) es g w st sp = absurd g
  advance_from a b Finished (Ok Done) es g w st sp = (subst (Sound n R M) (sym g) w, (λ f h. let z : ◌≡◌ {A = ℕ} 0 1 = cc in absurd (omega arith)), λ h. absurd h)
  advance_from a b Finished (Err e) es g w st sp = absurd g
  advance_from a b (Open k j) (Ok Improved) es g w st sp =
      let f = stands_improved n R M a.prices a.point b.point k j small w.prices_long st g.1 in
      let t = totals_few R M a.prices a.point a.totals (Open k j) st sp in
      let o = ones_below_suc k a.prices in
      let rows = w.few_rows in
      let all = w.asked in
      let q : left b ≡ left_at a.prices (Open k (more j)) = ap left g.2 in (
        subst (Sound n R M) (sym g.2) (record {
          point_long = (points b.point f.2.0).0;
          prices_long = w.prices_long;
          stands = f.2;
          few_rows = rows;
          asked = omega arith;
          spent = (omega arith, omega arith);
          ticket = λ h. clash es (w.ticket h);
        }),
        (λ e h. let z : ◌≡◌ {A = ℕ} 0 1 = cc in absurd (omega arith)),
        λ h. omega arith,
      )
  advance_from a b (Open k j) (Ok Closed) es g w st sp =
      let t = totals_few R M a.prices a.point a.totals (Open k j) st sp in
      let rows = w.few_rows in
      let all = w.asked in
      let q : left b ≡ left_at a.prices (opened k) = ap left g.2 in
      let c = closed_falls a.prices k j st.3 in
      let one : more a.totals.closed ≡ a.totals.closed + 1 = omega arith in (
        subst (Sound n R M) (sym g.2) (record {
          point_long = w.point_long;
          prices_long = w.prices_long;
          stands = stands_closed R M a.prices a.point k j st g.1;
          few_rows = rows;
          asked = omega arith;
          spent = spent_closed a.prices a.totals k j (more a.totals.asked) (more a.totals.closed) st.3 one sp;
          ticket = λ h. clash es (w.ticket h);
        }),
        (λ e h. let z : ◌≡◌ {A = ℕ} 0 1 = cc in absurd (omega arith)),
        λ h. omega arith,
      )
  advance_from a b (Open k j) (Ok Done) es g w st sp = absurd g
  advance_from a b (Open k j) (Err e) es g w st sp = absurd (never_refused a.prices a.point k e w.prices_long st.0 st.1 g.0)

  pub advance_keeps : (a b : View) (r : Result Step Refusal) → Advanced n R M a r b → Sound n R M a → AdvanceKeeps n R M a r b
  advance_keeps a b r g w =
      let k = advance_from a b a.state r refl g w w.stands w.spent in
      record { sound = k.0; refused = k.1; falls = k.2 }

  -- a row taken by reprice
  pub reprice_sound : (a b : View) (ps : List ℤ) (r : Result (Unit {0}) Refusal) → Repriced n R a ps r b → Sound n R M a → Sound n R M b
  reprice_sound a b ps (Ok u) g w =
      let p = g.0 in
      subst (Sound n R M) (sym g.1)
      (accepted_sound a a.point ps w p.1.0 (begun_member R M a.prices a.point a.state w.stands p.0) p.1.1.0 p.1.1.1.0).0
  reprice_sound a b ps (Err e) g w = subst (Sound n R M) (sym g.1) w

-- the calls on tickets
module _ (n R : ℕ) (M : List ℕ → Type 0) where
  ticketed_sound : (a : View) (t : Ticketing) → Sound n R M a → ((t ≡ Unissued → ⊥) → a.state ≡ Finished) → Sound n R M (ticketed a t)
  ticketed_sound a t w f = record {
    point_long = w.point_long;
    prices_long = w.prices_long;
    stands = w.stands;
    few_rows = w.few_rows;
    asked = w.asked;
    spent = w.spent;
    ticket = f;
  }

  pub issue_sound : (a b : View) (r : Result Ticket Refusal) → Issued a r b → Sound n R M a → Sound n R M b
  issue_sound a b (Ok t) g w = subst (Sound n R M) (sym g.2) (ticketed_sound a Out w (λ h. g.0.1.0))
  issue_sound a b (Err e) g w = subst (Sound n R M) (sym g.1) w

  -- a ticket is out only in a finished job
  pub out_finished : (a : View) → Sound n R M a → a.ticketing ≡ Out → a.state ≡ Finished
  out_finished a w e = w.ticket (λ h. let z : ◌≡◌ {A = ℕ} 0 1 = cc in omega arith)

  pub write_sound : (letter : ℕ) (a b : View) (m k room : ℕ) (r : Result (List ℕ) Refusal) → TriedWrite letter n a m k room r b → Sound n R M a → Sound n R M b
  write_sound letter a b m k room (Ok u) g w = subst (Sound n R M) (sym g.1) (ticketed_sound a Written w (λ h. out_finished a w g.0.0.2))
  write_sound letter a b m k room (Err e) g w = subst (Sound n R M) (sym g.1) w

  -- a ticket is valid or it is not
  pub validity : (a : View) (m k : ℕ) → Valid a m k ⊎ (Valid a m k → ⊥)
  validity a m k =
      ⊎_elim
      (λ (e : m ≡ a.number).
      ⊎_elim
      (λ (f : k ≡ a.totals.rows). by_ticketing a.ticketing refl e f)
      (λ (f : k ≡ a.totals.rows → ⊥). inr (λ (v : Valid a m k). f v.1))
      (cases_eq k a.totals.rows))
      (λ (e : m ≡ a.number → ⊥). inr (λ (v : Valid a m k). e v.0))
      (cases_eq m a.number)
    where
      by_ticketing : (t : Ticketing) → a.ticketing ≡ t → m ≡ a.number → k ≡ a.totals.rows → Valid a m k ⊎ (Valid a m k → ⊥)
      by_ticketing Unissued h e f = inr (λ (v : Valid a m k). let o = v.2 in let z : ◌≡◌ {A = ℕ} 0 1 = cc in omega arith)
      by_ticketing Out h e f = inl (e, f, h)
      by_ticketing Written h e f = inr (λ (v : Valid a m k). let o = v.2 in let z : ◌≡◌ {A = ℕ} 0 1 = cc in omega arith)

  pub withdraw_sound : (a b : View) (m k : ℕ) → Withdrew a m k b → Sound n R M a → Sound n R M b
  withdraw_sound a b m k g w =
      ⊎_elim
      (λ (v : Valid a m k). subst (Sound n R M) (sym (g.valid v)) (ticketed_sound a Unissued w (λ h. absurd (h refl))))
      (λ (v : Valid a m k → ⊥). subst (Sound n R M) (sym (g.other v)) w)
      (validity a m k)

-- what soundness gives: the point is a member, and no member is cheaper by more than the margin
module _ (n R : ℕ) (M : List ℕ → Type 0) (v : View) (w : Sound n R M v) where
  pub member : IsBegun v.state → M v.point
  member b = begun_member R M v.prices v.point v.state w.stands b

  near_at : (ps : List ℤ) (x : List ℕ) (s : State) → Standing R M ps x s → IsBegun s → (y : List ℕ) → M y → price ps x ≤ℤ (price ps y +ℤ pos (margin_at ps s))
  near_at ps x NotBegun s b y my = absurd b
  near_at ps x (Open k j) s b y my =
      let h = full_prices k ps x y j (bits k ps) (s.4 y my) in
      let e = remainders_suc k ps in
      omega (arith, ints)
  near_at ps x Finished s b y my = let h = s.2 y my in omega (arith, ints)

  pub near : IsBegun v.state → Near M v (margin_at v.prices v.state)
  near b y my = near_at v.prices v.point v.state w.stands b y my

  cheapest_at : (ps : List ℤ) (x : List ℕ) (s : State) → Standing R M ps x s → s ≡ Finished → Cheapest M ps x
  cheapest_at ps x NotBegun s e = let z : ◌≡◌ {A = ℕ} 0 1 = cc in absurd (omega arith)
  cheapest_at ps x (Open k j) s e = let z : ◌≡◌ {A = ℕ} 0 1 = cc in absurd (omega arith)
  cheapest_at ps x Finished s e = s.2

  pub cheapest : v.state ≡ Finished → Cheapest M v.prices v.point
  cheapest e = cheapest_at v.prices v.point v.state w.stands e
