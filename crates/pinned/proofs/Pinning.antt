-- Penalties at the pins: from a point that keeps every pin, what is cheaper below keeps them too, and is cheaper at the given prices.
use Rattle.std.proofs.Common.{◌≡◌, ℕ, zero, suc, ◌+◌, ◌-◌, ◌*◌, ◌<◌, ◌≤◌, ◌⊎◌, List, [], ◌∷◌, length, take, ℤ, pos, negsuc, ◌+ℤ◌, nat_abs, ◌≤ℤ◌, Ok, Err, Result, sym, refl, ap, ◌∙◌, subst, inl, inr, ⊎_elim, mul-le-mul_right, add-mul, one-mul, mul-one, mul-add, div-mul-le_self, arith}
use Rattle.std.proofs.lemmas.Int.{ints}
use Rattle.std.proofs.lemmas.List.Sums.{sum_by-cons}
use Rattle.std.proofs.lemmas.Bool.{cases_lt, cases_eq}
use Rattle.std.proofs.lemmas.Simd.{length-zip2}
use Rattle.rows.specs.Points.{Marks, Point}
use Rattle.rows.specs.Prices.{price, pays, weight}
use Rattle.rows.specs.Refusals.{Passes}
use Rattle.rows.specs.declared.refusals.Refusal.{Refusal}
use Rattle.rows.proofs.Marks.{marks_rest}
use Rattle.augmenter.specs.Questions.{shared_checks, checks, Cheapest, Cheaper, Better}
use Rattle.augmenter.specs.declared.answers.Answer.{Answer}
use Rattle.augmenter.specs.declared.answers.Answer.TheVariants.{Found, Nothing}
use Rattle.augmenter.proofs.Asking.{shared_at, not_refused}
use Rattle.pinned.specs.Pins.{Keeps, PinnedIn, is_pin, pin_count, reach_over, asked, asked_prices, prices_below}

-- an entry of the row of pins, and a mark
abbrev Keep : ℕ → ℕ → Type 0
Keep f a = f ≤ 1 → a ≡ f

rest : (f a : ℕ) (s x : List ℕ) → Keeps (f ∷ s) (a ∷ x) → Keeps s x
rest f a s x h = λ i l. h (suc i) (omega arith)

join : (f a : ℕ) (s x : List ℕ) → Keep f a → Keeps s x → Keeps (f ∷ s) (a ∷ x)
join f a s x h k zero l = h
join f a s x h k (suc i) l = k i (omega arith)

-- where two marks agree with the pin, its coordinate tells them apart as much as the given price does
one_same : (k : ℕ) (p : ℤ) (f a b : ℕ) → Keep f a → Keep f b → pays (asked k p f) a +ℤ pays p b ≡ pays (asked k p f) b +ℤ pays p a
one_same k p zero a b h g = let e : a ≡ b = h (omega arith) ∙ sym (g (omega arith)) in rw e
one_same k p (suc zero) a b h g = let e : a ≡ b = h (omega arith) ∙ sym (g (omega arith)) in rw e
one_same k p (suc (suc f)) a b h g = omega (arith, ints)

pub all_same : (k : ℕ) (ps : List ℤ) (s x y : List ℕ) → length x ≡ length s → length y ≡ length s → Keeps s x → Keeps s y →
    price (asked_prices k ps s) x +ℤ price ps y ≡ price (asked_prices k ps s) y +ℤ price ps x
all_same k [] s x y e d h g = refl
all_same k (p ∷ ps) [] [] [] e d h g = refl
all_same k (p ∷ ps) [] [] (b ∷ y) e d h g = absurd (omega arith)
all_same k (p ∷ ps) [] (a ∷ x) y e d h g = absurd (omega arith)
all_same k (p ∷ ps) (f ∷ s) [] y e d h g = absurd (omega arith)
all_same k (p ∷ ps) (f ∷ s) (a ∷ x) [] e d h g = absurd (omega arith)
all_same k (p ∷ ps) (f ∷ s) (a ∷ x) (b ∷ y) e d h g =
    let one = one_same k p f a b (h 0 (omega arith)) (g 0 (omega arith)) in
    let more = all_same k ps s x y (omega arith) (omega arith) (rest f a s x h) (rest f b s y g) in
    omega (arith, ints)

-- a mark that agrees is dearer than any other by its price at most
pays_near : (p : ℤ) (a b : ℕ) → pays p a ≤ℤ (pays p b +ℤ pos (nat_abs p))
pays_near p zero zero = omega (arith, ints)
pays_near (pos n) zero (suc b) = omega (arith, ints)
pays_near (negsuc n) zero (suc b) = omega (arith, ints)
pays_near (pos n) (suc a) zero = omega (arith, ints)
pays_near (negsuc n) (suc a) zero = omega (arith, ints)
pays_near p (suc a) (suc b) = omega (arith, ints)

one_near : (k : ℕ) (p : ℤ) (f a b : ℕ) → Keep f a → pays (asked k p f) a ≤ℤ (pays (asked k p f) b +ℤ pos (nat_abs p))
one_near k p zero a zero h = let e = ap (pays (pos k)) (h (omega arith)) in omega (arith, ints)
one_near k p zero a (suc b) h = let e = ap (pays (pos k)) (h (omega arith)) in omega (arith, ints)
one_near k p (suc zero) a zero h = let e = ap (pays (asked k p 1)) (h (omega arith)) in omega (arith, ints)
one_near k p (suc zero) a (suc b) h = let e = ap (pays (asked k p 1)) (h (omega arith)) in omega (arith, ints)
one_near k p (suc (suc f)) a b h = pays_near p a b

all_near : (k : ℕ) (ps : List ℤ) (s x y : List ℕ) → length x ≡ length s → length y ≡ length s → Keeps s x →
    price (asked_prices k ps s) x ≤ℤ (price (asked_prices k ps s) y +ℤ pos (weight ps))
all_near k [] s x y e d h = omega (arith, ints)
all_near k (p ∷ ps) [] x y e d h = omega (arith, ints)
all_near k (p ∷ ps) (f ∷ s) [] y e d h = absurd (omega arith)
all_near k (p ∷ ps) (f ∷ s) (a ∷ x) [] e d h = absurd (omega arith)
all_near k (p ∷ ps) (f ∷ s) (a ∷ x) (b ∷ y) e d h =
    let one = one_near k p f a b (h 0 (omega arith)) in
    let more = all_near k ps s x y (omega arith) (omega arith) (rest f a s x h) in
    let sum = sum_by-cons nat_abs p ps in
    omega (arith, ints)

-- a mark that breaks the pin is dearer by the penalty
one_breaks : (k : ℕ) (p : ℤ) (f a b : ℕ) → b ≤ 1 → Keep f a → f ≤ 1 → (b ≡ f → ⊥) → (pays (asked k p f) a +ℤ pos k) ≤ℤ pays (asked k p f) b
one_breaks k p zero a zero m h l n = absurd (n refl)
one_breaks k p zero a (suc b) m h l n = let e = ap (pays (pos k)) (h l) in omega (arith, ints)
one_breaks k p (suc zero) a zero m h l n = let e = ap (pays (asked k p 1)) (h l) in omega (arith, ints)
one_breaks k p (suc zero) a (suc zero) m h l n = absurd (n refl)
one_breaks k p (suc zero) a (suc (suc b)) m h l n = absurd (omega arith)
one_breaks k p (suc (suc f)) a b m h l n = absurd (omega arith)

one_either : (f b : ℕ) → Keep f b ⊎ ((f ≤ 1) × (b ≡ f → ⊥))
one_either f b =
    ⊎_elim
    (λ (l : 1 < f). inl (λ h. absurd (omega arith)))
    (λ (l : f ≤ 1). ⊎_elim (λ (e : b ≡ f). inl (λ h. e)) (λ (n : b ≡ f → ⊥). inr (l, n)) (cases_eq b f))
    (cases_lt 1 f)

-- a row either keeps every pin or is dearer by the penalty, less the weight
all_either : (k : ℕ) (ps : List ℤ) (s x y : List ℕ) → length ps ≡ length s → length x ≡ length s → length y ≡ length s → Marks y → Keeps s x →
    Keeps s y ⊎ ((price (asked_prices k ps s) x +ℤ pos k) ≤ℤ (price (asked_prices k ps s) y +ℤ pos (weight ps)))
all_either k ps [] x y c e d m h = inl (λ i l. absurd (omega arith))
all_either k [] (f ∷ s) x y c e d m h = absurd (omega arith)
all_either k (p ∷ ps) (f ∷ s) [] y c e d m h = absurd (omega arith)
all_either k (p ∷ ps) (f ∷ s) (a ∷ x) [] c e d m h = absurd (omega arith)
all_either k (p ∷ ps) (f ∷ s) (a ∷ x) (b ∷ y) c e d m h =
    let A = asked_prices k ps s in
    let sum = sum_by-cons nat_abs p ps in
    ⊎_elim
    (λ (g : Keep f b).
    ⊎_elim
    (λ (r : Keeps s y). inl (join f b s y g r))
    (λ (r : (price A x +ℤ pos k) ≤ℤ (price A y +ℤ pos (weight ps))). let one = one_near k p f a b (h 0 (omega arith)) in inr (omega (arith, ints)))
    (all_either k ps s x y (omega arith) (omega arith) (omega arith) (marks_rest b y m) (rest f a s x h)))
    (λ (g : (f ≤ 1) × (b ≡ f → ⊥)).
    let one = one_breaks k p f a b (m 0 (omega arith)) (h 0 (omega arith)) g.0 g.1 in
    let near = all_near k ps s x y (omega arith) (omega arith) (rest f a s x h) in
    inr (omega (arith, ints)))
    (one_either f b)

-- the weight of the question, and that it is within the reach below
one_weight : (k : ℕ) (p : ℤ) (f : ℕ) → nat_abs (asked k p f) ≤ nat_abs p + k * is_pin f
one_weight k p zero = omega (arith, mul-one k)
one_weight zero p (suc zero) = omega arith
one_weight (suc k) p (suc zero) = omega (arith, mul-one (suc k))
one_weight k p (suc (suc f)) = omega arith

weight_asked : (k : ℕ) (ps : List ℤ) (s : List ℕ) → weight (asked_prices k ps s) ≤ weight ps + k * pin_count s
weight_asked k [] s = omega arith
weight_asked k (p ∷ ps) [] = omega arith
weight_asked k (p ∷ ps) (f ∷ s) =
    let a = sum_by-cons nat_abs (asked k p f) (asked_prices k ps s) in
    let b = sum_by-cons nat_abs p ps in
    let c = ap (λ z. k * z) (sum_by-cons is_pin f s) in
    omega (arith, one_weight k p f, weight_asked k ps s, mul-add k (is_pin f) (pin_count s))

pub within : (w f R : ℕ) → 0 < w → w ≤ reach_over R f → w + (w + 1) * f ≤ R
within w f R h l =
    let q = div-mul-le_self (R - f) (f + 1) in
    let r = mul-le-mul_right (f + 1) l in
    omega (arith, mul-add w f 1, mul-one w, add-mul w 1 f, one-mul f)

-- a price is at most the weight
price_light : (ps : List ℤ) (x : List ℕ) → nat_abs (price ps x) ≤ weight ps
price_light [] x = omega arith
price_light (p ∷ ps) [] = omega arith
price_light (p ∷ ps) (zero ∷ x) = let more = price_light ps x in let sum = sum_by-cons nat_abs p ps in omega (arith, ints)
price_light (p ∷ ps) (suc a ∷ x) = let more = price_light ps x in let sum = sum_by-cons nat_abs p ps in omega (arith, ints)

-- what the layer answers, from what the set below answers: d and q are the dimension and the layer's reach as they were asked for, ps' the
-- prices asked about below
module _ (n R : ℕ) (M : List ℕ → Type 0) (points : (y : List ℕ) → M y → Point n y) (pins : List ℕ)
    (ps : List ℤ) (x o : List ℕ) (d q : ℕ) (de : d ≡ n) (qe : q ≡ reach_over R (pin_count (take n pins)))
    (screened : Passes (shared_checks d q ps x (length o))) (member : PinnedIn M (take n pins) x) where
  abbrev s : List ℕ
  s = take n pins

  good : Passes (shared_checks n (reach_over R (pin_count s)) ps x (length o))
  good = shared_at n d (reach_over R (pin_count s)) q ps x (length o) de qe screened

  passes : Passes (checks n (reach_over R (pin_count s)) (PinnedIn M s) ps x (length o))
  passes = (good.0, (good.1.0, (good.1.1.0, (member, tt))))

  -- at prices of 0 nothing is cheaper
  pub pinned_free : weight ps ≡ 0 → Better n (reach_over R (pin_count s)) (PinnedIn M s) ps x o o (Ok Nothing)
  pinned_free e =
      (passes, ((λ y m. let a = price_light ps x in let b = price_light ps y in omega (arith, ints)), refl))

  module _ (heavy : weight ps ≡ 0 → ⊥) (long : length (take d pins) ≡ d) (ps' : List ℤ) (pe : ps' ≡ prices_below ps (take d pins)) where
    long_pins : length s ≡ n
    long_pins = let P : ℕ → Type 0 = λ k. length (take k pins) ≡ k in subst P de long

    prices_are : ps' ≡ prices_below ps s
    prices_are = pe ∙ ap (λ k. prices_below ps (take k pins)) de

    good_below : Passes (shared_checks n R ps' x (length o))
    good_below =
        let P : List ℤ → Type 0 = λ qs. Passes (shared_checks n R qs x (length o)) in
        let l = length-zip2 (asked (weight ps + 1)) ps s (good.0.0 ∙ sym long_pins) in
        let w = weight_asked (weight ps + 1) ps s in
        let f = within (weight ps) (pin_count s) R (omega arith) good.1.1.0 in
        subst P (sym prices_are) ((l ∙ good.0.0, good.0.1, good.0.2), (good.1.0, (omega arith, tt)))

    same_order : (y : List ℕ) → Point n y → Keeps s y → price ps' x +ℤ price ps y ≡ price ps' y +ℤ price ps x
    same_order y p k = rw prices_are (all_same (weight ps + 1) ps s x y (good.0.1 ∙ sym long_pins) (p.0 ∙ sym long_pins) member.1 k)

    keeps_or_dear : (y : List ℕ) → Point n y → Keeps s y ⊎ ((price ps' x +ℤ pos (weight ps + 1)) ≤ℤ (price ps' y +ℤ pos (weight ps)))
    keeps_or_dear y p =
        rw prices_are
        (all_either (weight ps + 1) ps s x y (good.0.0 ∙ sym long_pins) (good.0.1 ∙ sym long_pins) (p.0 ∙ sym long_pins) p.1 member.1)

    pinned_cheaper : (y : List ℕ) → Cheaper M ps' x y → Cheaper (PinnedIn M s) ps x y
    pinned_cheaper y h =
        let p = points y h.0 in
        ⊎_elim
        (λ (k : Keeps s y). let e = same_order y p k in let l = h.1 in ((h.0, k), omega (arith, ints)))
        (λ (k : (price ps' x +ℤ pos (weight ps + 1)) ≤ℤ (price ps' y +ℤ pos (weight ps))). let l = h.1 in absurd (omega (arith, ints)))
        (keeps_or_dear y p)

    pinned_cheapest : Cheapest M ps' x → Cheapest (PinnedIn M s) ps x
    pinned_cheapest h y m =
        let e = same_order y (points y m.0) m.1 in
        let l = h y m.0 in
        omega (arith, ints)

    pub pinned_better : (o' : List ℕ) (r : Result Answer Refusal) → Better n R M ps' x o o' r → Better n (reach_over R (pin_count s)) (PinnedIn M s) ps x o o' r
    pinned_better o' (Ok Found) b = (passes, pinned_cheaper o' b.1)
    pinned_better o' (Ok Nothing) b = (passes, (pinned_cheapest b.1.0, b.1.1))
    pinned_better o' (Err e) b = absurd (not_refused n R M ps' x (length o) e good_below member.0 b.0)
