-- Turning by a row of marks keeps the order of prices and the weight, and turning twice changes nothing.
use Rattle.std.proofs.Common.{◌≡◌, ℕ, zero, suc, ◌+◌, ◌<◌, ◌≤◌, List, [], ◌∷◌, ◌++◌, length, take, replicate, ℤ, pos, negsuc, ◌+ℤ◌, nat_abs, sym, refl, ap, ◌∙◌, subst, ap₂, ⊎_elim, arith}
use lib.Bits.{bit_xor}
use Rattle.std.proofs.lemmas.Simd.{length-zip2, get_or-zip2}
use Rattle.std.proofs.lemmas.List.{get_or-take, get_or_append_left, get_or-append_right, get_or-replicate, length-take}
use Rattle.std.proofs.lemmas.Int.{ints}
use Rattle.std.proofs.lemmas.List.Sums.{sum_by-cons}
use Rattle.std.proofs.lemmas.Bool.{cases_lt}
use Rattle.rows.specs.Points.{Marks, Point}
use Rattle.rows.specs.Prices.{price, pays, weight}
use Rattle.rows.specs.Refusals.{Passes, RefusedBy}
use Rattle.rows.specs.declared.refusals.Refusal.{Refusal}
use Rattle.rows.proofs.Marks.{marks_rest}
use Rattle.augmenter.specs.Questions.{shared_checks, checks, Cheapest, Cheaper, Answered}
use Rattle.augmenter.specs.declared.answers.Answer.{Answer}
use Rattle.augmenter.specs.declared.answers.Answer.TheVariants.{Found, Nothing}
use Rattle.augmenter.proofs.Asking.{shared_at, refused_above}
use Rattle.turned.specs.Turns.{xor, turn, turned_prices, TurnedIn, TurnedBack}

-- a row of marks, followed by zeros
pub padded_marks : (N : ℕ) (s : List ℕ) → Marks s → Marks (take N (s ++ replicate N 0))
padded_marks N s h i l =
    let m : i < N = omega (arith, length-take N (s ++ replicate N 0)) in
    let P : ℕ → Type 0 = λ b. b ≤ 1 in
    subst P (sym (get_or-take N (s ++ replicate N 0) i 0 m))
    (⊎_elim
    (λ (k : i < length s). subst P (sym (get_or_append_left s (replicate N 0) 0 i k)) (h i k))
    (λ (k : length s ≤ i). subst P (sym (get_or-append_right s (replicate N 0) (length s) i 0 refl k ∙ get_or-replicate N _ 0 0 (omega arith))) (omega arith))
    (cases_lt i (length s)))

part_point : (n : ℕ) (s : List ℕ) → length (take n s) ≡ n → Marks s → Point n (take n s)
part_point n s l h =
    let t = length-take n s in
    let P : ℕ → Type 0 = λ b. b ≤ 1 in
    (omega arith, λ i k. subst P (sym (get_or-take n s i 0 (omega arith))) (h i (omega arith)))

mark_xor : (x s : ℕ) → x ≤ 1 → s ≤ 1 → bit_xor x s ≤ 1
mark_xor zero s h k = k
mark_xor (suc zero) zero h k = omega arith
mark_xor (suc zero) (suc zero) h k = omega arith
mark_xor (suc zero) (suc (suc s)) h k = absurd (omega arith)
mark_xor (suc (suc x)) s h k = absurd (omega arith)

mark_twice : (x s : ℕ) → x ≤ 1 → s ≤ 1 → bit_xor (bit_xor x s) s ≡ x
mark_twice zero zero h k = refl
mark_twice zero (suc zero) h k = refl
mark_twice zero (suc (suc s)) h k = absurd (omega arith)
mark_twice (suc zero) zero h k = refl
mark_twice (suc zero) (suc zero) h k = refl
mark_twice (suc zero) (suc (suc s)) h k = absurd (omega arith)
mark_twice (suc (suc x)) s h k = absurd (omega arith)

-- what a coordinate adds falls by its price where it is turned
mark_pays : (p : ℤ) (s x : ℕ) → s ≤ 1 → x ≤ 1 → pays (turn p s) (bit_xor x s) +ℤ pays p s ≡ pays p x
mark_pays p zero zero h k = refl
mark_pays p zero (suc zero) h k = omega (arith, ints)
mark_pays p zero (suc (suc x)) h k = absurd (omega arith)
mark_pays p (suc zero) zero h k = omega (arith, ints)
mark_pays p (suc zero) (suc zero) h k = omega (arith, ints)
mark_pays p (suc zero) (suc (suc x)) h k = absurd (omega arith)
mark_pays p (suc (suc s)) x h k = absurd (omega arith)

nat_abs_turn : (p : ℤ) (s : ℕ) → nat_abs (turn p s) ≡ nat_abs p
nat_abs_turn p zero = refl
nat_abs_turn (pos zero) (suc s) = refl
nat_abs_turn (pos (suc n)) (suc s) = refl
nat_abs_turn (negsuc n) (suc s) = refl

xor_twice : (x s : List ℕ) → length x ≡ length s → Marks x → Marks s → xor (xor x s) s ≡ x
xor_twice [] s e h k = refl
xor_twice (a ∷ x) [] e h k = absurd (omega arith)
xor_twice (a ∷ x) (b ∷ s) e h k = ap₂ ◌∷◌ (mark_twice a b (h 0 (omega arith)) (k 0 (omega arith))) (xor_twice x s (omega arith) (marks_rest a x h) (marks_rest b s k))

xor_point : (n : ℕ) (x s : List ℕ) → Point n x → Point n s → Point n (xor x s)
xor_point n x s p q =
    let l = length-zip2 bit_xor x s (omega arith) in
    (omega arith, λ i h. rw (get_or-zip2 bit_xor x s i 0 0 0 (omega arith) (omega arith)) (mark_xor _ _ (p.1 i (omega arith)) (q.1 i (omega arith))))

price_turned : (ps : List ℤ) (s x : List ℕ) → length ps ≡ length s → length x ≡ length s → Marks s → Marks x →
    price (turned_prices ps s) (xor x s) +ℤ price ps s ≡ price ps x
price_turned [] s x e f h k = refl
price_turned (p ∷ ps) [] x e f h k = absurd (omega arith)
price_turned (p ∷ ps) (b ∷ s) [] e f h k = absurd (omega arith)
price_turned (p ∷ ps) (b ∷ s) (a ∷ x) e f h k =
    let one = mark_pays p b a (h 0 (omega arith)) (k 0 (omega arith)) in
    let more = price_turned ps s x (omega arith) (omega arith) (marks_rest b s h) (marks_rest a x k) in
    omega (arith, ints)

weight_turned : (ps : List ℤ) (s : List ℕ) → length ps ≡ length s → weight (turned_prices ps s) ≡ weight ps
weight_turned [] s e = refl
weight_turned (p ∷ ps) [] e = absurd (omega arith)
weight_turned (p ∷ ps) (b ∷ s) e =
    sum_by-cons nat_abs (turn p b) (turned_prices ps s) ∙ ap₂ ◌+◌ (nat_abs_turn p b) (weight_turned ps s (omega arith)) ∙ sym (sum_by-cons nat_abs p ps)

-- what the layer answers, from what the set below answers: d and r are the dimension and the reach as they were asked for, ps' and x'
-- the prices and the point asked about below
module _ (n R : ℕ) (M : List ℕ → Type 0) (points : (y : List ℕ) → M y → Point n y) (marks : List ℕ) (bits : Marks marks)
    (ps : List ℤ) (x : List ℕ) (m d r : ℕ) (de : d ≡ n) (re : r ≡ R) (long : length (take d marks) ≡ d) (screened : Passes (shared_checks d r ps x m))
    (ps' : List ℤ) (x' : List ℕ) (pe : ps' ≡ turned_prices ps (take d marks)) (xe : x' ≡ xor x (take d marks)) where
  abbrev s : List ℕ
  s = take n marks

  turns : Point n s
  turns = let P : ℕ → Type 0 = λ k. length (take k marks) ≡ k in part_point n marks (subst P de long) bits

  good : Passes (shared_checks n R ps x m)
  good = shared_at n d R r ps x m de re screened

  here : Point n x
  here = (good.0.1, good.1.0)

  prices_are : ps' ≡ turned_prices ps s
  prices_are = pe ∙ ap (λ k. turned_prices ps (take k marks)) de

  point_is : x' ≡ xor x s
  point_is = xe ∙ ap (λ k. xor x (take k marks)) de

  good_below : (k : ℕ) → k ≡ n → Passes (shared_checks n R ps' x' k)
  good_below k e =
      let P : List ℤ → List ℕ → Type 0 = λ qs y. Passes (shared_checks n R qs y k) in
      let l = length-zip2 turn ps s (good.0.0 ∙ sym turns.0) in
      let w = weight_turned ps s (good.0.0 ∙ sym turns.0) in
      let p = xor_point n x s here turns in
      subst (λ qs. P qs x') (sym prices_are) (subst (λ y. P (turned_prices ps s) y) (sym point_is)
      ((l ∙ good.0.0, p.0, e), (p.1, (omega (arith, w, good.1.1.0), tt))))

  pub turned_refused : (k : ℕ) (e : Refusal) → k ≡ n → RefusedBy (checks n R M ps' x' k) e → RefusedBy (checks n R (TurnedIn n M s) ps x m) e
  turned_refused k e h b = refused_above n R n R (TurnedIn n M s) M ps ps' x x' m k e good (good_below k h) (λ t. subst M (sym point_is) t.1) b

  turned_passes : M x' → Passes (checks n R (TurnedIn n M s) ps x m)
  turned_passes h = (good.0, (good.1.0, (good.1.1.0, ((here, subst M point_is h), tt))))

  same_order : (y : List ℕ) → Point n y → price ps' (xor y s) +ℤ price ps s ≡ price ps y
  same_order y p = rw prices_are (price_turned ps s y (good.0.0 ∙ sym turns.0) (p.0 ∙ sym turns.0) turns.1 p.1)

  turned_cheapest : Cheapest M ps' x' → Cheapest (TurnedIn n M s) ps x
  turned_cheapest h y t =
      let a = same_order x here in
      let b = same_order y t.0 in
      let c = rw point_is at (h (xor y s) t.1) in
      omega (arith, ints)

  turned_cheaper : (z o : List ℕ) → o ≡ xor z (take d marks) → Cheaper M ps' x' z → Cheaper (TurnedIn n M s) ps x o
  turned_cheaper z o oe h =
      let p = points z h.0 in
      let q = xor_point n z s p turns in
      let e = xor_twice z s (p.0 ∙ sym turns.0) p.1 turns.1 in
      let a = same_order x here in
      let b = rw e at (same_order (xor z s) q) in
      let c = rw point_is at h.1 in
      let P : List ℕ → Type 0 = λ y. Cheaper (TurnedIn n M s) ps x y in
      subst P (sym (oe ∙ ap (λ k. xor z (take k marks)) de)) ((q, subst M (sym e) h.0), omega (arith, ints))

  pub turned_answered : (f o o' : List ℕ) (a : Answer) → Passes (checks n R M ps' x' (length f)) → (f' : List ℕ) → Answered M ps' x' f f' a →
      TurnedBack (take d marks) f' o o' a → Passes (checks n R (TurnedIn n M s) ps x m) × Answered (TurnedIn n M s) ps x o o' a
  turned_answered f o o' Found p f' b h = (turned_passes p.1.1.1.0, turned_cheaper f' o' h b)
  turned_answered f o o' Nothing p f' b h = (turned_passes p.1.1.1.0, (turned_cheapest b.0, h))
