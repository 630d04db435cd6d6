-- A question above and the question that it becomes below: the same prices, weights and members.
use Rattle.std.proofs.Common.{◌≡◌, ℕ, ◌≤◌, List, length, get_or, ℤ, ◌≤ℤ◌, ◌<ℤ◌, Ok, Err, sym, refl, ◌∙◌, subst, subst₂, arith}
use Rattle.std.proofs.lemmas.List.{same_lists}
use Rattle.rows.specs.Points.{Marks, Point}
use Rattle.rows.specs.Prices.{price}
use Rattle.rows.specs.Refusals.{Passes, RefusedBy}
use Rattle.rows.specs.declared.refusals.Fault.TheVariants.{NotMember}
use Rattle.rows.specs.declared.refusals.Refusal.{Refusal}
use Rattle.augmenter.specs.Questions.{checks, shared_checks, Better}
use Rattle.augmenter.specs.declared.answers.Answer.{Answer}
use Rattle.augmenter.specs.declared.answers.Answer.TheVariants.{Found, Nothing}
use Rattle.augmenter.proofs.Asking.{not_refused}
use Rattle.renumbered.specs.Renumberings.{Renumbers, Moves, MemberAbove, BroughtBack}
use Rattle.renumbered.proofs.Visits.{entry_of}
use Rattle.renumbered.proofs.Sums.{moved_price, moved_weight}

module _ (n : ℕ) (p : List ℕ) (r : Renumbers n p) where
  -- a row moves to one row only
  pub moved_once : {X : Type 0} (x y z : List X) → length x ≡ n → Moves p x y → Moves p x z → y ≡ z
  moved_once {X} x y z l a b =
      let A = a.0 in
      let L = r.0 in
      same_lists y z (A ∙ sym b.0) (λ k d h.
      let e = entry_of n p r k (omega arith) in
      let j = e.1 in
      let P : ℕ → Type 0 = λ i. get_or y i d ≡ get_or z i d in
      subst P e.2 (a.1 e.0 (omega arith) d ∙ sym (b.1 e.0 (omega arith) d)))

  -- points are moved to points, and come from points
  pub moved_marks : (x y : List ℕ) → length x ≡ n → Moves p x y → Marks x → Marks y
  moved_marks x y l m h k b =
      let L = r.0 in
      let Y = m.0 in
      let e = entry_of n p r k (omega arith) in
      let j = e.1 in
      let P : ℕ → Type 0 = λ i. get_or y i 0 ≤ 1 in
      subst P e.2 (omega (arith, m.1 e.0 (omega arith) 0, h e.0 (omega arith)))

  pub point_from : (x y : List ℕ) → length x ≡ n → Moves p x y → Marks y → Point n x
  point_from x y l m h = (
    l,
    λ i b.
        let L = r.0 in
        let Y = m.0 in
        let v = (r.1 i (omega arith)).0 in
        omega (arith, m.1 i (omega arith) 0, h (get_or p i 0) (omega arith)),
  )

  module _ (M : List ℕ → Type 0) (points : (y : List ℕ) → M y → Point n y) where
    pub above : (x y : List ℕ) → length x ≡ n → Moves p x y → M y → MemberAbove n M p x
    above x y l m h = (r, point_from x y l m (points y h).1, (y, m, h))

    pub from_above : (x y : List ℕ) → length x ≡ n → Moves p x y → MemberAbove n M p x → M y
    from_above x y l m h = subst M (moved_once x h.2.0 y l h.2.1 m) h.2.2

    module _ (R : ℕ) (ps qs : List ℤ) (x y o f : List ℕ) (passed : Passes (shared_checks n R ps x (length o))) (mp : Moves p ps qs) (mx : Moves p x y) where
      price_same : price ps x ≡ price qs y
      price_same = moved_price n p r ps qs passed.0.0 mp x y passed.0.1 mx

      passes_above : M y → Passes (checks n R (MemberAbove n M p) ps x (length o))
      passes_above h = (passed.0, (passed.1.0, (passed.1.1.0, (above x y passed.0.1 mx h, tt))))

      pub put_answered : (a : Answer) (o' f' : List ℕ) → BroughtBack p f' o o' a →
          Better n R M qs y f f' (Ok a) → Better n R (MemberAbove n M p) ps x o o' (Ok a)
      put_answered Found o' f' b h =
          let l : length o' ≡ n = sym b.0 ∙ (points f' h.1.0).0 in
          let same = moved_price n p r ps qs passed.0.0 mp o' f' l b in
          let P : ℤ → ℤ → Type 0 = λ v w. v <ℤ w in
          (passes_above h.0.1.1.1.0, (above o' f' l b h.1.0, subst₂ P (sym same) (sym price_same) h.1.1))
      put_answered Nothing o' f' b h =
          let P : ℤ → ℤ → Type 0 = λ v w. v ≤ℤ w in (
            passes_above h.0.1.1.1.0,
            (
              λ z m.
                  let same = moved_price n p r ps qs passed.0.0 mp z m.2.0 m.1.0 m.2.1 in
                  subst₂ P (sym price_same) (sym same) (h.1.0 m.2.0 m.2.2),
              b,
            ),
          )

      not_above : (e : Refusal) → length f ≡ n → RefusedBy (checks n R M qs y (length f)) e → MemberAbove n M p x → ⊥
      not_above e l h m =
          let X = passed.0.1 in
          let W = moved_weight n p r ps qs passed.0.0 mp in
          not_refused n R M qs y (length f) e ((mp.0 ∙ passed.0.0, mx.0 ∙ X, l), (moved_marks x y X mx passed.1.0, (omega (arith, passed.1.1.0), tt))) (from_above x y X mx m) h

      pub put_refused : (f' : List ℕ) (e e' : Refusal) → length f ≡ n → Better n R M qs y f f' (Err e) → e' ≡ record { fault = NotMember; place = 0 } →
          Better n R (MemberAbove n M p) ps x o o (Err e')
      put_refused f' e e' l h is =
          let W : Refusal → Type 0 = λ z. RefusedBy (checks n R (MemberAbove n M p) ps x (length o)) z in
          (subst W (sym is) (passed.0, (passed.1.0, (passed.1.1.0, (refl, not_above e l h.0)))), refl)
