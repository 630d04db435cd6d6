-- Price and weight are sums over the coordinates, so that a renumbering does not alter them.
use Rattle.std.proofs.Common.{◌≡◌, ℕ, zero, suc, ◌<◌, ◌≤◌, List, [], ◌∷◌, map, length, get_or, take, set, replicate, ℤ, pos, ◌+ℤ◌, nat_abs, sym, refl, ap, ◌∙◌, ap₂, arith}
use Rattle.std.proofs.lemmas.List.{take_all, length-map, get_or-map}
use Rattle.std.proofs.lemmas.Int.{ints}
use Rattle.std.proofs.lemmas.List.Sums.{sum_by-cons}
use Rattle.rows.specs.Prices.{price, pays, weight}
use Rattle.renumbered.specs.Renumberings.{Renumbers, Moves}
use Rattle.renumbered.proofs.Visits.{visited, visited_length, fresh, visited_all}

abbrev total : List ℤ → ℤ
total [] = pos 0
total (x ∷ xs) = x +ℤ total xs

total_more : (xs : List ℤ) (i : ℕ) → i < length xs → total (take (suc i) xs) ≡ total (take i xs) +ℤ get_or xs i (pos 0)
total_more [] i h = absurd (omega arith)
total_more (x ∷ xs) zero h = omega (arith, ints)
total_more (x ∷ xs) (suc i) h = let more = total_more xs i (omega arith) in omega (arith, ints)

-- a sum over some coordinates is the price of their marks
price_none : (hs : List ℤ) (n : ℕ) → price hs (replicate n 0) ≡ pos 0
price_none [] n = refl
price_none (p ∷ hs) zero = refl
price_none (p ∷ hs) (suc n) = let more = price_none hs n in omega (arith, ints)

price_all : (hs : List ℤ) → price hs (replicate (length hs) 1) ≡ total hs
price_all [] = refl
price_all (p ∷ hs) = ap (λ z. p +ℤ z) (price_all hs)

price_set : (hs : List ℤ) (ss : List ℕ) (k : ℕ) → k < length hs → k < length ss → get_or ss k 0 ≡ 0 →
    price hs (set ss k 1) ≡ price hs ss +ℤ get_or hs k (pos 0)
price_set [] ss k h l e = absurd (omega arith)
price_set (p ∷ hs) [] k h l e = absurd (omega arith)
price_set (p ∷ hs) (s ∷ ss) zero h l e = let z = ap (pays p) e in omega (arith, ints)
price_set (p ∷ hs) (s ∷ ss) (suc k) h l e = let more = price_set hs ss k (omega arith) (omega arith) e in omega (arith, ints)

-- what each coordinate adds to a price
abbrev paid : List ℤ → List ℕ → List ℤ
paid [] xs = []
paid (c ∷ cs) [] = []
paid (c ∷ cs) (x ∷ xs) = pays c x ∷ paid cs xs

paid_length : (ps : List ℤ) (xs : List ℕ) → length xs ≡ length ps → length (paid ps xs) ≡ length ps
paid_length [] xs e = refl
paid_length (c ∷ cs) [] e = absurd (omega arith)
paid_length (c ∷ cs) (x ∷ xs) e = ap suc (paid_length cs xs (omega arith))

paid_at : (ps : List ℤ) (xs : List ℕ) (k : ℕ) (d : ℤ) → k < length ps → k < length xs → get_or (paid ps xs) k d ≡ pays (get_or ps k (pos 0)) (get_or xs k 0)
paid_at [] xs k d h l = absurd (omega arith)
paid_at (c ∷ cs) [] k d h l = absurd (omega arith)
paid_at (c ∷ cs) (x ∷ xs) zero d h l = refl
paid_at (c ∷ cs) (x ∷ xs) (suc k) d h l = paid_at cs xs k d (omega arith) (omega arith)

price_total : (ps : List ℤ) (xs : List ℕ) → price ps xs ≡ total (paid ps xs)
price_total [] xs = refl
price_total (c ∷ cs) [] = refl
price_total (c ∷ cs) (x ∷ xs) = ap (λ z. pays c x +ℤ z) (price_total cs xs)

abbrev size : ℤ → ℤ
size z = pos (nat_abs z)

weight_total : (ps : List ℤ) → pos (weight ps) ≡ total (map size ps)
weight_total [] = refl
weight_total (c ∷ cs) = let more = weight_total cs in omega (arith, ints, sum_by-cons nat_abs c cs)

module _ (n : ℕ) (p : List ℕ) (r : Renumbers n p) where
  module _ (gs hs : List ℤ) (l : length gs ≡ n) (m : Moves p gs hs) where
    along : (i : ℕ) → i ≤ n → price hs (visited n p i) ≡ total (take i gs)
    along zero h = price_none hs n
    along (suc i) h =
        let L = r.0 in
        let H = m.0 in
        let v = (r.1 i (omega arith)).0 in
        let w = visited_length n p i in
        let one = price_set hs (visited n p i) (get_or p i 0) (omega arith) (omega arith) (fresh n p r i i (omega arith) (omega arith)) in
        let more = total_more gs i (omega arith) in
        let rest = along i (omega arith) in
        let same = m.1 i (omega arith) (pos 0) in
        omega (arith, ints)

    moved_total : total gs ≡ total hs
    moved_total =
        let e : n ≡ length hs = sym (m.0 ∙ l) in
        ap total (sym (take_all n gs (omega arith))) ∙ sym (along n (omega arith)) ∙
        ap (price hs) (visited_all n p r ∙ ap (λ (k : ℕ). replicate k 1) e) ∙ price_all hs

  module _ (ps qs : List ℤ) (l : length ps ≡ n) (m : Moves p ps qs) where
    pub moved_price : (xs ys : List ℕ) → length xs ≡ n → Moves p xs ys → price ps xs ≡ price qs ys
    moved_price xs ys k w =
        let L = r.0 in
        let Q = m.0 in
        let Y = w.0 in
        price_total ps xs ∙
        moved_total (paid ps xs) (paid qs ys) (paid_length ps xs (omega arith) ∙ l) (
          paid_length qs ys (omega arith) ∙ Q ∙ sym (paid_length ps xs (omega arith)),
          λ i h d.
              let v = (r.1 i h).0 in
              paid_at qs ys (get_or p i 0) d (omega arith) (omega arith) ∙ ap₂ pays (m.1 i h (pos 0)) (w.1 i h 0) ∙ sym (paid_at ps xs i d (omega arith) (omega arith)),
        ) ∙
        sym (price_total qs ys)

    pub moved_weight : weight ps ≡ weight qs
    moved_weight =
        let L = r.0 in
        let Q = m.0 in
        let same =
        weight_total ps ∙
        moved_total (map size ps) (map size qs) (length-map ps size ∙ l) (
          length-map qs size ∙ Q ∙ sym (length-map ps size),
          λ i h d.
              let v = (r.1 i h).0 in
              get_or-map size qs (get_or p i 0) (pos 0) d (omega arith) ∙ ap size (m.1 i h (pos 0)) ∙ sym (get_or-map size ps i (pos 0) d (omega arith)),
        ) ∙
        sym (weight_total qs) in
        omega (arith, ints)
