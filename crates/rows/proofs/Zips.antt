-- Loops that write a function of a row, coordinate by coordinate, in its place, or of two rows into a third.
use Rattle.std.proofs.Common.{◌≡◌, ℕ, ◌+◌, ◌<◌, ◌≤◌, List, ◌++◌, length, get_or, take, drop, set, append_assoc, map, [], ◌∷◌, sym, ap, ap₂, ◌∙◌, arith}
use lib.Lanes.{zip2}
use Rattle.std.proofs.lemmas.List.{drop_more, drop_all, take_more_set, take_all, append-nil, map_more, drop-set-lt}

module _ {X Y Z : Type 0} (f : X → Y → Z) where
  -- one coordinate more, and all of them
  pub zip2_more : (zs : List Z) (xs : List X) (ys : List Y) (i : ℕ) (d : X) (e : Y) → i < length zs → i < length xs → i < length ys →
      take (i + 1) (set zs i (f (get_or xs i d) (get_or ys i e))) ++ zip2 f (drop (i + 1) xs) (drop (i + 1) ys) ≡ take i zs ++ zip2 f (drop i xs) (drop i ys)
  zip2_more zs xs ys i d e h k l =
      rw (take_more_set zs i (f (get_or xs i d) (get_or ys i e)) h, drop_more xs i d k, drop_more ys i e l, append_assoc)

  pub zip2_all : (zs : List Z) (xs : List X) (ys : List Y) (i : ℕ) → length zs ≤ i → length xs ≤ i → take i zs ++ zip2 f (drop i xs) (drop i ys) ≡ zs
  zip2_all zs xs ys i h k = rw (take_all i zs h, drop_all i xs k, append-nil)

-- in place: one coordinate more
pub map_more_set : {X : Type 0} (f : X → X) (xs ys : List X) (i : ℕ) (v d : X) → i < length xs → i < length ys → v ≡ f (get_or xs i d) →
    take i xs ≡ map f (take i ys) → drop i xs ≡ drop i ys → (take (i + 1) (set xs i v) ≡ map f (take (i + 1) ys)) × (drop (i + 1) (set xs i v) ≡ drop (i + 1) ys)
map_more_set {X} f xs ys i v d h k e t r =
    let rest : get_or xs i d ∷ drop (i + 1) xs ≡ get_or ys i d ∷ drop (i + 1) ys = sym (drop_more xs i d h) ∙ r ∙ drop_more ys i d k in
    let head : get_or xs i d ≡ get_or ys i d = ap (λ (l : List X). get_or l 0 d) rest in (
      take_more_set xs i v h ∙ ap₂ (λ (l : List X) (x : X). l ++ x ∷ []) t (e ∙ ap f head) ∙ sym (map_more f ys i d k),
      drop-set-lt (i + 1) xs i v (omega arith) ∙ ap (drop 1) rest,
    )
