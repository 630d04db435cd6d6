-- A list of packed rows kept in an array, and the points that its rows pack.
use Rattle.std.proofs.Common.{◌≡◌, ℕ, ◌<◌, ◌≤◌, List, [], length, get_or, ℤ, ◌≤ℤ◌, ◌<ℤ◌, sym, ap, ◌∙◌, subst, arith}
use Rattle.rows.specs.Packed.{unpacked, packed, ClearFrom}
use Rattle.rows.specs.Points.{Point}
use Rattle.rows.specs.Prices.{price}
use Rattle.rows.proofs.Packing.{unpacked_packed, unpacked_point}
use Rattle.augmenter.specs.Questions.{Cheapest, Cheaper}
use Rattle.listed.specs.Lists.{ListedIn, ClearRows}

-- row k, which is r, unpacked over a row of m bytes is a member, cheaper than x where the row costs less than the limit
pub row_cheaper : (n m : ℕ) (rows : List (List ℕ)) (ps : List ℤ) (x y r : List ℕ) (k : ℕ) (L : ℤ) → m ≡ n → L ≡ price ps x → k < length rows → r ≡ get_or rows k [] →
    y ≡ unpacked m r → ClearRows n rows → (ClearFrom m r → packed y ≡ r) → price ps (unpacked n r) <ℤ L → Cheaper (ListedIn n rows) ps x y
row_cheaper n m rows ps x y r k L em el h er e c p l =
    let f : y ≡ unpacked n r = e ∙ ap (λ (z : ℕ). unpacked z r) em in
    let C : List ℕ → Type 0 = λ z. ClearFrom n z in
    let P : List ℕ → Type 0 = λ z. Point n z in
    let Q : List ℕ → Type 0 = λ z. price ps z <ℤ price ps x in
    let R : ℤ → Type 0 = λ z. price ps (unpacked n r) <ℤ z in
    let clear : ClearFrom n r = subst C (sym er) (c k h) in
    ((subst P (sym f) (unpacked_point n r), (k, h, sym er ∙ sym (p (λ i g. clear i (omega arith))))), subst Q (sym f) (subst R el l))

-- a member is a row unpacked
member_row : (n : ℕ) (rows : List (List ℕ)) (y : List ℕ) → n ≤ 128 → (m : ListedIn n rows y) → unpacked n (get_or rows m.1.0 []) ≡ y
member_row n rows y h m = ap (λ (bs : List ℕ). unpacked n bs) m.1.2 ∙ unpacked_packed n y h m.0

-- no row costs less than the limit, so no member is cheaper
pub none_cheaper : (n : ℕ) (rows : List (List ℕ)) (ps : List ℤ) (x : List ℕ) (L : ℤ) → n ≤ 128 → L ≡ price ps x →
    ((k : ℕ) → k < length rows → L ≤ℤ price ps (unpacked n (get_or rows k []))) → Cheapest (ListedIn n rows) ps x
none_cheaper n rows ps x L h el g y m =
    let P : List ℕ → Type 0 = λ z. price ps x ≤ℤ price ps z in
    let R : ℤ → Type 0 = λ z. z ≤ℤ price ps (unpacked n (get_or rows m.1.0 [])) in
    subst P (member_row n rows y h m) (subst R el (g m.1.0 m.1.1))
