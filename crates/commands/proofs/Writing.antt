-- Commands written one after the other: what stands after the first i of a run, and one more.
use Rattle.std.proofs.Common.{◌≡◌, ℕ, suc, Bool, true, false, Decides, MatchBool, ◌+◌, ◌-◌, ◌<◌, ◌≤◌, List, [], ◌∷◌, ◌++◌, map, length, get_or, take, drop, sym, refl, ap, ◌∙◌, subst, ap₂, arith, length-append, length-drop}
use borrow.Rule.Slice.PartMut.{put_mid}
use Rattle.std.specs.List.{flat_map, AllByRecursion, AllWithin, HoldsAt}
use Rattle.std.proofs.ByRecursion.{All-take}
use Rattle.std.proofs.lemmas.List.Edits.{paste_all}
use Rattle.std.proofs.lemmas.Bool.{false≢true}
use Rattle.std.proofs.lemmas.Slice.{put_mid-paste}
use Rattle.std.proofs.lemmas.List.{append_assoc, append-nil, drop_all, drop_at, drop-drop, flat_map_more, map-append, map_push, take-append-drop, take_at, take-map, take_more, take_rest}
use Rattle.commands.specs.declared.command.Command.{Command}
use Rattle.commands.specs.declared.command.Command.TheVariants.{End}
use Rattle.commands.specs.Commands.{Said, Whole, bytes, said}

-- the bytes of the first i commands
abbrev pub upto : List Command → ℕ → List ℕ
upto ds i = flat_map bytes (map said (take i ds))

said_more : (ds : List Command) (i : ℕ) (d : Command) → i < length ds → map said (take (i + 1) ds) ≡ map said (take i ds) ++ said (get_or ds i d) ∷ []
said_more ds i d h = ap (map said) (take_more ds i d h) ∙ map_push said (take i ds) (get_or ds i d)

pub upto_more : (ds : List Command) (i : ℕ) (d : Command) → i < length ds → upto ds (i + 1) ≡ upto ds i ++ bytes (said (get_or ds i d))
upto_more ds i d h = ap (flat_map bytes) (said_more ds i d h) ∙ sym (flat_map_more bytes [] (map said (take i ds)) (said (get_or ds i d)))

pub joined_append : (cs ds : List Said) → flat_map bytes (cs ++ ds) ≡ flat_map bytes cs ++ flat_map bytes ds
joined_append [] ds = refl
joined_append (c ∷ cs) ds = ap (λ (z : List ℕ). bytes c ++ z) (joined_append cs ds) ∙ sym (append_assoc (bytes c) (flat_map bytes cs) (flat_map bytes ds))

pub upto_le : (ds : List Command) (i : ℕ) → length (upto ds i) ≤ length (flat_map bytes (map said ds))
upto_le ds i =
    let e : flat_map bytes (map said ds) ≡ upto ds i ++ flat_map bytes (map said (drop i ds)) =
    ap (λ (z : List Command). flat_map bytes (map said z)) (sym (take-append-drop i ds)) ∙ (ap (flat_map bytes) (map-append said (take i ds) (drop i ds)) ∙ joined_append (map said (take i ds)) (map said (drop i ds))) in
    omega (arith, ap length e, length-append (upto ds i) (flat_map bytes (map said (drop i ds))))

pub length_more : (ds : List Command) (i : ℕ) (d : Command) → i < length ds → length (upto ds (i + 1)) ≡ length (upto ds i) + length (bytes (said (get_or ds i d)))
length_more ds i d h = ap length (upto_more ds i d h) ∙ length-append (upto ds i) (bytes (said (get_or ds i d)))

-- the next command has room in the buffer, and in the part of it that is handed out
pub room_at : (ds : List Command) (i at m k n : ℕ) (d : Command) → i < length ds → at ≡ length (upto ds i) → length (flat_map bytes (map said ds)) ≤ m → k ≡ m →
    n ≡ length (bytes (said (get_or ds i d))) → at + n ≤ k
room_at ds i at m k n d h e r q p = omega (arith, upto_le ds (i + 1), length_more ds i d h)

pub room_in_part : (ds : List Command) (i at m : ℕ) (b : List ℕ) (d : Command) → i < length ds → at ≡ length (upto ds i) → length (flat_map bytes (map said ds)) ≤ m → length b ≡ m →
    length (bytes (said (get_or ds i d))) ≤ length (take (length b - at) (drop at b))
room_in_part ds i at m b d h e r q = omega (arith, room_at ds i at m (length b) _ d h e r q refl, ap length (take_rest b at), length-drop at b)

-- how much room is left after the first i
pub rest_more : (ds : List Command) (i room rest : ℕ) (d : Command) (c : Said) → c ≡ said (get_or ds i d) → i < length ds → rest + length (upto ds i) ≡ room → length c.1 < rest →
    (rest - (1 + length c.1)) + length (upto ds (i + 1)) ≡ room
rest_more ds i room rest d c e h l f = omega (arith, ap (λ (x : Said). length x.1) e, length_more ds i d h)

pub rest_short : (ds : List Command) (i room rest : ℕ) (d : Command) (c : Said) → c ≡ said (get_or ds i d) → i < length ds → rest + length (upto ds i) ≡ room → rest ≤ length c.1 →
    length (flat_map bytes (map said ds)) ≤ room → ⊥
rest_short ds i room rest d c e h l f r = omega (arith, ap (λ (x : Said). length x.1) e, upto_le ds (i + 1), length_more ds i d h)

last_of : (cs : List Said) (c : Said) → AllByRecursion Whole (cs ++ c ∷ []) → Whole c
last_of [] c w = w.0
last_of (x ∷ cs) c w = last_of cs c w.1

pub whole_at : (ds : List Command) (i : ℕ) (d : Command) → i < length ds → AllByRecursion Whole (map said ds) → Whole (said (get_or ds i d))
whole_at ds i d h w =
    let t : AllByRecursion Whole (map said (take i ds) ++ said (get_or ds i d) ∷ []) =
    subst (AllByRecursion Whole) (take-map said (i + 1) ds ∙ said_more ds i d h) (All-take Whole (i + 1) (map said ds) w) in
    last_of (map said (take i ds)) (said (get_or ds i d)) t

-- what a test of every command found
whole_all : (ds : List Command) → AllWithin (λ d. Whole (said d)) ds 0 (length ds) → AllByRecursion Whole (map said ds)
whole_all [] h = tt
whole_all (d ∷ ds) h = (h 0 d (omega arith) (omega arith), whole_all ds (λ k e l m. h (suc k) e (omega arith) (omega arith)))

pub whole_decided : (r : Bool) (ds : List Command) → MatchBool r (AllWithin (λ d. Whole (said d)) ds 0 (length ds)) ((k : ℕ) × (k < length ds) × HoldsAt (λ d. Whole (said d) → ⊥) ds k) →
    Decides r (AllByRecursion Whole (map said ds))
whole_decided true ds h = (λ _. whole_all ds h, λ _. refl)
whole_decided false ds h = (λ e. absurd (false≢true e), λ w. absurd (h.2 End (whole_at ds h.0 End h.1 w)))

-- a command written over a part of the buffer, from the index at on
put_part : (u w v : List ℕ) (at n : ℕ) → at + n ≤ length u → n ≡ length w → v ≡ w ++ drop n (take (length u - at) (drop at u)) →
    put_mid at (length u - at) u v ≡ take at u ++ (w ++ drop (at + n) u)
put_part u w v at n h l e =
    let r : v ≡ w ++ drop (at + n) u = e ∙ ap (λ (z : List ℕ). w ++ z) (ap (drop n) (take_rest u at) ∙ drop-drop n at u) in
    let k : length v ≡ length u - at = ap length r ∙ (length-append w (drop (at + n) u) ∙ omega (arith, length-drop (at + n) u)) in
    let p = put_mid-paste at (length u - at) u v v (length u - at) refl refl (sym k) in
    let z : drop (at + (length u - at)) u ≡ [] = drop_all (at + (length u - at)) u (omega arith) in
    p ∙ (paste_all u at v (length u - at) (sym k) ∙ ap (λ (x : List ℕ). take at u ++ x) (ap (λ (x : List ℕ). v ++ x) z ∙ (append-nil v ∙ r)))

-- one command more
put_more : (u b b' c : List ℕ) (w : List ℕ) (at n : ℕ) → at ≡ length w → n ≡ length c → b ≡ w ++ drop at u → b' ≡ take at b ++ (c ++ drop (at + n) b) →
    b' ≡ (w ++ c) ++ drop (at + n) u
put_more u b b' c w at n l m e h =
    let front : take at b ≡ w = ap (take at) e ∙ take_at w (drop at u) at (sym l) in
    let back : drop at b ≡ drop at u = ap (drop at) e ∙ drop_at w (drop at u) at (sym l) in
    let rest : drop (at + n) b ≡ drop (at + n) u = sym (drop-drop n at b) ∙ (ap (drop n) back ∙ drop-drop n at u) in
    h ∙ (ap₂ (λ (x y : List ℕ). x ++ (c ++ y)) front rest ∙ sym (append_assoc w c (drop (at + n) u)))

pub put_next : (ds : List Command) (i at n : ℕ) (d : Command) (u b v : List ℕ) → i < length ds → n ≡ length (bytes (said (get_or ds i d))) → at ≡ length (upto ds i) → b ≡ upto ds i ++ drop at u →
    at + n ≤ length b → v ≡ bytes (said (get_or ds i d)) ++ drop n (take (length b - at) (drop at b)) →
    (at + n ≡ length (upto ds (i + 1))) × (put_mid at (length b - at) b v ≡ upto ds (i + 1) ++ drop (at + n) u)
put_next ds i at n d u b v l m a e h q =
    let p = put_part b (bytes (said (get_or ds i d))) v at n h m q in (
      ap₂ (λ (x y : ℕ). x + y) a m ∙ sym (length_more ds i d l),
      put_more u b _ (bytes (said (get_or ds i d))) (upto ds i) at n a m e p ∙ ap (λ (w : List ℕ). w ++ drop (at + n) u) (sym (upto_more ds i d l)),
    )
