-- A script is settled: its bytes are commands in one way, so it is refused once, or describes one problem.
use Rattle.std.proofs.Common.{◌≡◌, ℕ, ◌⊎◌, List, [], ◌∷◌, ◌++◌, map, length, take, drop, replicate, pos, Some, None, Option, sym, refl, ap, ◌∙◌, subst, inl, inr, ⊎_elim, arith, length-append}
use Rattle.std.specs.Int.Digits.{number_from_digits}
use Rattle.std.specs.List.{flat_map, AllByRecursion}
use Rattle.std.proofs.lemmas.List.{append_assoc, append-nil, drop_at, length-take-le, map_push, take-append-drop, take_at}
use Rattle.rows.specs.Refusals.{Passes, number as numbered}
use Rattle.rows.specs.declared.refusals.Refusal.{Refusal}
use Rattle.rows.proofs.Checks.{Exact, Excludes, not_both, one_refusal}
use Rattle.commands.specs.Commands.{Said, Whole, bytes, width_of}
use Rattle.commands.proofs.Runs.{long, pair_same, reads_whole, stands}
use Rattle.commands.proofs.Writing.{joined_append}
use Rattle.script.proofs.Order.{forward, run_append}
use Rattle.script.proofs.Reading.{by_last}
use Rattle.script.specs.Scripts.{Alike, Begins, Continues, Describes, Ended, Last, Means, Prices, Refuses, Settled, Stops, Upto, checks, command_checks, letter, price_of}
use Rattle.script.specs.Stages.{run}
use Rattle.script.specs.declared.draft.Stage.{Stage}
use Rattle.script.specs.declared.draft.Stage.TheVariants.{Dimension, Done}
use Rattle.script.specs.declared.problem.Problem.{Problem}

-- bytes are commands in one way
split_same : (x y u v : List ℕ) → length x ≡ length y → x ++ u ≡ y ++ v → (x ≡ y) × (u ≡ v)
split_same x y u v l e =
    (sym (take_at x u (length y) l) ∙ (ap (take (length y)) e ∙ take_at y v (length y) refl), sym (drop_at x u (length y) l) ∙ (ap (drop (length y)) e ∙ drop_at y v (length y) refl))

one_width : (a b m n : ℕ) → a ≡ b → width_of a ≡ Some m → width_of b ≡ Some n → m ≡ n
one_width a b m n e p q = let r = ap width_of e in cc

abbrev InLine : List Said → List Said → Type 0
InLine cs ds = ((e : List Said) × (ds ≡ cs ++ e)) ⊎ ((e : List Said) × (cs ≡ ds ++ e))

in_line_more : (c d : Said) (cs ds : List Said) → c ≡ d → InLine cs ds → InLine (c ∷ cs) (d ∷ ds)
in_line_more c d cs ds s (inl (e, q)) = inl (e, (cc))
in_line_more c d cs ds s (inr (e, q)) = inr (e, (cc))

in_line : (cs ds : List Said) (r t : List ℕ) → AllByRecursion Whole cs → AllByRecursion Whole ds → flat_map bytes cs ++ r ≡ flat_map bytes ds ++ t → InLine cs ds
in_line [] ds r t a b q = inl (ds, refl)
in_line (c ∷ cs) [] r t a b q = inr (c ∷ cs, refl)
in_line (c ∷ cs) (d ∷ ds) r t (w, a) (v, b) q =
    let m : c.0 ∷ (c.1 ++ (flat_map bytes cs ++ r)) ≡ d.0 ∷ (d.1 ++ (flat_map bytes ds ++ t)) = ap (λ (z : List ℕ). c.0 ∷ z) (sym (append_assoc c.1 (flat_map bytes cs) r)) ∙ (q ∙ ap (λ (z : List ℕ). d.0 ∷ z) (append_assoc d.1 (flat_map bytes ds) t)) in
    let h : c.0 ≡ d.0 = cc in
    let l : c.1 ++ (flat_map bytes cs ++ r) ≡ d.1 ++ (flat_map bytes ds ++ t) = cc in
    let z = split_same c.1 d.1 _ _ (one_width c.0 d.0 _ _ h w v) l in
    in_line_more c d cs ds (pair_same c.0 d.0 c.1 d.1 h z.0) (in_line cs ds r t a b z.1)

wholes : (before cs : List Said) → Begins (before ++ cs) → AllByRecursion Whole cs
wholes before [] h = tt
wholes before (c ∷ cs) h = ((h before cs c refl).0, wholes (before ++ c ∷ []) cs (subst Begins (sym (append_assoc before (c ∷ []) cs)) h))

-- nothing follows a Z
dead : (p : Option Stage) (x : ℕ) (w : List ℕ) → ((s : Stage) → p ≡ Some s → s ≡ Done) → run p (x ∷ w) ≡ Some Done → ⊥
dead None x w h e = let y : ◌≡◌ {A = ℕ} 0 1 = cc in omega arith
dead (Some s) x w h e =
    let f : ◌≡◌ {A = Option Stage} None (Some Done) = subst (λ (t : Stage). run (Some t) (x ∷ w) ≡ Some Done) (h s refl) e in
    let y : ◌≡◌ {A = ℕ} 0 1 = cc in
    omega arith

ended_out : (cs : List Said) (c : Said) → Ended cs → Continues cs c → ⊥
ended_out cs c (b, o, e) (w, i) =
    let l : map letter cs ≡ map letter b ++ 90 ∷ [] = ap (map letter) e ∙ map_push letter b (90, o) in
    dead (run (Some Dimension) (map letter cs)) c.0 w
    (λ s q. by_last (run (Some Dimension) (map letter b)) s (sym (ap (run (Some Dimension)) l ∙ run_append (Some Dimension) (map letter b) (90 ∷ [])) ∙ q))
    (sym (run_append (Some Dimension) (map letter cs) (c.0 ∷ w)) ∙ forward _ i)

-- where a beginning ends
upto_length : (s : List ℕ) (a : ℕ) (cs : List Said) → Upto s a cs → length (flat_map bytes cs) ≡ a
upto_length s a cs u = ap length u.1 ∙ length-take-le a s u.0

upto_rest : (s : List ℕ) (a : ℕ) (cs : List Said) → Upto s a cs → flat_map bytes cs ++ drop a s ≡ s
upto_rest s a cs u = ap (λ (z : List ℕ). z ++ drop a s) u.1 ∙ take-append-drop a s

-- the checks at a place are each about that place, and exclude each other's refusals
excludes : (s : List ℕ) (a : ℕ) (cs : List Said) → Excludes (checks s a cs)
excludes s a cs = ((λ i p q. q.1 p), ((λ i p q. q.1 p), ((λ i p q. q.1 p), ((λ i p q. q.1 p), ((λ i p q. q.1 p), ((λ i p q. q.1 p), ((λ i p q. q.1 p), ((λ i p q. q.1 p), tt))))))))

exact : (s : List ℕ) (a : ℕ) (cs : List Said) → Exact (checks s a cs)
exact s a cs = ((λ i j p q. p.0 ∙ sym q.0), ((λ i j p q. p.0 ∙ sym q.0), ((λ i j p q. p.0 ∙ sym q.0), ((λ i j p q. p.0 ∙ sym q.0), ((λ i j p q. p.0 ∙ sym q.0), ((λ i j p q. p.0 ∙ sym q.0), ((λ i j p q. p.0 ∙ sym q.0), ((λ i j p q. p.0 ∙ sym q.0), tt))))))))

-- a script does not stop before a command that is part of a beginning
module _ (s : List ℕ) (a b : ℕ) (cs e : List Said) (c : Said) (u : Upto s a cs) (v : Upto s b (cs ++ c ∷ e)) where
  rest : List ℕ
  rest = flat_map bytes e ++ drop b s

  unfoldable all : s ≡ flat_map bytes cs ++ (bytes c ++ rest)
  unfolding rest
  all =
      sym (upto_rest s b (cs ++ c ∷ e) v) ∙ (ap (λ (z : List ℕ). z ++ drop b s) (joined_append cs (c ∷ e)) ∙ (append_assoc (flat_map bytes cs) (flat_map bytes (c ∷ e)) (drop b s) ∙ ap (λ (z : List ℕ). flat_map bytes cs ++ z) (append_assoc (bytes c) (flat_map bytes e) (drop b s))))

  goes_on : (f : Refusal) → Stops s a cs f → ⊥
  goes_on f (inl (d, l, q)) = ended_out cs c d (v.2 cs e c refl).1.0
  goes_on f (inr (inl (d, l, q))) = omega (arith, long s (flat_map bytes cs) rest c a all (upto_length s a cs u) (v.2 cs e c refl).0)
  goes_on f (inr (inr (d, l, r))) =
      let w = v.2 cs e c refl in
      let m = upto_length s a cs u in
      let k = reads_whole s (flat_map bytes cs) rest c a all m w.0 in
      not_both (checks s a cs) f (excludes s a cs)
      (k.0, (k.1.0, subst (λ (x : Said). Passes (command_checks a cs x)) (sym (stands s (flat_map bytes cs) rest c a all m w.0)) w.1)) r

-- two beginnings of one script
lined : (s : List ℕ) (a b : ℕ) (cs ds : List Said) → Upto s a cs → Upto s b ds → InLine cs ds
lined s a b cs ds u v = in_line cs ds (drop a s) (drop b s) (wholes [] cs u.2) (wholes [] ds v.2) (upto_rest s a cs u ∙ sym (upto_rest s b ds v))

not_before : (s : List ℕ) (a b : ℕ) (f : Refusal) (cs ds e : List Said) → Upto s a cs → Upto s b ds → ds ≡ cs ++ e → Stops s a cs f → ds ≡ cs
not_before s a b f cs ds [] u v q r = q ∙ append-nil cs
not_before s a b f cs ds (c ∷ e) u v q r = absurd (goes_on s a b cs e c u (subst (Upto s b) q v) f r)

same_place : (s : List ℕ) (a b : ℕ) (cs ds : List Said) → Upto s a cs → Upto s b ds → cs ≡ ds → a ≡ b
same_place s a b cs ds u v e = sym (upto_length s a cs u) ∙ (ap (λ (l : List Said). length (flat_map bytes l)) e ∙ upto_length s b ds v)

abbrev Same : Refusal → Refusal → Type 0
Same e f = (numbered e.fault ≡ numbered f.fault) × (e.place ≡ f.place)

same : (e f : Refusal) → e ≡ f → Same e f
same e f q = (ap (λ (x : Refusal). numbered x.fault) q, ap (λ (x : Refusal). x.place) q)

one_stop : (s : List ℕ) (a : ℕ) (cs : List Said) (e f : Refusal) → Stops s a cs e → Stops s a cs f → Same e f
one_stop s a cs e f (inl (d, l, q)) (inl (x, y, z)) = same e f (q ∙ sym z)
one_stop s a cs e f (inl (d, l, q)) (inr (inl (x, y, z))) = absurd (x d)
one_stop s a cs e f (inl (d, l, q)) (inr (inr (x, y, z))) = absurd (x d)
one_stop s a cs e f (inr (inl (d, l, q))) (inl (x, y, z)) = absurd (d x)
one_stop s a cs e f (inr (inl (d, l, q))) (inr (inl (x, y, z))) = same e f (q ∙ sym z)
one_stop s a cs e f (inr (inl (d, l, q))) (inr (inr (x, y, z))) = absurd (omega arith)
one_stop s a cs e f (inr (inr (d, l, q))) (inl (x, y, z)) = absurd (d x)
one_stop s a cs e f (inr (inr (d, l, q))) (inr (inl (x, y, z))) = absurd (omega arith)
one_stop s a cs e f (inr (inr (d, l, q))) (inr (inr (x, y, z))) = one_refusal (checks s a cs) e f (excludes s a cs) (exact s a cs) q z

one_end : (s : List ℕ) (a b : ℕ) (e f : Refusal) (cs ds : List Said) → Upto s a cs → Upto s b ds → cs ≡ ds → Stops s a cs e → Stops s b ds f → Same e f
one_end s a b e f cs ds u v q r t =
    let p = same_place s a b cs ds u v q in
    one_stop s a cs e f r (subst (λ (l : List Said). Stops s a l f) (sym q) (subst (λ (x : ℕ). Stops s x ds f) (sym p) t))

once : (s : List ℕ) (e f : Refusal) → Refuses s e → Refuses s f → Same e f
once s e f (inl (h, p)) (inl (i, r)) = same e f (p ∙ sym r)
once s e f (inl (h, p)) (inr (i, r)) = absurd (omega arith)
once s e f (inr (h, p)) (inl (i, r)) = absurd (omega arith)
once s e f (inr (h, (a, cs, u, r))) (inr (i, (b, ds, v, q))) =
    ⊎_elim (λ x. one_end s a b e f cs ds u v (sym (not_before s a b e cs ds x.0 u v x.1 r)) r q)
    (λ x. one_end s a b e f cs ds u v (not_before s b a f ds cs x.0 v u x.1 q) r q) (lined s a b cs ds u v)

longer : (s : List ℕ) (b : ℕ) (cs ds e : List Said) → Upto s (length s) cs → Upto s b ds → ds ≡ cs ++ e → ds ≡ cs
longer s b cs ds [] u v q = q ∙ append-nil cs
longer s b cs ds (c ∷ e) u v q =
    absurd (omega (arith, upto_length s (length s) cs u, upto_length s b ds v, ap (λ (l : List Said). length (flat_map bytes l)) q, ap length (joined_append cs (c ∷ e)), length-append (flat_map bytes cs) (flat_map bytes (c ∷ e)), v.0))

-- the end of a whole script is no stop
no_stop : (s : List ℕ) (cs : List Said) (e : Refusal) → Ended cs → Stops s (length s) cs e → ⊥
no_stop s cs e d (inl (x, y, z)) = omega arith
no_stop s cs e d (inr (inl (x, y, z))) = x d
no_stop s cs e d (inr (inr (x, y, z))) = x d

never_both : (s : List ℕ) (p : Problem) (e : Refusal) → Describes s p → Refuses s e → ⊥
never_both s p e (h, (cs, u, d, m)) (inl (i, r)) = omega arith
never_both s p e (h, (cs, u, d, m)) (inr (i, (a, ds, v, q))) =
    let end : ds ≡ cs → ⊥ = λ k. (let l = same_place s a (length s) ds cs v u k in
    no_stop s cs e d (subst (λ (x : List Said). Stops s (length s) x e) k (subst (λ (x : ℕ). Stops s x ds e) l q))) in
    ⊎_elim (λ x. end (longer s a cs ds x.0 u v x.1)) (λ x. end (sym (not_before s a (length s) e ds cs x.0 v u x.1 q))) (lined s (length s) a cs ds u v)

-- the last command of a kind is one
all_at : (P : Said → Type 0) (b a : List Said) (c : Said) → AllByRecursion P (b ++ c ∷ a) → P c
all_at P [] a c (h, k) = h
all_at P (x ∷ b) a c (h, k) = all_at P b a c k

all_of : (P : Said → Type 0) (cs b a : List Said) (c : Said) → cs ≡ b ++ c ∷ a → AllByRecursion P cs → P c
all_of P cs b a c e h = all_at P b a c (subst (AllByRecursion P) e h)

abbrev Apart : Said → List Said → Said → List Said → Type 0
Apart c a d e = (c ≡ d) ⊎ (((b : List Said) × (f : List Said) × (a ≡ b ++ d ∷ f)) ⊎ ((b : List Said) × (f : List Said) × (e ≡ b ++ c ∷ f)))

two : (b m a e : List Said) (c d : Said) → b ++ c ∷ a ≡ m ++ d ∷ e → Apart c a d e
two [] [] a e c d q = inl (cc)
two [] (y ∷ m) a e c d q = inr (inl (m, e, (cc)))
two (x ∷ b) [] a e c d q = inr (inr (b, a, (cc)))
two (x ∷ b) (y ∷ m) a e c d q = two b m a e c d (cc)

last_one : {V : Type 0} (P : Said → Type 0) (gives : Said → V) (d : V) (cs : List Said) (v w : V) → Last P gives d cs v → Last P gives d cs w → v ≡ w
last_one P gives d cs v w (inl (a, e)) (inl (b, f)) = e ∙ sym f
last_one P gives d cs v w (inl (a, e)) (inr (b, f, c, q, p, n, r)) = absurd (all_of (λ x. P x → ⊥) cs b f c q a p)
last_one P gives d cs v w (inr (b, f, c, q, p, n, r)) (inl (a, e)) = absurd (all_of (λ x. P x → ⊥) cs b f c q a p)
last_one P gives d cs v w (inr (b, f, c, q, p, n, r)) (inr (b', f', c', q', p', n', r')) =
    ⊎_elim (λ s. r ∙ (ap gives s ∙ sym r'))
    (λ t. ⊎_elim (λ s. absurd (all_of (λ x. P x → ⊥) f s.0 s.1 c' s.2 n p')) (λ s. absurd (all_of (λ x. P x → ⊥) f' s.0 s.1 c s.2 n' p)) t)
    (two b b' f f' c c' (sym q ∙ q'))

alike : (cs : List Said) (p q : Problem) → Means cs p → Means cs q → Alike p q
alike cs p q m k =
    record {
      dimension = m.dimension ∙ sym k.dimension;
      reach = last_one (λ c. c.0 ≡ 76) (λ c. number_from_digits 256 c.1) 0 cs _ _ m.reach k.reach;
      listed = m.listed ∙ sym k.listed;
      prices = λ i l. last_one (Prices i) price_of (pos 0) cs _ _ (m.prices i l) (k.prices i l);
      start = last_one (λ c. c.0 ≡ 83) (λ c. c.1) (replicate 16 0) cs _ _ m.start k.start;
    }

one_meaning : (s : List ℕ) (p q : Problem) → Describes s p → Describes s q → Alike p q
one_meaning s p q (h, (cs, u, d, m)) (i, (ds, v, e, k)) =
    let same_cs : ds ≡ cs = ⊎_elim (λ x. longer s (length s) cs ds x.0 u v x.1) (λ x. sym (longer s (length s) ds cs x.0 v u x.1)) (lined s (length s) (length s) cs ds u v) in
    alike cs p q m (subst (λ (l : List Said). Means l q) same_cs k)

pub settled : (s : List ℕ) → Settled s
settled s = record { never_both = never_both s; one_refusal = once s; one_meaning = one_meaning s }
