-- What is written reads back, and what reads whole is what would be written: one command, and a run of them.
use Rattle.std.proofs.Common.{◌≡◌, ℕ, suc, ◌+◌, ◌-◌, ◌<◌, ◌≤◌, true, List, [], ◌∷◌, ◌++◌, map, length, get_or, take, drop, is_some, Some, None, Ok, Err, Option, slice_range, sym, refl, ap, ◌∙◌, subst, arith, length-append, length-drop, take-add}
use Rattle.std.specs.List.{flat_map, AllByRecursion}
use Rattle.std.proofs.lemmas.List.{append_assoc, append-nil, drop_at, drop_more, get_or_at, length-take-le, take_at, take_rest}
use Rattle.rows.specs.Refusals.{Passes}
use Rattle.rows.specs.declared.refusals.Fault.TheVariants.{Width}
use Rattle.rows.proofs.Checks.{not_both}
use Rattle.commands.specs.declared.command.Command.{Command}
use Rattle.commands.specs.Commands.{Said, Whole, bytes, said, width_of}
use Rattle.commands.specs.Reading.{Comes, Given, Next, Readings, ReadingLaws, ReadsBack, WouldWrite, WritesBackRun, operand_width, or_0, reading_checks, standing, write_checks}

pub pair_same : (a b : ℕ) (x y : List ℕ) → a ≡ b → x ≡ y → ◌≡◌ {A = Said} (a, x) (b, y)
pair_same a b x y p q = cc

-- what a reading that is not refused gives
pub operand_is : (s o : List ℕ) (a w : ℕ) → a + 1 + w ≤ length s → o ≡ take w (drop (a + 1) s) → length o ≡ w
operand_is s o a w h e = ap length e ∙ length-take-le w (drop (a + 1) s) (omega (arith, length-drop (a + 1) s))

pub next_is : (s o : List ℕ) (a w b : ℕ) (c : Command) → a < length s → width_of (get_or s a 0) ≡ Some w → a + 1 + w ≤ length s → o ≡ take w (drop (a + 1) s) →
    said c ≡ (get_or s a 0, o) → b ≡ a + 1 + w → Next s a (Ok (Some (a, c))) b
next_is s o a w b c l k h e d n =
    let q : operand_width (get_or s a 0) ≡ w = ap or_0 k in
    let z : length (said c).1 ≡ w = ap (λ (x : Said). length x.1) d ∙ operand_is s o a w h e in
    (l, (ap is_some k, (omega arith, tt)), refl, d ∙ pair_same _ _ _ _ refl (e ∙ ap (λ (m : ℕ). take m (drop (a + 1) s)) (sym q)), omega arith)

-- the letter and the bytes after it are split from what is left of a script
pub letter_split : (s rest : List ℕ) (a x : ℕ) → take (length s - a) (drop a s) ≡ x ∷ rest → (a < length s) × (x ≡ get_or s a 0) × (rest ≡ drop (a + 1) s)
letter_split s rest a x e =
    let d : drop a s ≡ x ∷ rest = sym (take_rest s a) ∙ e in
    let l : a < length s = omega (arith, ap length d, length-drop a s) in
    let m = drop_more s a 0 l in
    (l, (cc), cc)

-- an operand is cut short
pub next_short : (s rest : List ℕ) (a x w : ℕ) → take (length s - a) (drop a s) ≡ x ∷ rest → width_of x ≡ Some w → length rest < w → Next s a (Err (record { fault = Width; place = a })) a
next_short s rest a x w e k h =
    let p = letter_split s rest a x e in
    let q : width_of (get_or s a 0) ≡ Some w = ap width_of (sym p.1) ∙ k in
    let n : operand_width (get_or s a 0) ≡ w = ap or_0 q in
    (p.0, (ap is_some q, (refl, λ f. omega (arith, n, ap length p.2, length-drop (a + 1) s))), refl)

-- an operand is as long as its letter asks for
pub next_read : (s rest o : List ℕ) (a x w : ℕ) (c : Command) → take (length s - a) (drop a s) ≡ x ∷ rest → width_of x ≡ Some w → w ≤ length rest → o ≡ slice_range rest 0 w → said c ≡ (x, o) →
    Next s a (Ok (Some (a, c))) (a + 1 + w)
next_read s rest o a x w c e k h q d =
    let p = letter_split s rest a x e in
    let z : w - 0 ≡ w = omega arith in
    next_is s o a w (a + 1 + w) c p.0 (ap width_of (sym p.1) ∙ k) (omega (arith, p.0, ap length p.2, length-drop (a + 1) s)) (q ∙ (ap (λ (m : ℕ). take m rest) z ∙ ap (take w) p.2)) (d ∙ pair_same _ _ o o p.1 refl) refl

-- the command c stands at the place a of s
module _ (s pre rest : List ℕ) (c : Said) (a : ℕ) (e : s ≡ pre ++ (bytes c ++ rest)) (l : length pre ≡ a) (w : Whole c) where
  pub long : a + (1 + length c.1) ≤ length s
  long = omega (arith, ap length e, length-append pre (bytes c ++ rest), length-append c.1 rest)

  first : get_or s a 0 ≡ c.0
  first = ap (λ (z : List ℕ). get_or z a 0) e ∙ get_or_at pre c.0 (c.1 ++ rest) 0 a l

  after : drop (a + 1) s ≡ c.1 ++ rest
  after =
      let h : a < length s = omega (arith, long) in
      let d = drop_more s a 0 h in
      let f = ap (drop a) e ∙ drop_at pre (bytes c ++ rest) a l in
      cc

  wide : width_of (get_or s a 0) ≡ Some (length c.1)
  wide = ap width_of first ∙ w

  pub stands : standing s a ≡ c
  stands =
      pair_same (get_or s a 0) c.0 _ c.1 first
      (ap (λ (k : ℕ). take k (drop (a + 1) s)) (ap or_0 wide) ∙ (ap (take (length c.1)) after ∙ take_at c.1 rest (length c.1) refl))

  pub reads_whole : Passes (reading_checks s a)
  reads_whole = (ap is_some wide, (omega (arith, long, ap or_0 wide), tt))

  -- so a reading there gives it
  pub comes : (cs : List Said) (g : Given) (b : ℕ) → Next s a g b → Comes (c ∷ cs) g × (b ≡ a + length (bytes c))
  comes cs (Ok None) b (x, y) = absurd (omega (arith, long))
  comes cs (Ok (Some p)) b (x, y, z, v, t) =
      let q = v ∙ stands in (q, t ∙ ap (λ (k : Said). a + length (bytes k)) q)
  comes cs (Err f) b (x, y, z) = absurd (not_both (reading_checks s a) f ((λ i p q. q.1 p), ((λ i p q. q.1 p), tt)) reads_whole y)

-- one command that was read
module _ (s : List ℕ) (a b : ℕ) (p : ℕ × Command) (h : Next s a (Ok (Some p)) b) where
  known : (o : Option ℕ) → is_some o ≡ true → o ≡ Some (or_0 o)
  known None e = let z : ◌≡◌ {A = ℕ} 0 1 = cc in absurd (omega arith)
  known (Some w) e = refl

  operand_long : length (standing s a).1 ≡ operand_width (get_or s a 0)
  operand_long = length-take-le (operand_width (get_or s a 0)) (drop (a + 1) s) (omega (arith, h.1.1.0, length-drop (a + 1) s))

  pub whole : Whole (said p.1)
  whole =
      let q : Whole (standing s a) = known (width_of (get_or s a 0)) h.1.0 ∙ ap Some (sym operand_long) in
      subst Whole (sym h.3) q

  pub place_after : (b ≡ a + suc (length (said p.1).1)) × (b ≤ length s)
  place_after =
      let q : length (said p.1).1 ≡ length (standing s a).1 = ap (λ (k : Said). length k.1) h.3 in
      (h.4, omega (arith, h.1.1.0, h.4, operand_long))

  pub part_is : take (b - a) (drop a s) ≡ bytes (said p.1)
  part_is =
      let n : b - a ≡ suc (length (said p.1).1) = omega (arith, h.4) in
      let k : operand_width (get_or s a 0) ≡ length (said p.1).1 = sym (ap (λ (k : Said). length k.1) h.3 ∙ operand_long) in
      let d : drop a s ≡ get_or s a 0 ∷ drop (a + 1) s = drop_more s a 0 h.0 in
      let t : take (suc (length (said p.1).1)) (drop a s) ≡ get_or s a 0 ∷ take (length (said p.1).1) (drop (a + 1) s) = ap (take (suc (length (said p.1).1))) d in
      let u : take (length (said p.1).1) (drop (a + 1) s) ≡ (standing s a).1 = ap (λ (m : ℕ). take m (drop (a + 1) s)) (sym k) in
      ap (λ (m : ℕ). take m (drop a s)) n ∙ (t ∙ (ap (λ (z : List ℕ). get_or s a 0 ∷ z) u ∙ ap bytes (sym h.3)))

  pub would_write : WouldWrite (said p.1) (take (b - a) (drop a s))
  would_write u v (Ok n) (x, y, z) l =
      let m : n ≡ length (take (b - a) (drop a s)) = y ∙ ap length (sym part_is) in
      (ap Ok m, z ∙ (ap (λ (k : List ℕ). k ++ drop n u) (sym part_is) ∙ ap (λ (k : ℕ). take (b - a) (drop a s) ++ drop k u) m))
  would_write u v (Err f) (x, y) l =
      absurd (not_both (write_checks (said p.1) (length u)) f ((λ i p q. q.1 p), ((λ i p q. q.1 p), tt)) (whole, (omega (arith, ap length part_is), tt)) x)

writes_back_from : (s : List ℕ) (ds : List Command) (a b : ℕ) → Readings s a ds b → AllByRecursion Whole (map said ds) × (take a s ++ flat_map bytes (map said ds) ≡ take b s)
writes_back_from s [] a b e = (tt, append-nil (take a s) ∙ ap (λ (k : ℕ). take k s) e)
writes_back_from s (d ∷ ds) a b (m, (h, t)) =
    let r = writes_back_from s ds m b t in
    let n : a + (m - a) ≡ m = omega (arith, (place_after s a m (a, d) h).0) in
    let q : take a s ++ bytes (said d) ≡ take m s = ap (λ (z : List ℕ). take a s ++ z) (sym (part_is s a m (a, d) h)) ∙ (sym (take-add a (m - a) s) ∙ ap (λ (k : ℕ). take k s) n) in (
      (whole s a m (a, d) h, r.0),
      sym (append_assoc (take a s) (bytes (said d)) (flat_map bytes (map said ds))) ∙ (ap (λ (z : List ℕ). z ++ flat_map bytes (map said ds)) q ∙ r.1),
    )

writes_back_run : (s : List ℕ) → WritesBackRun s
writes_back_run s ds b h = writes_back_from s ds 0 b h

-- one command that was written
reads_back : (s : List ℕ) → ReadsBack s
reads_back s c rest w e g b h =
    let q = comes s [] rest c 0 e refl w [] g b h in
    (q.0, omega (arith, q.1))

-- and a run of them
ends : (s : List ℕ) (a b : ℕ) (g : Given) → a ≡ length s → Next s a g b → Comes [] g
ends s a b (Ok None) e h = tt
ends s a b (Ok (Some p)) e h = omega (arith, h.0)
ends s a b (Err f) e h = omega (arith, h.0)

reads_back_from : (cs : List Said) → AllByRecursion Whole cs → (s pre : List ℕ) (a : ℕ) → s ≡ pre ++ flat_map bytes cs → length pre ≡ a →
    (ds : List Command) (b : ℕ) (g : Given) (e : ℕ) → Readings s a ds b → Next s b g e → (more : List Said) × ((cs ≡ map said ds ++ more) × Comes more g)
reads_back_from [] w s pre a q l [] b g e r h =
    ([], (refl, ends s b e g (sym r ∙ (sym l ∙ ap length (sym (q ∙ append-nil pre)))) h))
reads_back_from (c ∷ cs) w s pre a q l [] b g e r h =
    (c ∷ cs, (refl, (comes s pre (flat_map bytes cs) c b q (l ∙ r) w.0 cs g e h).0))
reads_back_from [] w s pre a q l (d ∷ ds) b g e (m, (t, r)) h =
    absurd (ends s a m (Ok (Some (a, d))) (sym l ∙ ap length (sym (q ∙ append-nil pre))) t)
reads_back_from (c ∷ cs) w s pre a q l (d ∷ ds) b g e (m, (t, r)) h =
    let k = comes s pre (flat_map bytes cs) c a q l w.0 cs (Ok (Some (a, d))) m t in
    let f = reads_back_from cs w.1 s (pre ++ bytes c) m (q ∙ sym (append_assoc pre (bytes c) (flat_map bytes cs))) (omega (arith, length-append pre (bytes c), k.1)) ds b g e r h in
    let x = k.0 in
    let y = f.1.0 in
    (f.0, ((cc), f.1.1))

pub laws : (s : List ℕ) → ReadingLaws s
laws s = record { reads_back = reads_back s; reads_back_run = λ cs w e. reads_back_from cs w s [] 0 e refl; writes_back_run = writes_back_run s }
