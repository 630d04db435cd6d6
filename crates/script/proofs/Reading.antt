-- One command read and taken, and what follows for the whole script: how far it begins, what it describes, what refuses it.
use Rattle.std.proofs.Common.{◌≡◌, ℕ, ◌+◌, ◌-◌, ◌<◌, ◌≤◌, ◌⊎◌, List, [], ◌∷◌, ◌++◌, length, get_or, take, true, is_ok, MatchResult, Result, Some, None, Ok, Err, Option, sym, refl, ap, ◌∙◌, subst, inl, inr, ⊎_elim, arith, length-append, take-add}
use Rattle.std.specs.List.{flat_map}
use Rattle.std.proofs.lemmas.List.{flat_map_more, same_from_push}
use Rattle.rows.specs.Refusals.{Passes, RefusedBy, ask_here, number as numbered}
use Rattle.rows.specs.declared.refusals.Fault.{Fault}
use Rattle.rows.specs.declared.refusals.Fault.TheVariants.{Order, UnknownLetter, Width}
use Rattle.rows.specs.declared.refusals.Refusal.{Refusal}
use Rattle.rows.proofs.Checks.{after, appended, not_number}
use Rattle.commands.specs.Commands.{Said, Whole, bytes, said}
use Rattle.commands.specs.Reading.{Known, Next, operand_width, reading_checks, standing}
use Rattle.commands.specs.declared.command.Command.{Command}
use Rattle.commands.proofs.Runs.{part_is, place_after, whole}
use Rattle.script.specs.Scripts.{Begins, Describes, Ended, Refuses, Stops, Upto, command_checks}
use Rattle.script.specs.Stages.{Holds, Takes, run}
use Rattle.script.specs.declared.draft.Draft.{Draft}
use Rattle.script.specs.declared.draft.Stage.{Stage}
use Rattle.script.specs.declared.draft.Stage.TheVariants.{Dimension, Done, Ending, Kind, Members, Prices}

empty : (before after : List Said) (d : Said) → [] ≡ before ++ d ∷ after → ⊥
empty before after d e = omega (arith, ap length e, length-append before (d ∷ after))

snoc_split : (cs before after : List Said) (c d : Said) → cs ++ c ∷ [] ≡ before ++ d ∷ after → ((before ≡ cs) × (d ≡ c)) ⊎ ((more : List Said) × (cs ≡ before ++ d ∷ more))
snoc_split [] [] after c d e = inl (refl, (cc))
snoc_split [] (b ∷ bs) after c d e = let t : [] ≡ bs ++ d ∷ after = cc in absurd (empty bs after d t)
snoc_split (x ∷ cs) [] after c d e = inr (cs, (cc))
snoc_split (x ∷ cs) (b ∷ bs) after c d e =
    let t : cs ++ c ∷ [] ≡ bs ++ d ∷ after = cc in
    let h : b ≡ x = cc in
    ⊎_elim (λ q. let r = q.0 in inl ((cc), q.1)) (λ q. let r = q.1 in inr (q.0, (cc))) (snoc_split cs bs after c d t)

begins_none : Begins []
begins_none before after c e = absurd (empty before after c e)

begins_more : (cs : List Said) (c : Said) (a : ℕ) → Begins cs → Whole c → Passes (command_checks a cs c) → Begins (cs ++ c ∷ [])
begins_more cs c a h w p before after d e =
    ⊎_elim (λ q. (subst Whole (sym q.1) w, subst (λ (b : List Said). Passes (command_checks a b d)) (sym q.0) (subst (λ (k : Said). Passes (command_checks a cs k)) (sym q.1) p)))
    (λ q. h before q.0 d q.1) (snoc_split cs before after c d e)

not_ended : Ended [] → ⊥
not_ended (b, o, e) = empty b [] (90, o) e

not_ended_more : (cs : List Said) (c : Said) → (c.0 ≡ 90 → ⊥) → Ended (cs ++ c ∷ []) → ⊥
not_ended_more cs c n (b, p, e) = n (ap (λ (x : Said). x.0) (same_from_push cs b c (90, p) e).1)

-- what a reader over t, which is s, gave
read_is : (s t : List ℕ) (a b : ℕ) (f : Option (ℕ × Command)) (o : Option (ℕ × Command)) → t ≡ s → f ≡ o → Next t a (Ok f) b → Next s a (Ok o) b
read_is s t a b f o e q h = subst (λ (x : Option (ℕ × Command)). Next s a (Ok x) b) q (subst (λ (x : List ℕ). Next x a (Ok f) b) e h)

-- one command p is read from a to b, after the commands cs
module _ (s : List ℕ) (a b : ℕ) (p : ℕ × Command) (cs : List Said) (h : Next s a (Ok (Some p)) b) (u : Upto s a cs) where
  upto_more : Passes (command_checks a cs (said p.1)) → Upto s b (cs ++ said p.1 ∷ [])
  upto_more q =
      let c = said p.1 in
      let n : a + (b - a) ≡ b = omega (arith, (place_after s a b p h).0) in
      let j : flat_map bytes (cs ++ c ∷ []) ≡ flat_map bytes cs ++ bytes c = sym (flat_map_more bytes [] cs c) in
      let t : take a s ++ bytes c ≡ take b s = ap (λ (r : List ℕ). take a s ++ r) (sym (part_is s a b p h)) ∙ (sym (take-add a (b - a) s) ∙ ap (λ (k : ℕ). take k s) n) in
      ((place_after s a b p h).1, j ∙ (ap (λ (r : List ℕ). r ++ bytes c) u.1 ∙ t), begins_more cs c a u.2 (whole s a b p h) q)

  -- its own checks come after those of the reading, which it passes
  refused_command : (e : Refusal) → (Ended cs → ⊥) → RefusedBy (command_checks a cs (said p.1)) e → Stops s a cs e
  refused_command e ne r =
      let q = subst (λ (c : Said). RefusedBy (command_checks a cs c) e) h.3 r in
      let n : (k : ℕ) → (k ≡ 19) ⊎ (k ≡ 20) → numbered e.fault ≡ k → ⊥ =
      λ k d. not_number (command_checks a cs (standing s a)) e k
      ((λ x. far k 21 (λ y. omega arith) (λ y. omega arith) d x), ((λ x. far k 5 (λ y. omega arith) (λ y. omega arith) d x), ((λ x. far k 7 (λ y. omega arith) (λ y. omega arith) d x), ((λ x. far k 22 (λ y. omega arith) (λ y. omega arith) d x), ((λ x. far k 8 (λ y. omega arith) (λ y. omega arith) d x), ((λ x. far k 18 (λ y. omega arith) (λ y. omega arith) d x), tt)))))) q in
      let known = ask_here a UnknownLetter (Known (get_or s a 0)) in
      let long = ask_here a Width (a + (1 + operand_width (get_or s a 0)) ≤ length s) in
      let rest = command_checks a cs (standing s a) in
      inr (inr (ne, h.0, after known (long ∷ rest) e h.1.0 (n 19 (inl refl)) (after long rest e h.1.1.0 (n 20 (inr refl)) q)))
    where
      far : (k m : ℕ) → (m ≡ 19 → ⊥) → (m ≡ 20 → ⊥) → (k ≡ 19) ⊎ (k ≡ 20) → m ≡ k → ⊥
      far k m x y (inl e) q = x (q ∙ e)
      far k m x y (inr e) q = y (q ∙ e)

-- nothing is read
refused_read : (s : List ℕ) (a b : ℕ) (cs : List Said) (e : Refusal) → Next s a (Err e) b → (Ended cs → ⊥) → Stops s a cs e
refused_read s a b cs e h ne = inr (inr (ne, h.0, appended (reading_checks s a) (command_checks a cs (standing s a)) e h.1))

pub by_last : (p : Option Stage) (s : Stage) → run p (90 ∷ []) ≡ Some s → s ≡ Done
by_last None s e = let y : ◌≡◌ {A = ℕ} 0 1 = cc in absurd (omega arith)
by_last (Some Dimension) s e = let y : ◌≡◌ {A = ℕ} 0 1 = cc in absurd (omega arith)
by_last (Some Kind) s e = let y : ◌≡◌ {A = ℕ} 0 1 = cc in absurd (omega arith)
by_last (Some Members) s e = let y : ◌≡◌ {A = ℕ} 0 1 = cc in absurd (omega arith)
by_last (Some Prices) s e = let y : ◌≡◌ {A = ℕ} 0 1 = cc in absurd (omega arith)
by_last (Some Ending) s e = cc
by_last (Some Done) s e = let y : ◌≡◌ {A = ℕ} 0 1 = cc in absurd (omega arith)

-- a draft that did not refuse a command took it
took : {d e : Draft} {c : Said} (r : Result (Unit {0}) Fault) → true ≡ is_ok r → Takes d c r e → Takes d c (Ok tt) e
took (Ok u) o t = t
took (Err f) o t = let z : ◌≡◌ {A = ℕ} 0 1 = cc in absurd (omega arith)

-- the ends of a parse, and one turn of it
refuses_at : (s : List ℕ) (a : ℕ) (cs : List Said) (e : Refusal) → length s ≤ 65536 → Upto s a cs → Stops s a cs e → Refuses s e
refuses_at s a cs e h u r = inr (h, (a, cs, u, r))

ended : (cs : List Said) (c : Said) → c.0 ≡ 90 → Ended (cs ++ c ∷ [])
ended cs c e = (cs, c.1, ap (λ (y : ℕ). cs ++ (y, c.1) ∷ []) e)

-- the commands so far, cs, are in the draft d, and none of them is a Z
pub record Going (s : List ℕ) (a : ℕ) (d : Draft) : Type 0 where
  pub short : length s ≤ 65536
  pub cs : List Said
  pub upto : Upto s a cs
  pub holds : Holds cs d
  pub open_ended : Ended cs → ⊥

pub going_none : (s : List ℕ) (a : ℕ) (d : Draft) → length s ≤ 65536 → a ≡ 0 → Holds [] d → Going s a d
going_none s a d h e k =
    record { short = h; cs = []; upto = (omega arith, ap (λ (z : ℕ). take z s) (sym e), begins_none); holds = k; open_ended = not_ended }

pub unreadable : (s : List ℕ) (a b : ℕ) (d : Draft) (e : Refusal) → Going s a d → Next s a (Err e) b → Refuses s e
unreadable s a b d e g h = refuses_at s a g.cs e g.short g.upto (refused_read s a b g.cs e h g.open_ended)

-- one turn of a parse: a reader over t, which is s, gave the command p, and d is the draft before it
module _ (s t : List ℕ) (a b : ℕ) (f : Option (ℕ × Command)) (p : ℕ × Command) (d : Draft) (v : (t ≡ s) × Going s a d) (i : f ≡ Some p) (x : Next t a (Ok f) b) where
  g : Going s a d
  g = v.1

  h : Next s a (Ok (Some p)) b
  h = read_is s t a b f (Some p) v.0 i x

  pub whole_read : Whole (said p.1)
  whole_read = whole s a b p h

  -- r is what the draft answers, and w the refusal that it becomes
  pub not_taken : (e : Draft) (w : Refusal) (r : Result (Unit {0}) Fault) → MatchResult r (λ _. ⊥) (λ k. w ≡ record { fault = k; place = p.0 }) → Takes d (said p.1) r e → Refuses s w
  not_taken e w (Ok u) k y = absurd k
  not_taken e w (Err z) k y =
      subst (Refuses s) (sym k) (subst (λ (m : ℕ). Refuses s (record { fault = z; place = m })) (sym h.2)
      (refuses_at s a g.cs _ g.short g.upto (refused_command s a b p g.cs h g.upto _ g.open_ended (y g.cs g.holds a))))

  module _ (e : Draft) (r : Result (Unit {0}) Fault) (o : true ≡ is_ok r) (k : Takes d (said p.1) r e) where
    y : Takes d (said p.1) (Ok tt) e
    y = took r o k

    more : Upto s b (g.cs ++ said p.1 ∷ [])
    more = upto_more s a b p g.cs h g.upto (y g.cs g.holds a).0

    pub going_more : ((said p.1).0 ≡ 90 → ⊥) → Going s b e
    going_more n =
        record { short = g.short; cs = g.cs ++ said p.1 ∷ []; upto = more; holds = (y g.cs g.holds a).1; open_ended = not_ended_more g.cs (said p.1) n }

    pub past_end : (said p.1).0 ≡ 90 → b < length s → Refuses s (record { fault = Order; place = b })
    past_end z l = refuses_at s b (g.cs ++ said p.1 ∷ []) _ g.short more (inl (ended g.cs (said p.1) z, l, refl))

    pub described : (said p.1).0 ≡ 90 → length s ≤ b → Describes s e.problem
    described z l =
        let n : b ≡ length s = omega (arith, (place_after s a b p h).1) in
        (g.short, (g.cs ++ said p.1 ∷ [], subst (λ (k : ℕ). Upto s k (g.cs ++ said p.1 ∷ [])) n more, ended g.cs (said p.1) z, (y g.cs g.holds a).1.means))
