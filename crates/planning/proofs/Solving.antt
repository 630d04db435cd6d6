-- What a script describes can be made into a set, and of a beginning's checks only weight and membership can still refuse it.
use Rattle.std.proofs.Common.{◌≡◌, ℕ, zero, suc, ◌^◌, ◌<◌, true, false, cond, eqb, List, [], ◌∷◌, ◌++◌, length, ℤ, Ok, Err, MatchResult, Result, sym, refl, ap, ◌∙◌, subst, inl, inr, ⊎_elim, arith, length-take}
use Rattle.std.specs.Int.Digits.{number_from_digits}
use Rattle.std.proofs.lemmas.List.{append_assoc, length-take-le}
use Rattle.std.proofs.lemmas.Bool.{cases_Bool, eqb-true}
use Rattle.rows.specs.Packed.{ClearFrom}
use Rattle.rows.specs.Points.{BadMark, Marks}
use Rattle.rows.specs.Refusals.{Passes, ask, ask_at}
use Rattle.rows.specs.declared.refusals.Fault.TheVariants.{Length, Mark}
use Rattle.rows.specs.declared.refusals.Refusal.{Refusal}
use Rattle.rows.proofs.Checks.{not_both, past}
use Rattle.rows.proofs.Marks.{marks_good}
use Rattle.rows.proofs.Packing.{unpacked_point}
use Rattle.augmenter.specs.Questions.{Lengths}
use Rattle.commands.specs.Commands.{Said}
use Rattle.listed.specs.Lists.{ClearRows, ListedIn, making_checks}
use Rattle.runs.specs.Planning.{PlanOf}
use Rattle.script.specs.Scripts.{Begins, Describes, InOrder, Last, Means, dimension_of, listed_rows, rows_of}
use Rattle.script.specs.declared.problem.Problem.{Problem}
use Rattle.planning.specs.Bytes.{Answer, refusal_bytes}
use Rattle.planning.specs.Answers.{Answers, Member, Solved, Solves, prices_in, start_checks, start_in}

-- a problem planned over its listed set
module _ (p : Problem) (long : length p.prices ≡ 128) where
  lengths : Lengths p.dimension (prices_in p) (start_in p) p.dimension
  lengths = (length-take-le p.dimension p.prices (omega (arith, p.small)), (unpacked_point p.dimension p.start).0, refl)

  planned : (r : Result (List ℕ) Refusal) → Passes (making_checks p.dimension p.reach (listed_rows p)) → PlanOf 76 p.dimension p.reach 1 (Member p) (start_in p) (prices_in p) r → Solves p r
  planned (Ok u) made h = (made, (h.0.1.1, h.1))
  planned (Err e) made h =
      let n = p.dimension in
      let ps = prices_in p in
      let x = start_in p in
      let r = past (ask Length (Lengths n ps x n)) (ask_at Mark (Marks x) (BadMark x) ∷ start_checks p) e lengths (λ i a b. b.1 a) h in
      inr (made, past (ask_at Mark (Marks x) (BadMark x)) (start_checks p) e (unpacked_point n p.start).1 (λ i a b. marks_good x i a b) r)

  -- the set was made of rows that are those of the problem, and asked with its start and prices
  pub solves : (n R : ℕ) (rows given : List (List ℕ)) (s : List ℕ) (ps : List ℤ) (r : Result (List ℕ) Refusal) → n ≡ p.dimension → R ≡ p.reach → rows ≡ given → given ≡ listed_rows p →
      s ≡ start_in p → ps ≡ prices_in p → Passes (making_checks p.dimension p.reach given) → PlanOf 76 n R 1 (ListedIn n rows) s ps r → Solves p r
  solves n R rows given s ps r en eR er eg es ep m h =
      let a = subst (λ (k : ℕ). PlanOf 76 k R 1 (ListedIn k rows) s ps r) en h in
      let b = subst (λ (k : ℕ). PlanOf 76 p.dimension k 1 (ListedIn p.dimension rows) s ps r) eR a in
      let c = subst (λ (k : List (List ℕ)). PlanOf 76 p.dimension p.reach 1 (ListedIn p.dimension k) s ps r) (er ∙ eg) b in
      let d = subst (λ (k : List ℕ). PlanOf 76 p.dimension p.reach 1 (Member p) k ps r) es c in
      planned r (subst (λ (k : List (List ℕ)). Passes (making_checks p.dimension p.reach k)) eg m)
      (subst (λ (k : List ℤ). PlanOf 76 p.dimension p.reach 1 (Member p) (start_in p) k r) ep d)

-- the listed rows of commands that may begin a script are clear from the dimension on
first_is_n : (x : ℕ) (rest : List ℕ) → InOrder (x ∷ rest) → x ≡ 78
first_is_n x rest (ps, qs, a, b, e) = cc

module _ (cs : List Said) (b : Begins cs) where
  clear_operand : (before after : List Said) (c : Said) → cs ≡ before ++ c ∷ after → c.0 ≡ 80 → ClearFrom (dimension_of cs) c.1
  clear_operand [] after c e q =
      let k = (b [] after c e).1.0 in
      let n = first_is_n c.0 k.0 k.1 in
      absurd (omega arith)
  clear_operand (x ∷ before) after c e q =
      let k = (b (x ∷ before) after c e).1.1.1.1.1.0.bits (inl q) in
      let d : number_from_digits 256 x.1 ≡ dimension_of cs = ap dimension_of (sym e) in
      subst (λ (n : ℕ). ClearFrom n c.1) d k

  clear_rows_from : (before after : List Said) → cs ≡ before ++ after → ClearRows (dimension_of cs) (rows_of after)
  clear_rows_from before [] e = λ k h. absurd (omega arith)
  clear_rows_from before (c ∷ after) e =
      let more : ClearRows (dimension_of cs) (rows_of after) = clear_rows_from (before ++ c ∷ []) after (e ∙ sym (append_assoc before (c ∷ []) after)) in
      ⊎_elim
      (λ (t : eqb c.0 80 ≡ true). subst (λ (x : List (List ℕ)). ClearRows (dimension_of cs) x) (sym (ap (λ z. cond z (c.1 ∷ rows_of after) (rows_of after)) t))
      (clear_more c.1 (rows_of after) (clear_operand before after c e (eqb-true c.0 80 t)) more))
      (λ (t : eqb c.0 80 ≡ false). subst (λ (x : List (List ℕ)). ClearRows (dimension_of cs) x) (sym (ap (λ z. cond z (c.1 ∷ rows_of after) (rows_of after)) t)) more)
      (cases_Bool (eqb c.0 80))
    where
      clear_more : (r : List ℕ) (rs : List (List ℕ)) → ClearFrom (dimension_of cs) r → ClearRows (dimension_of cs) rs → ClearRows (dimension_of cs) (r ∷ rs)
      clear_more r rs h m zero l = h
      clear_more r rs h m (suc k) l = m k (omega arith)

  near : (r : ℕ) → Last (λ c. c.0 ≡ 76) (λ c. number_from_digits 256 c.1) 0 cs r → r < 2 ^ 40
  near r (inl (a, e)) = omega arith
  near r (inr (before, after, c, e, q, n, v)) = let k = (b before after c e).1.1.1.0 q in omega arith

-- so the set of a described problem can be made
made_from : (p : Problem) (cs : List Said) → Begins cs → Means cs p → Passes (making_checks p.dimension p.reach (listed_rows p))
made_from p cs b m =
    let C : ℕ → List (List ℕ) → Type 0 = λ n rows. ClearRows n rows in
    let c = clear_rows_from cs b [] cs refl in
    let few = length-take p.rows.count p.rows.slots in (
      p.small,
      (
        omega (arith, p.rows.few),
        (
          near cs b p.reach m.reach,
          (subst (λ (n : ℕ). C n (listed_rows p)) (sym m.dimension) (subst (λ (r : List (List ℕ)). C (dimension_of cs) r) (sym m.listed) c), tt),
        ),
      ),
    )

pub solved : (s : List ℕ) (p : Problem) (r : Result (List ℕ) Refusal) → Describes s p → Solves p r → Solved s r
solved s p (Ok u) d h = (p, (d, h.1))
solved s p (Err e) d (inl h) =
    let m = made_from p d.1.0 d.1.1.2 d.1.3 in
    absurd (not_both (making_checks p.dimension p.reach (listed_rows p)) e
    ((λ i a b. b.1 a), ((λ i a b. b.1 a), ((λ i a b. b.1 a), ((λ i a b. b.1 (a i b.0)), tt)))) m h)
solved s p (Err e) d (inr h) = inr (p, (d, h.1))

-- and the answer is what comes of the planning, with the bytes of a refusal
pub answered : (s : List ℕ) (r : Result (List ℕ) Refusal) (a : Answer) → Solved s r → MatchResult r (λ u. a ≡ Ok u) (λ e. a ≡ Err (refusal_bytes e)) → Answers s a
answered s (Ok u) a h k = rw k h
answered s (Err e) a h k = rw k (e, (refl, h))
