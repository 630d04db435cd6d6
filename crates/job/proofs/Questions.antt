-- One question put with parts of arrays: what better says of the parts, said of the rows that they are.
use Rattle.std.proofs.Common.{◌≡◌, ℕ, List, ◌++◌, length, ℤ, Some, None, Option, Ok, Err, Result, sym, subst}
use Rattle.std.proofs.lemmas.List.{take_at}
use Rattle.rows.specs.Points.{Point}
use Rattle.rows.specs.Refusals.{Passes, RefusedBy}
use Rattle.rows.specs.declared.refusals.Refusal.{Refusal}
use Rattle.augmenter.specs.Questions.{checks, Better, Cheaper, Cheapest}
use Rattle.augmenter.specs.declared.answers.Answer.{Answer}
use Rattle.augmenter.specs.declared.answers.Answer.TheVariants.{Found, Nothing}
use Rattle.job.specs.Calls.{Put}

module _ (n R : ℕ) (M : List ℕ → Type 0) (ps qs : List ℤ) (x y o o' : List ℕ) (p : ps ≡ qs) (e : x ≡ y) (l : length o ≡ n) where
  -- the same question, of equal rows
  moved : (P : List ℤ → List ℕ → ℕ → Type 0) → P ps x (length o) → P qs y n
  moved P h = subst (λ (m : ℕ). P qs y m) l (subst (λ (z : List ℕ). P qs z (length o)) e (subst (λ (z : List ℤ). P z x (length o)) p h))

  pub put_found : (a : Answer) (q : List ℕ) → ((z : List ℕ) → M z → Point n z) → a ≡ Found → Better n R M ps x o o' (Ok a) → Put n R M qs y (Ok (Some (o' ++ q)))
  put_found a q points is h =
      let A : Answer → Type 0 = λ z. Better n R M ps x o o' (Ok z) in
      let b = subst A is h in
      let C : List ℕ → Type 0 = λ z. Cheaper M qs y z in (
        moved (λ ps x m. Passes (checks n R M ps x m)) b.0,
        subst C (sym (take_at o' q n (points o' b.1.0).0)) (moved (λ ps x m. Cheaper M ps x o') b.1),
      )

  pub put_nothing : (a : Answer) → a ≡ Nothing → Better n R M ps x o o' (Ok a) → Put n R M qs y (Ok None)
  put_nothing a is h =
      let A : Answer → Type 0 = λ z. Better n R M ps x o o' (Ok z) in
      let b = subst A is h in
      (moved (λ ps x m. Passes (checks n R M ps x m)) b.0, moved (λ ps x m. Cheapest M ps x) b.1.0)

  pub put_refused : (f : Refusal) (r : Result (Option (List ℕ)) Refusal) → r ≡ Err f → Better n R M ps x o o' (Err f) → Put n R M qs y r
  put_refused f r e h =
      let P : Result (Option (List ℕ)) Refusal → Type 0 = λ z. Put n R M qs y z in
      subst P (sym e) (moved (λ ps x m. RefusedBy (checks n R M ps x m) f) h.0)
