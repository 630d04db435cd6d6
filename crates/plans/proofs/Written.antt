-- The commands of a plan have their widths and take 46 bytes, so only a buffer that is too short refuses them.
use Rattle.std.proofs.Common.{◌≡◌, ℕ, ◌≤◌, List, [], ◌∷◌, ◌++◌, length, drop, Some, Ok, Err, sym, refl, ap, ap₂, ◌∙◌, subst, arith, length-append}
use Rattle.std.specs.List.{flat_map, AllByRecursion}
use Rattle.rows.specs.Bytes.{big_endian, signed_bytes}
use Rattle.rows.specs.Refusals.{ask, RefusedBy}
use Rattle.rows.specs.declared.refusals.Fault.TheVariants.{ShortBuffer, Width}
use Rattle.rows.specs.declared.refusals.Refusal.{Refusal}
use Rattle.rows.proofs.Checks.{past}
use Rattle.commands.specs.Commands.{Said, Whole, bytes}
use Rattle.commands.specs.Reading.{PutRun}
use Rattle.plans.specs.Bytes.{plan_bytes, plan_commands}
use Rattle.plans.specs.declared.Plan.{Plan}

module _ (p : Plan) (l : length p.point ≡ 16) where
  whole : AllByRecursion Whole (plan_commands p)
  whole = (refl, (refl, (refl, (ap Some (sym l), (refl, (refl, (refl, (refl, tt))))))))

  long : length (plan_bytes p) ≡ 46
  long = omega (arith, l, length-append p.point (flat_map bytes (drop 4 (plan_commands p))))

pub commands_are : (p : Plan) (k d n x m q i : List ℕ) →
    (k ≡ p.kind ∷ []) × (d ≡ p.dimension ∷ []) × (x ≡ p.point) →
    (n ≡ big_endian 4 p.number) × (m ≡ signed_bytes 8 p.price) × (q ≡ big_endian 4 p.asked) × (i ≡ big_endian 4 p.improved) →
    (75, k) ∷ (78, d) ∷ (74, n) ∷ (88, x) ∷ (77, m) ∷ (81, q) ∷ (73, i) ∷ (90, []) ∷ [] ≡ plan_commands p
commands_are p k d n x m q i (a, b, c) (e, f, g, h) = cc

pub written : (p : Plan) → length p.point ≡ 16 → (cs : List Said) → cs ≡ plan_commands p → (u v : List ℕ) (n : ℕ) → PutRun cs u (Ok n) v →
    (46 ≤ length u) × (v ≡ plan_bytes p ++ drop 46 u)
written p l cs e u v n (x, y, z) =
    let b : flat_map bytes cs ≡ plan_bytes p = ap (flat_map bytes) e in
    let m : n ≡ 46 = y ∙ (ap length b ∙ long p l) in
    (omega (arith, x.1.0), z ∙ ap₂ (λ (w : List ℕ) (k : ℕ). w ++ drop k u) b m)

pub refused : (p : Plan) → length p.point ≡ 16 → (cs : List Said) → cs ≡ plan_commands p → (u v : List ℕ) (e : Refusal) → PutRun cs u (Err e) v →
    RefusedBy (ask ShortBuffer (46 ≤ length u) ∷ []) e × (v ≡ u)
refused p l cs q u v e (r, z) =
    let m : length (flat_map bytes cs) ≡ 46 = ap (λ (x : List Said). length (flat_map bytes x)) q ∙ long p l in
    let s : RefusedBy (ask ShortBuffer (length (flat_map bytes cs) ≤ length u) ∷ []) e =
    past (ask Width (AllByRecursion Whole cs)) (ask ShortBuffer (length (flat_map bytes cs) ≤ length u) ∷ []) e (subst (AllByRecursion Whole) (sym q) (whole p l)) (λ i a b. b.1 a) r in
    (subst (λ (k : ℕ). RefusedBy (ask ShortBuffer (k ≤ length u) ∷ []) e) m s, z)
