-- A job just begun, run to its finish, and its plan written: the bytes are the plan of a cheapest member.
use Rattle.std.proofs.Common.{◌≡◌, ℕ, List, ◌++◌, length, ℤ, Ok, refl, ap, ◌∙◌, append-nil, arith}
use Rattle.std.proofs.lemmas.List.{drop_all}
use Rattle.rows.specs.Packed.{packed}
use Rattle.rows.specs.Prices.{price, planes}
use Rattle.plans.specs.Bytes.{plan_bytes}
use Rattle.job.specs.Tickets.{plan_of, WrotePlan}
use Rattle.job.specs.Views.{View}
use Rattle.runs.specs.Finishing.{planes_left, Finish}
use Rattle.runs.specs.Planning.{JustBegun, Planned}
use Rattle.runs.proofs.Ends.{planes_opened}
use Rattle.runs.proofs.Plans.{same_plan}

-- the job shows a when it has begun, b finished and c with its plan written; the buffer is u and then u'
pub concluded : (letter n R : ℕ) (M : List ℕ → Type 0) (a b c : View) (u u' : List ℕ) → length u ≡ 46 → JustBegun n R M a →
    Finish n R M a (Ok tt) b → b.number ≡ a.number → WrotePlan letter n b u (Ok tt) c u' → Planned letter n a.number M a.prices u'
concluded letter n R M a b c u u' long k f e g =
    let w = f.1 in
    let all = w.sound.asked in
    let ends : planes_left a.state ≡ planes a.prices = ap planes_left k.state ∙ planes_opened (planes a.prices) in
    record {
      point = b.point;
      improvements = b.totals.improved;
      member = w.member;
      cheapest = w.cheapest;
      few = omega arith;
      bytes = g.2 ∙ ap (λ (z : List ℕ). plan_bytes (plan_of letter n b) ++ z) (drop_all 46 u (omega arith)) ∙ append-nil _ ∙
          ap plan_bytes (same_plan letter n _ _ (packed b.point) _ _ _ _ _ _ e (ap (λ (p : List ℤ). price p b.point) w.row) (omega arith) refl);
    }
