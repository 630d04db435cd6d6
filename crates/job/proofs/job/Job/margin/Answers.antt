use Rattle.std.proofs.Common.{◌≡◌, ℕ, List, ℤ, sym, ap, ◌∙◌, subst}
use Rattle.job.specs.declared.parts.State.{State}
use Rattle.job.specs.declared.parts.State.TheVariants.{Open}
use Rattle.job.specs.Jobs.{view}
use Rattle.job.specs.Views.{margin_at}
use Rattle.job.specs.Soundness.{Near}
use Rattle.job.proofs.Sounds.{near}
use Rattle.job.proofs.job.Job.margin.Goals as goal

pub returns-in-Open : goal.returns-in-Open
returns-in-Open g c =
    let A = g.A.Augmenter in
    let a = c.args.self.now.below in
    let v = view c.args.self.now in
    let is : c.open_margin.result ≡ margin_at v.prices v.state =
    c.open_margin.ensures ∙ ap (λ (ps : List ℤ). margin_at ps (Open c.in-Open.plane c.in-Open.improved)) c.prices.ensures ∙
    ap (λ (s : State). margin_at v.prices s) (sym c.in-Open.is) in
    let N : ℕ → Type 0 = λ m. Near (A.Member a) v m in
    record { is = is; near = λ w b. subst N (sym is) (near (A.dim a) (A.reaches a) (A.Member a) v w b) }
