use Rattle.std.proofs.Common.{sym, refl, ◌∙◌, subst}
use Rattle.rows.specs.Points.{Marks}
use Rattle.rows.proofs.Padding.{kept_row}
use Rattle.turned.proofs.Turning.{padded_marks}
use Rattle.turned.proofs.Turned.new.Goals as goal

pub invariant_of-result : goal.invariant_of-result
invariant_of-result g c = record { bits = subst Marks (sym c.padded.ensures) (padded_marks 128 c.args.marks.now c.in_ok-check_row.ensures.1.0) }

pub returns : goal.returns
returns g c =
    let p = c.in_ok-check_row.ensures in
    let e = p.0 ∙ c.dimension.ensures in
    ((e, p.1), refl, kept_row 128 _ 0 c.args.marks.now _ e (g.met.A.Augmenter.dim_fits c.args.below) c.padded.ensures)
