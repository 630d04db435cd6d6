use Rattle.std.proofs.Common.{refl, ◌∙◌, arith}
use Rattle.rows.proofs.Padding.{kept_row}
use Rattle.pinned.proofs.Pinned.new.Goals as goal

pub returns : goal.returns
returns g c =
    let p = c.in_ok-check_pins.ensures in
    let e = p.0 ∙ c.dimension.ensures in
    ((e, (p.1.0, (omega (arith, p.1.1.0), tt))), refl, kept_row 128 _ 2 c.args.pins.now _ e (g.met.A.Augmenter.dim_fits c.args.below) c.padded.ensures)
