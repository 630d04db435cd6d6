use Rattle.std.proofs.Common.{pos, arith, w64, SFits, get_or, rules}
use Rattle.std.proofs.lemmas.Int.{to_z-of_z}
use Rattle.rows.specs.Prices.{at_plane}
use Rattle.rows.proofs.Planes.{plane_laws}
use Rattle.rows.proofs.Zips.{map_more_set}
use Rattle.rows.proofs.prices.row_at_plane.Goals as goal

pub loop-p-preserved : goal.loop-p-preserved
loop-p-preserved c =
    let f : SFits w64 (get_or c.loop-p.p-items c.loop-p.p-index (pos 0)) = search rules in
    let k : SFits w64 c.price_at_plane.result = search rules in
    let is = simp to_z-of_z at c.price_at_plane.ensures in
    let more = map_more_set (at_plane c.args.plane) c.loop-p.p-items c.args.prices.now c.loop-p.p-index c.price_at_plane.result (pos 0) (omega arith) (omega arith) is c.loop-p.invariant.1 c.loop-p.invariant.2 in
    (search rules, simp to_z-of_z (more.0), simp to_z-of_z (more.1))

pub returns-clause-laws : goal.returns-clause-laws
returns-clause-laws c = plane_laws c.args.plane c.args.prices.now
