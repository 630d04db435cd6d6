use Rattle.std.proofs.Common.{refl, ◌∙◌, rules}
use mir.Syntax.{w128}
use Rattle.std.proofs.lemmas.Int.{to_z-of_z}
use Rattle.listed.proofs.Rows.{row_cheaper, none_cheaper}
use Rattle.listed.proofs.write_cheaper.Goals as goal

pub returns-in-Some : goal.returns-in-Some
returns-in-Some c =
    row_cheaper _ _ c.args.rows.now c.args.prices.now c.args.point.now _ c.in-Some.row.now c.in-Some.ensures.0.0 _ c.requires.room
    (to_z-of_z w128 _ (search rules) ∙ c.price.ensures)
    c.in-Some.ensures.0.1 c.in-Some.ensures.0.2 c.unpack.ensures.is c.requires.clear c.unpack.ensures.inverse c.in-Some.ensures.1

pub returns-in-None : goal.returns-in-None
returns-in-None c =
    (none_cheaper _ c.args.rows.now c.args.prices.now c.args.point.now _ c.requires.small (to_z-of_z w128 _ (search rules) ∙ c.price.ensures) c.in-None.ensures, refl)
