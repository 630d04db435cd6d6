use Rattle.std.proofs.Common.{◌++◌, drop, replicate, ap, ◌∙◌, arith}
use Rattle.rows.proofs.Padding.{padded_all}
use Rattle.rows.proofs.points.padded.Goals as goal

pub returns : goal.returns
returns g c =
    ap (λ l. l ++ drop c.min-n.result (replicate g.row.N c.args.fill)) c.copy_from_slice.ensures.after ∙ padded_all g.row.N c.args.row.now c.args.fill c.min-n.result (omega arith)
