use Rattle.std.proofs.Common.{length, refl, arith}
use Rattle.rows.proofs.Padding.{kept_row}
use Rattle.rows.proofs.packed_rows.PackedRows.of.Goals as goal

pub returns : goal.returns
returns c = (omega arith, kept_row 256 (length c.args.rows.now) _ c.args.rows.now c.padded.result refl (omega arith) c.padded.ensures)
