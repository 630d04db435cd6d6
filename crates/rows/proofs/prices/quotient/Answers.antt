use Rattle.std.proofs.Common.{sym, arith}
use Rattle.rows.proofs.Planes.{quotient_past}
use Rattle.rows.proofs.prices.quotient.Goals as goal

pub returns-else-plane-lt64 : goal.returns-else-plane-lt64
returns-else-plane-lt64 c = sym (quotient_past c.args.magnitude c.args.plane (omega arith) (omega arith))
