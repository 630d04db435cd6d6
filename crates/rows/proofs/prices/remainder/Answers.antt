use Rattle.std.proofs.Common.{sym, arith}
use Rattle.rows.proofs.Planes.{remainder_past}
use Rattle.rows.proofs.prices.remainder.Goals as goal

pub returns-else-plane-lt64 : goal.returns-else-plane-lt64
returns-else-plane-lt64 c = sym (remainder_past c.args.magnitude c.args.plane (omega arith) (omega arith))
