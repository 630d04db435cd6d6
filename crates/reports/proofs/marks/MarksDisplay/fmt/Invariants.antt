use Rattle.std.proofs.Common.{◌≡◌, ℕ, ◌++◌, List}
use Rattle.std.specs.Fmt.{HasWritten, IsPlainFormatter}
use Rattle.reports.specs.Marks.{digits}
use Rattle.reports.proofs.marks.MarksDisplay.fmt.Given as goal

abbrev pub invariant-loop-piece : goal.invariant-loop-piece
invariant-loop-piece g l =
    (l.piece-iterator.size ≡ 64) ×
    ((done : List ℕ) × (done ++ l.piece-iterator.rest.now ≡ l.fn.self.0.now) × (IsPlainFormatter l.fn.f → HasWritten g.W.Write.write_str_gives l.fn.f (digits done) l.f))
