use Rattle.std.proofs.lemmas.List.{take-replicate}
use Rattle.job.proofs.calls.zeros.Goals as goal

pub returns : goal.returns
returns g c = λ n h. take-replicate n 128 _ h
