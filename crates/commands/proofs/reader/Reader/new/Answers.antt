use Rattle.commands.proofs.Runs.{laws}
use Rattle.commands.proofs.reader.Reader.new.Goals as goal

pub returns-clause-laws : goal.returns-clause-laws
returns-clause-laws c = laws c.args.script.now
