use Rattle.program.proofs.Reaching.{names_reached}
use Rattle.program.proofs.laws.names_what_is_reached.Goals as goal

pub returns : goal.returns
returns c xs p v = names_reached xs v p
