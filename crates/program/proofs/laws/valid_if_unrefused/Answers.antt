use Rattle.program.proofs.Refusing.{unrefused_valid, valid_unrefused}
use Rattle.program.proofs.laws.valid_if_unrefused.Goals as goal

pub returns : goal.returns
returns c xs = (unrefused_valid xs, valid_unrefused xs)
