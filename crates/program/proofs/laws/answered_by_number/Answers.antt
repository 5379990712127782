use Rattle.program.proofs.Numbering.{answered_by_number}
use Rattle.program.proofs.laws.answered_by_number.Goals as goal

pub returns : goal.returns
returns c = answered_by_number
