use Rattle.program.proofs.Numbering.{unshaped_row}
use Rattle.program.proofs.laws.unshaped_row.Goals as goal

pub returns : goal.returns
returns c = unshaped_row
