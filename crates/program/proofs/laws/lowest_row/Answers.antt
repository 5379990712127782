use Rattle.program.proofs.Numbering.{lowest_row}
use Rattle.program.proofs.laws.lowest_row.Goals as goal

pub returns : goal.returns
returns c = lowest_row
