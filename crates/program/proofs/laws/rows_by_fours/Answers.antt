use Rattle.std.proofs.Common.{length}
use Rattle.program.proofs.Shape.{fours}
use Rattle.program.proofs.laws.rows_by_fours.Goals as goal

pub returns : goal.returns
returns c xs = fours (length xs)
