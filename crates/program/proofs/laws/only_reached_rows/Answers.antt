use Rattle.program.proofs.Reaching.{only_reached_rows}
use Rattle.program.proofs.laws.only_reached_rows.Goals as goal

pub returns : goal.returns
returns c = only_reached_rows
