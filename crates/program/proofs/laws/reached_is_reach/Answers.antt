use Rattle.program.proofs.Reaching.{reached_decides}
use Rattle.program.proofs.laws.reached_is_reach.Goals as goal

pub returns : goal.returns
returns c xs k v = reached_decides xs v k
