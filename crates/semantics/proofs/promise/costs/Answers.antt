use Rattle.semantics.proofs.Promised.{costs}
use Rattle.semantics.proofs.promise.costs.Goals as goal

pub returns : goal.returns
returns c = costs
