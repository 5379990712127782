use Rattle.semantics.proofs.Promised.{below}
use Rattle.semantics.proofs.promise.below.Goals as goal

pub returns : goal.returns
returns c = below
