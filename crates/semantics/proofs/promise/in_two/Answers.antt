use Rattle.semantics.proofs.Promised.{in_two}
use Rattle.semantics.proofs.promise.in_two.Goals as goal

pub returns : goal.returns
returns c = in_two
