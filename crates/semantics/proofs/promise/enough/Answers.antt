use Rattle.semantics.proofs.Promised.{enough}
use Rattle.semantics.proofs.promise.enough.Goals as goal

pub returns : goal.returns
returns c = enough
