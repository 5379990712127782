use Rattle.semantics.proofs.Promised.{looks_only}
use Rattle.semantics.proofs.promise.looks_only.Goals as goal

pub returns : goal.returns
returns c = looks_only
