use Rattle.semantics.proofs.Promised.{only_named}
use Rattle.semantics.proofs.promise.only_named.Goals as goal

pub returns : goal.returns
returns c = only_named
