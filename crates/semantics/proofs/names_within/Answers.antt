use Rattle.semantics.proofs.Naming.{names_within}
use Rattle.semantics.proofs.names_within.Goals as goal

pub returns : goal.returns
returns c i p q w m = names_within i w m
