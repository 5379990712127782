use Rattle.semantics.proofs.Promised.{more_changes_nothing}
use Rattle.semantics.proofs.promise.more_changes_nothing.Goals as goal

pub returns : goal.returns
returns c = more_changes_nothing
