use Rattle.semantics.proofs.Promised.{less_is_less}
use Rattle.semantics.proofs.promise.less_is_less.Goals as goal

pub returns : goal.returns
returns c = less_is_less
