use Rattle.semantics.proofs.Promised.{one_payment}
use Rattle.semantics.proofs.promise.one_payment.Goals as goal

pub returns : goal.returns
returns c = one_payment
