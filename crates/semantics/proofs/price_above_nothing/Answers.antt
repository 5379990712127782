use Rattle.semantics.proofs.Pricing.{price_above_nothing}
use Rattle.semantics.proofs.price_above_nothing.Goals as goal

pub returns : goal.returns
returns c = price_above_nothing
