use Rattle.semantics.proofs.Pricing.{price_above_parts}
use Rattle.semantics.proofs.price_above_parts.Goals as goal

pub returns : goal.returns
returns c = price_above_parts
