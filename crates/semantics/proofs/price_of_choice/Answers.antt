use Rattle.semantics.proofs.Pricing.{price_of_choice}
use Rattle.semantics.proofs.price_of_choice.Goals as goal

pub returns : goal.returns
returns c = price_of_choice
