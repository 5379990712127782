use Rattle.pricing.proofs.Numbering.{price_by_numbers}
use Rattle.pricing.proofs.laws.price_by_numbers.Goals as goal

pub returns : goal.returns
returns c = price_by_numbers
