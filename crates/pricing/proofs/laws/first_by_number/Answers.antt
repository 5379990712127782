use Rattle.pricing.proofs.Numbering.{first_by_number}
use Rattle.pricing.proofs.laws.first_by_number.Goals as goal

pub returns : goal.returns
returns c = first_by_number
