use Rattle.pricing.proofs.Numbering.{numbers_tell_apart}
use Rattle.pricing.proofs.laws.numbers_tell_apart.Goals as goal

pub returns : goal.returns
returns c = numbers_tell_apart
