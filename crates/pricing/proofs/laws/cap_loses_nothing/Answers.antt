use Rattle.pricing.proofs.Capping.{cap_loses_nothing}
use Rattle.pricing.proofs.laws.cap_loses_nothing.Goals as goal

pub returns : goal.returns
returns c = cap_loses_nothing
