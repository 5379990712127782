use Rattle.pricing.proofs.Capping.{sharing_is_priced}
use Rattle.pricing.proofs.laws.sharing_is_priced.Goals as goal

pub returns : goal.returns
returns c = sharing_is_priced
