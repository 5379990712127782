use Rattle.pricing.proofs.Numbering.{quoted_within_limits}
use Rattle.pricing.proofs.laws.quoted_within_limits.Goals as goal

pub returns : goal.returns
returns c = quoted_within_limits
