use Rattle.pricing.proofs.Dearness.{dear_row_is_lowest}
use Rattle.pricing.proofs.laws.dear_row_is_lowest.Goals as goal

pub returns : goal.returns
returns c = dear_row_is_lowest
