use Rattle.pricing.proofs.Capping.{priced_by_rows}
use Rattle.pricing.proofs.laws.priced_by_rows.Goals as goal

pub returns : goal.returns
returns c = priced_by_rows
