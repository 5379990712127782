use Rattle.std.proofs.Common.{◌∙◌, arith, length-set}
use Rattle.pricing.proofs.Tabling.{priced_more}
use Rattle.pricing.proofs.table.put_prices.Goals as goal

pub loop-row-preserved : goal.loop-row-preserved
loop-row-preserved c = (
  length-set c.loop-row.prices c.loop-row.row c.row_price.result ∙ c.loop-row.invariant.0,
  priced_more c.args.program.numbers.now c.loop-row.row c.loop-row.prices c.row_at.result c.row_price.result c.loop-row.invariant.1 (omega arith) c.row_at.ensures c.row_price.ensures,
)
