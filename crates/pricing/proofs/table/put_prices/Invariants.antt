use Rattle.std.proofs.Common.{◌≡◌, length}
use Rattle.pricing.specs.Table.{Priced}
use Rattle.pricing.proofs.table.put_prices.Given as goal

-- the rows so far are priced, in a table that is as long as at first
abbrev pub invariant-loop-row : goal.invariant-loop-row
invariant-loop-row l = (length l.prices ≡ 256) × Priced l.program.numbers.now l.row l.prices
