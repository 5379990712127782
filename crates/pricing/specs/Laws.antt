-- What holds of prices of programs in rows: statements, each on the contract of a function of src/laws.rt.
use Rattle.std.specs.Prelude.{◌≡◌, ℕ, ◌+◌, ◌-◌, ◌*◌, ◌<◌, ◌≤◌, List, length, Ok, Err, ◌≢◌}
use Rattle.semantics.specs.Price.{at_most}
use Rattle.program.specs.Row.{row_in}
use Rattle.program.specs.Rows.{row_count, program_in, at_row, Valid}
use Rattle.program.specs.Reach.{Reaches}
use Rattle.program.specs.Validation.{answered}
use Rattle.program.specs.declared.row.Row.{Row}
use Rattle.program.specs.declared.row.Row.TheVariants.{Add}
use Rattle.program.specs.declared.refusal.Refusal.TheVariants.{TooDear}
use Rattle.pricing.specs.Table.{max_price, capped, price_of}
use Rattle.pricing.specs.Refusals.{refusal, first_refusal, quoted}
use Rattle.pricing.specs.Answers.{refused_by, values, PriceSays, PriceNumbers}
use Rattle.pricing.specs.declared.done.Done.{Done}
use Rattle.pricing.specs.declared.done.Done.TheVariants.{Refused}

-- the price of a row's program is the row's price over those of the rows that it names
abbrev pub PricedByRows : Type 0
PricedByRows = (xs : List ℕ) (i : ℕ) → Valid xs → i < row_count xs → at_most (at_row xs i) ≡ price_of (λ j. at_most (at_row xs j)) (row_in xs i)

-- a row's capped price is the same whether or not the prices that it is made from are capped first
abbrev pub CapLosesNothing : Type 0
CapLosesNothing = (f : ℕ → ℕ) (r : Row) → capped (price_of (λ j. capped (f j)) r) ≡ capped (price_of f r)

-- sharing is priced by what it stands for: a row that adds a row to itself costs one and twice that row's price
abbrev pub SharingIsPriced : Type 0
SharingIsPriced = (xs : List ℕ) (i j : ℕ) → Valid xs → i < row_count xs → row_in xs i ≡ Add j j → at_most (at_row xs i) ≡ 1 + 2 * at_most (at_row xs j)

-- the first refusal of a price has the number that the rules give
abbrev pub FirstByNumber : Type 0
FirstByNumber = (xs s : List ℕ) → answered (first_refusal xs (length s)) ≡ refusal xs s

-- what is quoted is at least 1 and at most the limit
abbrev pub QuotedWithinLimits : Type 0
QuotedWithinLimits = (xs : List ℕ) (n price : ℕ) → quoted xs n ≡ Ok price → (1 ≤ price) × (price ≤ max_price)

-- row k is the lowest that the last row reaches and whose price is above the limit
pub record LowestDear (xs : List ℕ) (k : ℕ) : Type 0 where
  pub reaches : Reaches xs k (row_count xs - 1)
  pub above : max_price < at_most (at_row xs k)
  pub lowest : (j : ℕ) → j < k → Reaches xs j (row_count xs - 1) → at_most (at_row xs j) ≤ max_price

-- a price that is refused is above the limit, and the row that is said is that one
abbrev pub DearRowIsLowest : Type 0
DearRowIsLowest = (xs : List ℕ) (n k limit : ℕ) → quoted xs n ≡ Err (TooDear k limit) → (limit ≡ max_price) × (max_price < at_most (program_in xs)) × LowestDear xs k

-- the two forms in which the entry says its answer are the same
abbrev pub PriceByNumbers : Type 0
PriceByNumbers = (f : ℕ) (xs : List ℕ) (d : Done) → (PriceSays f xs d → PriceNumbers f xs d) × (PriceNumbers f xs d → PriceSays f xs d)

-- the number and the values tell answers apart, but for a refusal of number 0, which there is none
abbrev pub NumbersTellApart : Type 0
NumbersTellApart = (d e : Done) → (d ≢ Refused 0) → (e ≢ Refused 0) → refused_by d ≡ refused_by e → values d ≡ values e → d ≡ e
