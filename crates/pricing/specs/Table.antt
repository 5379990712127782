-- The price of a row by the prices of the rows that it names, and the table of all of them, cut off just above the limit. Assumes nothing.
use Rattle.std.specs.Prelude.{◌≡◌, ℕ, ◌+◌, ◌*◌, ◌^◌, min, max, cond, List, nat_lt, slice_index}
use Rattle.semantics.specs.Price.{at_most}
use Rattle.program.specs.Rows.{at_row}
use Rattle.program.specs.declared.row.Row.{Row}
use Rattle.program.specs.declared.row.Row.TheVariants.{Constant, Place, Add, Multiply, Less, Store, Sequence, Choice, Loop}

-- the highest price that is taken
abbrev pub max_price : ℕ
max_price = 2 ^ 62

-- what a table holds for any price above that
abbrev pub cap : ℕ
cap = max_price + 1

-- the smaller of a price and the cap
abbrev pub capped : ℕ → ℕ
capped n = min n cap

-- the price of a row, over the prices of the rows that it names
abbrev pub price_of : (ℕ → ℕ) → Row → ℕ
price_of n (Constant value) = 1
price_of n (Place i) = 1
price_of n (Add left right) = 1 + (n left + n right)
price_of n (Multiply left right) = 1 + (n left + n right)
price_of n (Less left right) = 1 + (n left + n right)
price_of n (Store i value) = 1 + n value
price_of n (Sequence one two) = 1 + (n one + n two)
price_of n (Choice condition then otherwise) = 1 + (n condition + max (n then) (n otherwise))
price_of n (Loop limit count body) = 1 + (n count + limit * (1 + n body))

-- a table of prices: at each of the first so many rows the smaller of its program's price and the cap, and 0 behind them
abbrev pub Priced : List ℕ → (rows : ℕ) → (table : List ℕ) → Type 0
Priced xs n t = (i : ℕ) → slice_index t i ≡ cond (nat_lt i n) (capped (at_most (at_row xs i))) 0
