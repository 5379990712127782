-- Which refusal a price gets: the first that applies, 1 the rows, 2 the places, 3 the price. Assumes nothing.
use Rattle.std.specs.Prelude.{ℕ, zero, suc, ◌-◌, Bool, cond, ◌&&◌, List, length, Some, None, Option, Result, nat_le, nat_lt}
use Rattle.std.specs.Option.{option_or}
use Rattle.semantics.specs.Price.{at_most}
use Rattle.program.specs.Rows.{row_count, program_in, at_row}
use Rattle.program.specs.Reach.{reached}
use Rattle.program.specs.Validation.{rows_taken, places_taken, unless, program_refusal}
use Rattle.program.specs.declared.refusal.Refusal.{Refusal}
use Rattle.program.specs.declared.refusal.Refusal.TheVariants.{TooDear}
use Rattle.pricing.specs.Table.{max_price}

-- the number of the first refusal that applies, and 0 where none does
unfoldable pub refusal : (program places : List ℕ) → ℕ
refusal xs s = cond (rows_taken xs) (cond (places_taken xs (length s)) (cond (nat_le (at_most (program_in xs)) max_price) 0 3) 2) 1

-- the lowest number below n that passes a test, or n
unfoldable pub lowest : (ℕ → Bool) → (n : ℕ) → ℕ
lowest f zero = 0
lowest f (suc n) = cond (f 0) 0 (suc (lowest (λ i. f (suc i)) n))

-- the last row reaches row i, whose price is above the limit
abbrev pub is_dear : List ℕ → (i : ℕ) → Bool
is_dear xs i = reached xs i && nat_lt max_price (at_most (at_row xs i))

-- the same of a row's flag and its price side by side
abbrev pub dear_pair : Bool × ℕ → Bool
dear_pair p = p.0 && nat_lt max_price p.1

-- the lowest such row; the last one, if none is lower
abbrev pub dear_row : List ℕ → ℕ
dear_row xs = lowest (is_dear xs) (row_count xs - 1)

-- number 3: the last row's price alone decides
abbrev pub price_refusal : List ℕ → Option Refusal
price_refusal xs = cond (nat_le (at_most (program_in xs)) max_price) None (Some (TooDear (dear_row xs) max_price))

-- the first refusal of a program in rows and so many places, for a price
abbrev pub first_refusal : List ℕ → (places : ℕ) → Option Refusal
first_refusal xs n = option_or (program_refusal xs n) (price_refusal xs)

-- what is quoted for a program in rows and so many places
abbrev pub quoted : List ℕ → (places : ℕ) → Result ℕ Refusal
quoted xs n = unless (first_refusal xs n) (at_most (program_in xs))
