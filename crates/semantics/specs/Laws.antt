-- What holds of every program by the definitions alone: statements, each on the contract of a function of src/lib.rt.
use Rattle.std.specs.Prelude.{◌≡◌, ℕ, ◌+◌, ◌<◌, ◌≤◌, true, cond, Decides, nat_le}
use Rattle.std.specs.List.{AllByRecursion}
use Rattle.semantics.specs.Program.{Program, if_not_nought, fits, names, Within}
use Rattle.semantics.specs.Price.{at_most, runnable_parts}

-- a program fits so many places exactly if each place that it names is one of them
abbrev pub FitsWhatItNames : Type 0
FitsWhatItNames = (n : ℕ) (p : Program) → Decides (fits n p) ((i : ℕ) → names i p ≡ true → i < n)

-- what fits so many places fits more
abbrev pub FitsMore : Type 0
FitsMore = (m n : ℕ) (p : Program) → m ≤ n → fits m p ≡ true → fits n p ≡ true

-- what stands in a program that fits, fits
abbrev pub FitsWithin : Type 0
FitsWithin = (n : ℕ) (p q : Program) → Within q p → fits n p ≡ true → fits n q ≡ true

-- a program names what the programs in it name
abbrev pub NamesWithin : Type 0
NamesWithin = (i : ℕ) (p q : Program) → Within q p → names i q ≡ true → names i p ≡ true

-- a program costs something
abbrev pub PriceAboveNothing : Type 0
PriceAboveNothing = (p : Program) → 1 ≤ at_most p

-- and more than each part that it may run
abbrev pub PriceAboveParts : Type 0
PriceAboveParts = (p : Program) → AllByRecursion (λ q. at_most q < at_most p) (runnable_parts p)

-- of a choice, its price counts the second arm where that costs at least as much as the first, else the first
abbrev pub PriceOfChoice : Type 0
PriceOfChoice = (p q r : Program) → at_most (if_not_nought p q r) ≡ 1 + (at_most p + cond (nat_le (at_most q) (at_most r)) (at_most r) (at_most q))
