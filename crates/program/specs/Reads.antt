-- What is known of the rows of a valid program that are read. Assumes nothing.
use Rattle.std.specs.Prelude.{◌≡◌, ℕ, ◌+◌, ◌<◌, true, List, IfSome}
use Rattle.std.specs.List.{AllByRecursion}
use Rattle.semantics.specs.Program.{fits}
use Rattle.program.specs.Row.{named, own_place, row_in}
use Rattle.program.specs.Rows.{row_count, program_of, program_in, at_row}
use Rattle.program.specs.declared.row.Row.{Row}

-- r is the row that stands at number i; what it names is earlier; and the program at i is the program of r over the programs at the rows that r names
pub record Reads (xs : List ℕ) (i : ℕ) (r : Row) : Type 0 where
  pub row : r ≡ row_in xs i
  pub earlier : AllByRecursion (λ j. j < i) (named r)
  pub program : at_row xs i ≡ program_of (at_row xs) r

-- i is the number of the last row, which is the program
pub record Last (xs : List ℕ) (i : ℕ) : Type 0 where
  pub number : i + 1 ≡ row_count xs
  pub few : i < 256
  pub program : program_in xs ≡ at_row xs i

-- there is a row i, and its program fits n places
pub record RowFits (xs : List ℕ) (n i : ℕ) : Type 0 where
  pub within : i < row_count xs
  pub fit : fits n (at_row xs i) ≡ true

-- the place that a row names by itself, if it names one, is among n
abbrev pub There : ℕ → Row → Type 0
There n r = IfSome (own_place r) (λ i. i < n)

-- besides, of a row whose program fits n places: so do the programs at the rows that it names, and the place that it names by itself is there
pub record FitsReads (xs : List ℕ) (n i : ℕ) (r : Row) : Type 0 where
  pub reads : Reads xs i r
  pub parts : AllByRecursion (λ j. fits n (at_row xs j) ≡ true) (named r)
  pub there : There n r
