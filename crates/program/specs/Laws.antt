-- What holds of programs in rows: statements, each on the contract of a function of src/laws.rt.
use Rattle.std.specs.Prelude.{◌≡◌, ℕ, ◌-◌, ◌*◌, ◌<◌, ◌≤◌, true, false, cond, List, length, Some, None, Decides, ◌==◌}
use Rattle.std.specs.List.{AllByRecursion}
use Rattle.semantics.specs.Program.{Program, constant, place, added, times, less, set, after, if_not_nought, again, fits, names, Within}
use Rattle.program.specs.Row.{kind, first, second, third, row_in, named, own_place}
use Rattle.program.specs.Rows.{row_count, by_fours, rows_ok, row_ok, shaped, program_at, program_in, at_row, Valid}
use Rattle.program.specs.Reads.{There}
use Rattle.program.specs.Reach.{Reaches, reached}
use Rattle.program.specs.Refusal.{place_of}
use Rattle.program.specs.Validation.{answered, refusal_number, rows_refusal, count_refusal, places_refusal, program_refusal}
use Rattle.program.specs.declared.refusal.Refusal.{Refusal}
use Rattle.program.specs.declared.refusal.Refusal.TheVariants.{NoSuchPlace}

-- numbers are as many rows as there are fours among them
abbrev pub RowsByFours : Type 0
RowsByFours = (xs : List ℕ) → row_count xs ≡ by_fours (length xs)

-- the depth to which a row is read doesn't matter, once it exceeds the row's number
abbrev pub DepthDoesNotMatter : Type 0
DepthDoesNotMatter = (xs : List ℕ) (depth i : ℕ) → Valid xs → i < row_count xs → i < depth → program_at xs depth i ≡ at_row xs i

-- the program at a row by the programs at the rows that it names, for each kind
pub record Equations (xs : List ℕ) (i : ℕ) : Type 0 where
  pub kind_0 : kind xs i ≡ 0 → at_row xs i ≡ constant (first xs i)
  pub kind_1 : kind xs i ≡ 1 → at_row xs i ≡ place (first xs i)
  pub kind_2 : kind xs i ≡ 2 → at_row xs i ≡ added (at_row xs (first xs i)) (at_row xs (second xs i))
  pub kind_3 : kind xs i ≡ 3 → at_row xs i ≡ times (at_row xs (first xs i)) (at_row xs (second xs i))
  pub kind_4 : kind xs i ≡ 4 → at_row xs i ≡ less (at_row xs (first xs i)) (at_row xs (second xs i))
  pub kind_5 : kind xs i ≡ 5 → at_row xs i ≡ set (first xs i) (at_row xs (second xs i))
  pub kind_6 : kind xs i ≡ 6 → at_row xs i ≡ after (at_row xs (first xs i)) (at_row xs (second xs i))
  pub kind_7 : kind xs i ≡ 7 → at_row xs i ≡ if_not_nought (at_row xs (first xs i)) (at_row xs (second xs i)) (at_row xs (third xs i))
  pub kind_8 : kind xs i ≡ 8 → at_row xs i ≡ again (first xs i) (at_row xs (second xs i)) (at_row xs (third xs i))

abbrev pub RowsStandForPrograms : Type 0
RowsStandForPrograms = (xs : List ℕ) → Valid xs → ((i : ℕ) → i < row_count xs → Equations xs i) × (program_in xs ≡ at_row xs (row_count xs - 1))

-- what the rows stand for that a row reaches is exactly what stands in the row's program
abbrev pub ReachIsMembership : Type 0
ReachIsMembership =
    (xs : List ℕ) (i : ℕ) (q : Program) → Valid xs → i < row_count xs →
    (Within q (at_row xs i) → (k : ℕ) × Reaches xs k i × (at_row xs k ≡ q)) × ((k : ℕ) → Reaches xs k i → at_row xs k ≡ q → Within q (at_row xs i))

-- `reached` tells what the last row reaches
abbrev pub ReachedIsReach : Type 0
ReachedIsReach = (xs : List ℕ) (k : ℕ) → Valid xs → Decides (reached xs k) (Reaches xs k (row_count xs - 1))

-- rows that the last row doesn't reach, and numbers that a row doesn't need, are of no matter
abbrev pub OnlyReachedRows : Type 0
OnlyReachedRows = (xs ys : List ℕ) → Valid xs → Valid ys → row_count ys ≡ row_count xs → ((k : ℕ) → Reaches xs k (row_count xs - 1) → row_in ys k ≡ row_in xs k) → program_in ys ≡ program_in xs

-- the program names a place exactly if a reached row names it by itself
abbrev pub NamesWhatIsReached : Type 0
NamesWhatIsReached =
    (xs : List ℕ) (p : ℕ) → Valid xs → Decides (names p (program_in xs)) ((k : ℕ) × Reaches xs k (row_count xs - 1) × (own_place (row_in xs k) ≡ Some p))

-- the program fits so many places exactly if each place that a reached row names by itself is one of them
abbrev pub FitsWhatIsReached : Type 0
FitsWhatIsReached =
    (xs : List ℕ) (n : ℕ) → Valid xs → Decides (fits n (program_in xs)) ((k p : ℕ) → Reaches xs k (row_count xs - 1) → own_place (row_in xs k) ≡ Some p → p < n)

-- where a row's program fits so many places, so do the programs at the rows that it names, and the place that it names by itself is there
abbrev pub FitsRowByRow : Type 0
FitsRowByRow =
    (xs : List ℕ) (n i : ℕ) → Valid xs → i < row_count xs → fits n (at_row xs i) ≡ true →
    AllByRecursion (λ j. fits n (at_row xs j) ≡ true) (named (row_in xs i)) × There n (row_in xs i)

-- number 1 is answered of just the numbers that aren't valid
abbrev pub ValidIfUnrefused : Type 0
ValidIfUnrefused = (xs : List ℕ) → (rows_refusal xs ≡ None → Valid xs) × (Valid xs → rows_refusal xs ≡ None)

-- the refusal that is answered has the number that the rules give
abbrev pub AnsweredByNumber : Type 0
AnsweredByNumber = (xs : List ℕ) (n : ℕ) → answered (program_refusal xs n) ≡ refusal_number xs n

-- of numbers out of shape, a refusal says the row that is cut short, or 0 where there is none, or 256 where there are too many
abbrev pub UnshapedRow : Type 0
UnshapedRow =
    (xs : List ℕ) (r : Refusal) → shaped xs ≡ false → rows_refusal xs ≡ Some r →
    place_of r ≡ cond (length xs == 4 * row_count xs) (cond (row_count xs == 0) 0 256) (row_count xs)

-- of rows in shape, the row that a refusal says is the lowest that is wrong
abbrev pub LowestRow : Type 0
LowestRow =
    (xs : List ℕ) (r : Refusal) → shaped xs ≡ true → rows_refusal xs ≡ Some r →
    (place_of r < row_count xs) × (rows_ok xs (place_of r) ≡ true) × (row_ok xs (place_of r) ≡ false)

-- row k is the lowest that the last row reaches and that names a place p which isn't among n
pub record LowestAbsent (xs : List ℕ) (n k p : ℕ) : Type 0 where
  pub reaches : Reaches xs k (row_count xs - 1)
  pub own : own_place (row_in xs k) ≡ Some p
  pub missing : n ≤ p
  pub lowest : (j q : ℕ) → j < k → Reaches xs j (row_count xs - 1) → own_place (row_in xs j) ≡ Some q → q < n

-- a program that doesn't fit is refused for the place of that row; one that fits, only for too many places
abbrev pub LowestPlace : Type 0
LowestPlace =
    (xs : List ℕ) (n : ℕ) → Valid xs →
    (fits n (program_in xs) ≡ false → (k : ℕ) × (p : ℕ) × (places_refusal xs n ≡ Some (NoSuchPlace k p n)) × LowestAbsent xs n k p) ×
    (fits n (program_in xs) ≡ true → places_refusal xs n ≡ count_refusal n)
