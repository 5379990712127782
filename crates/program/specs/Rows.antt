-- Programs in rows: which numbers are one, and which program they stand for. Assumes nothing.
use Rattle.std.specs.Prelude.{◌≡◌, ℕ, zero, suc, ◌-◌, ◌*◌, ◌/◌, Bool, true, cond, ◌&&◌, List, length, ◌==◌, nat_le, nat_lt}
use Rattle.semantics.specs.Program.{Program, constant, place, added, times, less, set, after, if_not_nought, again}
use Rattle.program.specs.Row.{kind, first, second, third, by_kind}
use Rattle.program.specs.declared.row.Row.{Row}
use Rattle.program.specs.declared.row.Row.TheVariants.{Constant, Place, Add, Multiply, Less, Store, Sequence, Choice, Loop}

-- how many rows so many numbers are
abbrev pub row_count : List ℕ → ℕ
row_count xs = length xs / 4

-- the same, counted by fours
unfoldable pub by_fours : ℕ → ℕ
by_fours zero = 0
by_fours (suc zero) = 0
by_fours (suc (suc zero)) = 0
by_fours (suc (suc (suc zero))) = 0
by_fours (suc (suc (suc (suc n)))) = suc (by_fours n)

-- the program of a row, over the programs of the rows that it names. 0 a number; 1 a place; 2, 3, 4 two rows added, multiplied,
-- compared; 5 a place and a row; 6 two rows, one after the other; 7 three rows; 8 a limit and two rows
unfoldable pub row_of : (ℕ → Program) → (k a b c : ℕ) → Program
row_of n k a b c =
    by_kind k (constant a) (place a) (added (n a) (n b)) (times (n a) (n b)) (less (n a) (n b))
    (set a (n b)) (after (n a) (n b)) (if_not_nought (n a) (n b) (n c)) (again a (n b) (n c))

-- the program that row i stands for, down to so many rows deep; a row that is named twice stands for its program each time
unfoldable pub program_at : List ℕ → (fuel : ℕ) → ℕ → Program
program_at xs zero i = constant 0
program_at xs (suc f) i = row_of (program_at xs f) (kind xs i) (first xs i) (second xs i) (third xs i)

-- the last row is the program
unfoldable pub program_in : List ℕ → Program
program_in xs = program_at xs (row_count xs) (row_count xs - 1)

-- the numbers of row i are right: its kind is 8 at most, and the rows that a row of that kind names are earlier
unfoldable pub numbers_ok : (i k a b c : ℕ) → Bool
numbers_ok i k a b c =
    cond (nat_le k 1) true
    (cond (k == 5) (nat_lt b i)
    (cond (k == 8) (nat_lt b i && nat_lt c i)
    (cond (k == 7) (nat_lt a i && (nat_lt b i && nat_lt c i))
    (nat_le k 8 && (nat_lt a i && nat_lt b i)))))

-- row i is right: its kind is 8 at most, and it names earlier rows only
unfoldable pub row_ok : List ℕ → ℕ → Bool
row_ok xs i = numbers_ok i (kind xs i) (first xs i) (second xs i) (third xs i)

-- each of the first so many rows is right
unfoldable pub rows_ok : List ℕ → ℕ → Bool
rows_ok xs zero = true
rows_ok xs (suc i) = row_ok xs i && rows_ok xs i

-- 1 to 256 rows of four numbers
unfoldable pub shaped : List ℕ → Bool
shaped xs = length xs == 4 * row_count xs && (nat_le 1 (row_count xs) && nat_le (row_count xs) 256)

-- validation takes the rows
pub record Valid (xs : List ℕ) : Type 0 where
  pub shape : shaped xs ≡ true
  pub order : rows_ok xs (row_count xs) ≡ true

-- the program that row i stands for, however deep it is
unfoldable pub at_row : List ℕ → ℕ → Program
at_row xs i = program_at xs (suc i) i

-- the program of a row that is read, over the programs of the rows that it names
abbrev pub program_of : (ℕ → Program) → Row → Program
program_of n (Constant value) = constant value
program_of n (Place i) = place i
program_of n (Add left right) = added (n left) (n right)
program_of n (Multiply left right) = times (n left) (n right)
program_of n (Less left right) = less (n left) (n right)
program_of n (Store i value) = set i (n value)
program_of n (Sequence one two) = after (n one) (n two)
program_of n (Choice condition then otherwise) = if_not_nought (n condition) (n then) (n otherwise)
program_of n (Loop limit count body) = again limit (n count) (n body)
