-- Which refusal a program in rows and a count of places get: the first that applies, by number and then by row. Assumes nothing.
use Rattle.std.specs.Prelude.{◌≡◌, ℕ, zero, suc, ◌*◌, Bool, cond, ◌&&◌, List, [], ◌∷◌, length, Some, None, Ok, Err, Option, Result, MatchResult, ◌==◌, nat_le, nat_lt}
use Rattle.std.specs.Option.{option_map, option_or}
use Rattle.semantics.specs.Program.{fits}
use Rattle.program.specs.Row.{kind, row_in, named, own_place}
use Rattle.program.specs.Rows.{row_count, rows_ok, program_in}
use Rattle.program.specs.Reach.{reached}
use Rattle.program.specs.Refusal.{number_of}
use Rattle.program.specs.declared.refusal.Refusal.{Refusal}
use Rattle.program.specs.declared.refusal.Refusal.TheVariants.{CutShort, NoRows, TooManyRows, UnknownKind, NotEarlier, NoSuchPlace, TooManyPlaces}

-- the numbers are 1 to 256 rows of four, none of a kind above 8, that name earlier rows only
unfoldable pub rows_taken : List ℕ → Bool
rows_taken xs = length xs == 4 * row_count xs && (nat_le 1 (row_count xs) && (nat_le (row_count xs) 256 && rows_ok xs (row_count xs)))

-- there are 1,024 places at most, and each that the program names is one of them
unfoldable pub places_taken : List ℕ → (places : ℕ) → Bool
places_taken xs n = fits n (program_in xs) && nat_le n 1024

-- the number of the first refusal that applies, and 0 where none does
unfoldable pub refusal_number : List ℕ → (places : ℕ) → ℕ
refusal_number xs n = cond (rows_taken xs) (cond (places_taken xs n) 0 2) 1

-- the number of what is answered
abbrev pub answered : Option Refusal → ℕ
answered None = 0
answered (Some r) = number_of r

-- what is answered, unless there is a refusal
abbrev pub unless : {A : Type 0} → Option Refusal → A → Result A Refusal
unless None answer = Ok answer
unless (Some r) answer = Err r

-- what validation answers, by the refusal that applies: a value that P holds of where there is none, else that refusal
abbrev pub Validates : {A : Type 0} → Option Refusal → Result A Refusal → (A → Type 0) → Type 0
Validates o r P = MatchResult r (λ x. (o ≡ None) × P x) (λ e. o ≡ Some e)

-- what is said first, of so many rows from row 0 up
unfoldable pub first_said : (ℕ → Option Refusal) → ℕ → Option Refusal
first_said f zero = None
first_said f (suc i) = option_or (first_said f i) (f i)

-- the first of some rows that isn't earlier than row i
abbrev pub first_not_earlier : ℕ → List ℕ → Option ℕ
first_not_earlier i [] = None
first_not_earlier i (j ∷ js) = cond (nat_lt j i) (first_not_earlier i js) (Some j)

-- row i is of a kind above 8
abbrev pub kind_refusal : (i kind : ℕ) → Option Refusal
kind_refusal i k = cond (nat_le k 8) None (Some (UnknownKind i k 8))

-- row i names a row that isn't earlier: the first that it names
abbrev pub order_refusal : ℕ → (named : List ℕ) → Option Refusal
order_refusal i js = option_map (NotEarlier i) (first_not_earlier i js)

-- of row i: its kind, or else the rows that it names
unfoldable pub row_refusal : List ℕ → ℕ → Option Refusal
row_refusal xs i = option_or (kind_refusal i (kind xs i)) (order_refusal i (named (row_in xs i)))

-- so many numbers aren't 1 to 256 rows of four: one is cut short, there is none, or there are too many
abbrev pub shape_refusal : (count rows : ℕ) → Option Refusal
shape_refusal n r = cond (n == 4 * r) (cond (r == 0) (Some NoRows) (cond (nat_le r 256) None (Some (TooManyRows r 256)))) (Some (CutShort r n))

-- number 1: the shape, or else the lowest row that is wrong
abbrev pub rows_refusal : List ℕ → Option Refusal
rows_refusal xs = option_or (shape_refusal (length xs) (row_count xs)) (first_said (row_refusal xs) (row_count xs))

-- row i names a place that isn't among n
abbrev pub absent : (n i : ℕ) → Option ℕ → Option Refusal
absent n i None = None
absent n i (Some p) = cond (nat_lt p n) None (Some (NoSuchPlace i p n))

-- of row i, if the last row reaches it: a place that it names and that isn't there
unfoldable pub row_place_refusal : List ℕ → (places : ℕ) → ℕ → Option Refusal
row_place_refusal xs n i = cond (reached xs i) (absent n i (own_place (row_in xs i))) None

-- there are too many places
abbrev pub count_refusal : (places : ℕ) → Option Refusal
count_refusal n = cond (nat_le n 1024) None (Some (TooManyPlaces n 1024))

-- number 2: the place that the lowest such row names, or else the count
abbrev pub places_refusal : List ℕ → (places : ℕ) → Option Refusal
places_refusal xs n = option_or (first_said (row_place_refusal xs n) (row_count xs)) (count_refusal n)

-- the first refusal of a program in rows and so many places
abbrev pub program_refusal : List ℕ → (places : ℕ) → Option Refusal
program_refusal xs n = option_or (rows_refusal xs) (places_refusal xs n)
