-- The program at a row: the depth doesn't matter, and a row stands for what the rows that it names stand for. Assumes nothing.
use Rattle.std.proofs.Common.{◌≡◌, ℕ, zero, suc, ◌-◌, ◌<◌, true, List, sym, refl, ap, ◌∙◌, subst, arith}
use Rattle.std.specs.List.{AllByRecursion}
use Rattle.std.proofs.ByRecursion.{All-weaker}
use Rattle.semantics.specs.Program.{Program, added, times, less, set, after, if_not_nought, again}
use Rattle.program.specs.Row.{decoded, named, kind, first, second, third, row_in}
use Rattle.program.specs.Rows.{row_count, rows_ok, program_at, program_in, program_of, at_row, Valid}
use Rattle.program.specs.Reads.{Reads}
use Rattle.program.specs.Laws.{Equations}
use Rattle.program.specs.declared.row.Row.{Row}
use Rattle.program.specs.declared.row.Row.TheVariants.{Constant, Place, Add, Multiply, Less, Store, Sequence, Choice, Loop}
use Rattle.program.proofs.ByKind.{row_of_is, row_of_kind}
use Rattle.program.proofs.Earlier.{names_earlier}
use Rattle.program.proofs.Shape.{Shape, shape_of}

-- a row's program looks at the rows that it names and at no others
pub program_of_same : (m n : ℕ → Program) (r : Row) → AllByRecursion (λ j. m j ≡ n j) (named r) → program_of m r ≡ program_of n r
program_of_same m n (Constant value) h = refl
program_of_same m n (Place i) h = refl
program_of_same m n (Add left right) h = λ t. added (h.0 t) (h.1.0 t)
program_of_same m n (Multiply left right) h = λ t. times (h.0 t) (h.1.0 t)
program_of_same m n (Less left right) h = λ t. less (h.0 t) (h.1.0 t)
program_of_same m n (Store i value) h = λ t. set i (h.0 t)
program_of_same m n (Sequence one two) h = λ t. after (h.0 t) (h.1.0 t)
program_of_same m n (Choice condition then otherwise) h = λ t. if_not_nought (h.0 t) (h.1.0 t) (h.1.1.0 t)
program_of_same m n (Loop limit count body) h = λ t. again limit (h.0 t) (h.1.0 t)

-- one step of reading
program_at_step : (xs : List ℕ) (f i : ℕ) → program_at xs (suc f) i ≡ program_of (program_at xs f) (row_in xs i)
unfolding program_at
program_at_step xs f i = row_of_is (program_at xs f) _ _ _ _

-- two depths that exceed the row's number read the same
same_depth : (xs : List ℕ) (n f g i : ℕ) → rows_ok xs n ≡ true → i < n → i < f → i < g → program_at xs f i ≡ program_at xs g i
same_depth xs n zero g i ok l h k = absurd (omega arith)
same_depth xs n (suc f) zero i ok l h k = absurd (omega arith)
same_depth xs n (suc f) (suc g) i ok l h k =
    program_at_step xs f i
    ∙ program_of_same (program_at xs f) (program_at xs g) (row_in xs i)
    (All-weaker (λ j. j < i) (λ j. program_at xs f j ≡ program_at xs g j) (λ j e. same_depth xs n f g j ok (omega arith) (omega arith) (omega arith)) _ (names_earlier xs n i ok l))
    ∙ sym (program_at_step xs g i)

pub depth_does_not_matter : (xs : List ℕ) (n depth i : ℕ) → rows_ok xs n ≡ true → i < n → i < depth → program_at xs depth i ≡ at_row xs i
unfolding at_row
depth_does_not_matter xs n depth i ok l h = same_depth xs n depth (suc i) i ok l h (omega arith)

-- a row stands for the program of what it names
pub at_row_is : (xs : List ℕ) (n i : ℕ) → rows_ok xs n ≡ true → i < n → at_row xs i ≡ program_of (at_row xs) (row_in xs i)
unfolding at_row
at_row_is xs n i ok l =
    program_at_step xs i i
    ∙ program_of_same (program_at xs i) (at_row xs) (row_in xs i)
    (All-weaker (λ j. j < i) (λ j. program_at xs i j ≡ at_row xs j) (λ j e. depth_does_not_matter xs n i j ok (omega arith) e) _ (names_earlier xs n i ok l))

-- the last row is the program
pub program_in_is : (xs : List ℕ) → Valid xs → program_in xs ≡ at_row xs (row_count xs - 1)
unfolding program_in
program_in_is xs v = let s : Shape xs = shape_of xs v.shape in depth_does_not_matter xs (row_count xs) (row_count xs) (row_count xs - 1) v.order (omega arith) (omega arith)

-- a row of a known kind
of_kind : (xs : List ℕ) (n i k : ℕ) → rows_ok xs n ≡ true → i < n → kind xs i ≡ k → at_row xs i ≡ program_of (at_row xs) (decoded k (first xs i) (second xs i) (third xs i))
of_kind xs n i k ok l e = at_row_is xs n i ok l ∙ ap (program_of (at_row xs)) (sym (row_of_kind xs i k e))

pub equations : (xs : List ℕ) (n i : ℕ) → rows_ok xs n ≡ true → i < n → Equations xs i
unfolding decoded
equations xs n i ok l =
    record {
      kind_0 = of_kind xs n i 0 ok l;
      kind_1 = of_kind xs n i 1 ok l;
      kind_2 = of_kind xs n i 2 ok l;
      kind_3 = of_kind xs n i 3 ok l;
      kind_4 = of_kind xs n i 4 ok l;
      kind_5 = of_kind xs n i 5 ok l;
      kind_6 = of_kind xs n i 6 ok l;
      kind_7 = of_kind xs n i 7 ok l;
      kind_8 = of_kind xs n i 8 ok l;
    }

-- what is known of a row that is read
pub read_row : (xs : List ℕ) (i : ℕ) (r : Row) → rows_ok xs (row_count xs) ≡ true → i < row_count xs → r ≡ row_in xs i → Reads xs i r
read_row xs i r ok l e =
    record {
      row = e;
      earlier = subst (λ (r : Row). AllByRecursion (λ j. j < i) (named r)) (sym e) (names_earlier xs (row_count xs) i ok l);
      program = at_row_is xs (row_count xs) i ok l ∙ ap (program_of (at_row xs)) (sym e);
    }
