-- The cap loses nothing: prices that are cut off there give the row above them the same price, cut off there. Assumes nothing.
use Rattle.std.proofs.Common.{◌≡◌, ℕ, zero, suc, ◌+◌, ◌*◌, ◌<◌, ◌≤◌, List, refl, ap, ◌∙◌, ⊎_elim, arith}
use Rattle.std.proofs.lemmas.Bool.{cases_lt}
use Rattle.std.specs.List.{AllByRecursion}
use Rattle.semantics.specs.Program.{Program}
use Rattle.semantics.specs.Price.{at_most}
use Rattle.semantics.proofs.Members.{all_from_members}
use Rattle.program.specs.Row.{named, row_in}
use Rattle.program.specs.Rows.{row_count, program_of, at_row, Valid}
use Rattle.program.proofs.Programs.{at_row_is}
use Rattle.program.specs.declared.row.Row.{Row}
use Rattle.program.specs.declared.row.Row.TheVariants.{Constant, Place, Add, Multiply, Less, Store, Sequence, Choice, Loop}
use Rattle.pricing.specs.Table.{cap, capped, price_of}

-- two parts, of which each is capped or not
two : (a b c d : ℕ) → a ≡ capped c → b ≡ capped d → capped (1 + (a + b)) ≡ capped (1 + (c + d))
two a b c d e f = omega arith

-- something is added to one part, which is capped or not
add_capped : (n a c : ℕ) → a ≡ capped c → capped (1 + (a + n)) ≡ capped (1 + (c + n))
add_capped n a c e = omega arith

-- a loop that is never run asks nothing of its body; one that is run is above the cap where its body is
loop : (l a b c d : ℕ) → a ≡ capped c → b ≡ capped d → capped (1 + (a + l * (1 + b))) ≡ capped (1 + (c + l * (1 + d)))
loop zero a b c d e f = omega arith
loop (suc l) a b c d e f = ⊎_elim (λ (above : cap < d). omega arith) (λ (below : d ≤ cap). let same : b ≡ d = omega arith in ap (λ n. capped (1 + (a + suc l * (1 + n)))) same ∙ add_capped (suc l * (1 + d)) a c e) (cases_lt cap d)

-- the price of a row by capped prices of the rows that it names
pub capped_row : (f g : ℕ → ℕ) (r : Row) → AllByRecursion (λ j. f j ≡ capped (g j)) (named r) → capped (price_of f r) ≡ capped (price_of g r)
capped_row f g (Constant value) h = refl
capped_row f g (Place i) h = refl
capped_row f g (Add left right) h = two (f left) (f right) (g left) (g right) h.0 h.1.0
capped_row f g (Multiply left right) h = two (f left) (f right) (g left) (g right) h.0 h.1.0
capped_row f g (Less left right) h = two (f left) (f right) (g left) (g right) h.0 h.1.0
capped_row f g (Store i value) h = omega (arith, h.0)
capped_row f g (Sequence first second) h = two (f first) (f second) (g first) (g second) h.0 h.1.0
capped_row f g (Choice condition then otherwise) h = omega (arith, h.0, h.1.0, h.1.1.0)
capped_row f g (Loop limit count body) h = loop limit (f count) (f body) (g count) (g body) h.0 h.1.0

-- the price of a row is the price of its program
pub price_of_row : (m : ℕ → Program) (r : Row) → at_most (program_of m r) ≡ price_of (λ j. at_most (m j)) r
unfolding at_most
price_of_row m (Constant value) = refl
price_of_row m (Place i) = refl
price_of_row m (Add left right) = refl
price_of_row m (Multiply left right) = refl
price_of_row m (Less left right) = refl
price_of_row m (Store i value) = refl
price_of_row m (Sequence one two) = refl
price_of_row m (Choice condition then otherwise) = refl
price_of_row m (Loop limit count body) = refl

-- a row that is read in a valid program
pub priced_by_rows : (xs : List ℕ) (i : ℕ) → Valid xs → i < row_count xs → at_most (at_row xs i) ≡ price_of (λ j. at_most (at_row xs j)) (row_in xs i)
priced_by_rows xs i v l = ap at_most (at_row_is xs (row_count xs) i v.order l) ∙ price_of_row (at_row xs) (row_in xs i)

pub sharing_is_priced : (xs : List ℕ) (i j : ℕ) → Valid xs → i < row_count xs → row_in xs i ≡ Add j j → at_most (at_row xs i) ≡ 1 + 2 * at_most (at_row xs j)
sharing_is_priced xs i j v l e = priced_by_rows xs i v l ∙ ap (price_of (λ j. at_most (at_row xs j))) e ∙ omega arith

pub cap_loses_nothing : (f : ℕ → ℕ) (r : Row) → capped (price_of (λ j. capped (f j)) r) ≡ capped (price_of f r)
cap_loses_nothing f r = capped_row (λ j. capped (f j)) f r (all_from_members (λ j. capped (f j) ≡ capped (f j)) (named r) (λ j m. refl))
