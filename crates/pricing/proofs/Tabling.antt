-- The pass over the rows: one row more is priced. Assumes nothing.
use Rattle.std.proofs.Common.{◌≡◌, ℕ, ◌+◌, ◌<◌, ◌≤◌, cond, ltb, List, length, get_or, set, replicate, sym, ap, ◌∙◌, subst, ⊎_elim, arith, get_or-set_other, get_or-set_same}
use Rattle.std.proofs.ByRecursion.{All-weaker}
use Rattle.std.proofs.lemmas.Bool.{cond_both, cond-true, cond-false, lt-ltb, le-ltb, cases_eq}
use Rattle.std.proofs.lemmas.Bool.Decides.{nat_tests}
use Rattle.semantics.specs.Price.{at_most}
use Rattle.program.specs.Row.{named}
use Rattle.program.specs.Rows.{at_row}
use Rattle.program.specs.Reads.{Reads}
use Rattle.program.specs.declared.row.Row.{Row}
use Rattle.program.proofs.Tables.{blank}
use Rattle.pricing.specs.Table.{cap, capped, price_of, Priced}
use Rattle.pricing.proofs.Capping.{capped_row, price_of_row}

-- before the pass
pub none_priced : (xs : List ℕ) → Priced xs 0 (replicate 256 0)
none_priced xs i = blank 256 0 i ∙ sym (cond-false (ltb i 0) _ 0 (le-ltb i 0 (omega arith)))

-- no price in the table is above the cap
pub below_cap : (xs : List ℕ) (n : ℕ) (t : List ℕ) → Priced xs n t → (j : ℕ) → get_or t j 0 ≤ cap
below_cap xs n t h j = subst (λ (x : ℕ). x ≤ cap) (sym (h j)) (cond_both (ltb j n) (capped (at_most (at_row xs j))) 0 (λ x. x ≤ cap) (λ e. omega arith) (λ e. omega arith))

-- what the table holds of a priced row
pub priced_at : (xs : List ℕ) (n : ℕ) (t : List ℕ) → Priced xs n t → (j : ℕ) → j < n → get_or t j 0 ≡ capped (at_most (at_row xs j))
priced_at xs n t h j l = h j ∙ cond-true (ltb j n) _ 0 (lt-ltb j n l)

-- a row's price by the table is that of its program
row_priced : (xs : List ℕ) (i : ℕ) (t : List ℕ) (r : Row) → Priced xs i t → Reads xs i r → capped (price_of (λ j. get_or t j 0) r) ≡ capped (at_most (at_row xs i))
row_priced xs i t r h known =
    capped_row (λ j. get_or t j 0) (λ j. at_most (at_row xs j)) r (All-weaker (λ j. j < i) (λ j. get_or t j 0 ≡ capped (at_most (at_row xs j))) (priced_at xs i t h) (named r) known.earlier)
    ∙ ap capped (sym (price_of_row (at_row xs) r) ∙ ap at_most (sym known.program))

-- a row that isn't this one is below it or above it
same_side : (i j : ℕ) → (j ≡ i → ⊥) → ltb j i ≡ ltb j (i + 1)
same_side i j ne = grind (arith, nat_tests)

-- one row more
pub priced_more : (xs : List ℕ) (i : ℕ) (t : List ℕ) (r : Row) (price : ℕ) → Priced xs i t → i < length t → Reads xs i r → price ≡ capped (price_of (λ j. get_or t j 0) r) → Priced xs (i + 1) (set t i price)
priced_more xs i t r price h l known is j =
    ⊎_elim (λ (e : j ≡ i).
    ap (λ k. get_or (set t i price) k 0) e ∙ get_or-set_same t i price 0 l ∙ is ∙ row_priced xs i t r h known
    ∙ ap (λ k. capped (at_most (at_row xs k))) (sym e) ∙ sym (cond-true (ltb j (i + 1)) _ 0 (lt-ltb j (i + 1) (omega arith))))
    (λ ne. get_or-set_other t i j price 0 ne ∙ h j ∙ ap (λ b. cond b (capped (at_most (at_row xs j))) 0) (same_side i j ne))
    (cases_eq j i)

-- the table before the pass, and that no price in it is above the cap
pub ruleset passes = (none_priced, below_cap)
