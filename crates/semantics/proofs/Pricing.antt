-- Prices: at least 1, and above what each part costs. Assumes nothing.
use Rattle.std.proofs.Common.{◌≡◌, ℕ, zero, suc, ◌+◌, ◌<◌, ◌≤◌, max, cond, leb, ap, arith}
use Rattle.std.proofs.lemmas.Bool.{leb-true, leb-false, cond_both}
use Rattle.std.specs.List.{AllByRecursion}
use Rattle.semantics.specs.Program.{Program, constant, place, added, times, less, set, after, if_not_nought, again}
use Rattle.semantics.specs.Price.{at_most, runnable_parts}

-- the larger of two numbers, by a test
larger : (a b : ℕ) → max a b ≡ cond (leb a b) b a
larger a b = cond_both (leb a b) b a (λ n. max a b ≡ n) (λ e. omega (arith, leb-true a b e)) (λ e. omega (arith, leb-false a b e))

pub price_of_choice : (p q r : Program) → at_most (if_not_nought p q r) ≡ 1 + (at_most p + cond (leb (at_most q) (at_most r)) (at_most r) (at_most q))
unfolding at_most
price_of_choice p q r = ap (λ n. 1 + (at_most p + n)) (larger (at_most q) (at_most r))

pub price_above_nothing : (p : Program) → 1 ≤ at_most p
unfolding at_most
price_above_nothing (constant n) = omega arith
price_above_nothing (place i) = omega arith
price_above_nothing (added p q) = omega arith
price_above_nothing (times p q) = omega arith
price_above_nothing (less p q) = omega arith
price_above_nothing (set i p) = omega arith
price_above_nothing (after p q) = omega arith
price_above_nothing (if_not_nought p q r) = omega arith
price_above_nothing (again l p q) = omega arith

pub price_above_parts : (p : Program) → AllByRecursion (λ q. at_most q < at_most p) (runnable_parts p)
unfolding at_most
price_above_parts (constant n) = tt
price_above_parts (place i) = tt
price_above_parts (added p q) = omega arith
price_above_parts (times p q) = omega arith
price_above_parts (less p q) = omega arith
price_above_parts (set i p) = omega arith
price_above_parts (after p q) = omega arith
price_above_parts (if_not_nought p q r) = omega arith
price_above_parts (again zero p q) = omega arith
price_above_parts (again (suc l) p q) = omega arith
