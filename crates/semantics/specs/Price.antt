-- The price: what a program costs at most, by its text alone. Assumes nothing.
use Rattle.std.specs.Prelude.{ℕ, zero, suc, ◌+◌, ◌*◌, max, List, [], ◌∷◌}
use Rattle.semantics.specs.Program.{Program, constant, place, added, times, less, set, after, if_not_nought, again}

-- 1 for the step itself, and what its parts cost: of a choice the dearer arm, and of a loop all its times, 1 more for each
unfoldable pub at_most : Program → ℕ
at_most (constant n) = 1
at_most (place i) = 1
at_most (added p q) = 1 + (at_most p + at_most q)
at_most (times p q) = 1 + (at_most p + at_most q)
at_most (less p q) = 1 + (at_most p + at_most q)
at_most (set i p) = 1 + at_most p
at_most (after p q) = 1 + (at_most p + at_most q)
at_most (if_not_nought p q r) = 1 + (at_most p + max (at_most q) (at_most r))
at_most (again l p q) = 1 + (at_most p + l * (1 + at_most q))

-- the parts that a program may run: all of them, but for the body of a loop whose limit is 0
abbrev pub runnable_parts : Program → List Program
runnable_parts (constant k) = []
runnable_parts (place i) = []
runnable_parts (added p q) = p ∷ q ∷ []
runnable_parts (times p q) = p ∷ q ∷ []
runnable_parts (less p q) = p ∷ q ∷ []
runnable_parts (set i p) = p ∷ []
runnable_parts (after p q) = p ∷ q ∷ []
runnable_parts (if_not_nought p q r) = p ∷ q ∷ r ∷ []
runnable_parts (again zero p q) = p ∷ []
runnable_parts (again (suc l) p q) = p ∷ q ∷ []
