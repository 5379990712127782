-- Which rows a row reaches: itself, and what the rows that it names reach. Assumes nothing.
use Rattle.std.specs.Prelude.{◌≡◌, ℕ, zero, suc, ◌-◌, Bool, true, false, ◌||◌, List, [], ◌∷◌, ◌==◌, slice_set}
use mathlib.Core.List.{Memᴰ}
use Rattle.program.specs.Row.{row_in, named}
use Rattle.program.specs.Rows.{row_count}

-- row i reaches row k
pub data Reaches (xs : List ℕ) (k : ℕ) : ℕ → Type 0 where
  itself : {i : ℕ} → k ≡ i → Reaches xs k i
  through : {i : ℕ} (j : ℕ) → Memᴰ j (named (row_in xs i)) → Reaches xs k j → Reaches xs k i

-- one of a list passes a test
abbrev pub any : (ℕ → Bool) → List ℕ → Bool
any f [] = false
any f (j ∷ js) = f j || any f js

-- the same as a test: row i reaches row k by so many steps at most
unfoldable pub reaches_by : List ℕ → (steps : ℕ) → (i k : ℕ) → Bool
reaches_by xs zero i k = k == i
reaches_by xs (suc s) i k = k == i || any (λ j. reaches_by xs s j k) (named (row_in xs i))

-- the last row reaches row k; no chain of earlier rows has more steps than there are rows
unfoldable pub reached : List ℕ → ℕ → Bool
reached xs k = reaches_by xs (row_count xs) (row_count xs - 1) k

-- a table of rows with some of them marked
abbrev pub marked : List Bool → List ℕ → List Bool
marked t [] = t
marked t (j ∷ js) = marked (slice_set t j true) js
