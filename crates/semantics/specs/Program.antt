-- Programs as trees, and the places that they name. What a reader must believe; docs/RULES.md says it in words. Assumes nothing.
use Rattle.std.specs.Prelude.{◌≡◌, ℕ, Bool, true, false, ◌&&◌, ◌||◌, List, [], ◌∷◌, ◌==◌, nat_lt}
use mathlib.Core.List.{Memᴰ}

-- a program, an expression that reads and writes numbered places (memory cells)
pub data Program : Type 0 where
  -- a number
  constant : ℕ → Program
  -- the number at a place
  place : ℕ → Program
  -- two programs, the first run first: their sum, their product, or 1 where the first is less and 0 where it isn't
  added : Program → Program → Program
  times : Program → Program → Program
  less : Program → Program → Program
  -- a program whose number is put at a place
  set : ℕ → Program → Program
  -- one program and then another
  after : Program → Program → Program
  -- a condition, what is run where it isn't 0, and what is run where it is
  if_not_nought : Program → Program → Program → Program
  -- a program that counts, and one that is run so often, but no more often than the limit
  again : (limit : ℕ) → Program → Program → Program

-- the number at each place
abbrev pub Places : Type 0
Places = ℕ → ℕ

-- each place that a program looks at or sets is below a number
unfoldable pub fits : ℕ → Program → Bool
fits n (constant k) = true
fits n (place i) = nat_lt i n
fits n (added p q) = fits n p && fits n q
fits n (times p q) = fits n p && fits n q
fits n (less p q) = fits n p && fits n q
fits n (set i p) = nat_lt i n && fits n p
fits n (after p q) = fits n p && fits n q
fits n (if_not_nought p q r) = fits n p && (fits n q && fits n r)
fits n (again l p q) = fits n p && fits n q

-- a program looks at a place or sets it
unfoldable pub names : ℕ → Program → Bool
names i (constant k) = false
names i (place j) = i == j
names i (added p q) = names i p || names i q
names i (times p q) = names i p || names i q
names i (less p q) = names i p || names i q
names i (set j p) = i == j || names i p
names i (after p q) = names i p || names i q
names i (if_not_nought p q r) = names i p || (names i q || names i r)
names i (again l p q) = names i p || names i q

-- the programs that a program is made of, in its own order
unfoldable pub parts : Program → List Program
parts (constant k) = []
parts (place i) = []
parts (added p q) = p ∷ q ∷ []
parts (times p q) = p ∷ q ∷ []
parts (less p q) = p ∷ q ∷ []
parts (set i p) = p ∷ []
parts (after p q) = p ∷ q ∷ []
parts (if_not_nought p q r) = p ∷ q ∷ r ∷ []
parts (again l p q) = p ∷ q ∷ []

-- q stands somewhere in p: it is p, or stands in a part of p
pub data Within (q : Program) : Program → Type 0 where
  whole : {p : Program} → q ≡ p → Within q p
  inside : {p : Program} (part : Program) → Memᴰ part (parts p) → Within q part → Within q p
