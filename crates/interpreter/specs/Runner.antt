-- Lent places as the places of a run, and what the runner answers as an answer of a run. Assumes nothing.
use Rattle.std.specs.Prelude.{◌≡◌, ℕ, ◌+◌, ◌<◌, List, Some, None, Option, slice_index}
use Rattle.semantics.specs.Program.{Program, Places}
use Rattle.semantics.specs.Run.{Run, came, too_small, then_run, run}

-- the number at each place, of places that are lent as a list; 0 behind the last
unfoldable pub places_in : List ℕ → Places
places_in s i = slice_index s i

-- what the runner answers, with the places and the purse that it leaves
abbrev pub as_run : Option ℕ → (places : List ℕ) → (left : ℕ) → Run
as_run (Some x) s h = came x (places_in s) h
as_run None s h = too_small

-- two programs run one after the other, and the number that f makes of the two that they come to
unfoldable pub run_pair : (f : ℕ → ℕ → ℕ) → Program → Program → Places → (purse : ℕ) → Run
run_pair f p q s g = then_run (run p s g) (λ x t h. then_run (run q t h) (λ y u k. came (f x y) u k))

-- a payment of n out of a purse of g that leaves h in it, or that isn't made since there isn't enough
abbrev pub Pays : (n g : ℕ) → Option (Unit {0}) → (h : ℕ) → Type 0
Pays n g (Some _) h = h + n ≡ g
Pays n g None h = g < n
