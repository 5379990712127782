-- Runs on a purse: what a program comes to, what it leaves in the places, and what is left in the purse. Assumes nothing.
use Rattle.std.specs.Prelude.{ℕ, zero, suc, ◌+◌, ◌-◌, ◌*◌, ◌%◌, ◌^◌, min, cond, ◌==◌, nat_le, nat_lt}
use Rattle.semantics.specs.Program.{Program, Places, constant, place, added, times, less, set, after, if_not_nought, again}

-- numbers are below 2^32; sums and products are taken modulo it
abbrev pub word : ℕ
word = 2 ^ 32

-- the places once a number is put at place i
unfoldable pub with_place : Places → (i number : ℕ) → Places
with_place s i x j = cond (j == i) x (s j)

-- what a run answers: what it came to, the places it leaves and what is left in the purse; or that the purse (the fuel) was too small
pub data Run : Type 0 where
  came : (value : ℕ) → Places → (left : ℕ) → Run
  too_small : Run

-- a run, and then what is done with its answer, unless the purse was too small
unfoldable pub then_run : Run → (ℕ → Places → ℕ → Run) → Run
then_run (came x s g) f = f x s g
then_run too_small f = too_small

-- a payment out of the purse, and then what is done with what is left, unless there isn't enough in it
unfoldable pub pay : (cost purse : ℕ) → (ℕ → Run) → Run
pay n g f = cond (nat_le n g) (f (g - n)) too_small

-- a runner so many times, 1 paid before each: what it came to last
unfoldable pub run_times : (Places → ℕ → Run) → (times : ℕ) → (last : ℕ) → Places → (purse : ℕ) → Run
run_times f zero x s g = came x s g
run_times f (suc n) x s g = pay 1 g (λ h. then_run (f s h) (λ y t k. run_times f n y t k))

-- a program run on places and a purse: each step pays 1 before it is done
unfoldable pub run : Program → Places → (purse : ℕ) → Run
run (constant n) s g = pay 1 g (λ h. came (n % word) s h)
run (place i) s g = pay 1 g (λ h. came (s i % word) s h)
run (added p q) s g = pay 1 g (λ h. then_run (run p s h) (λ x t k. then_run (run q t k) (λ y u m. came ((x + y) % word) u m)))
run (times p q) s g = pay 1 g (λ h. then_run (run p s h) (λ x t k. then_run (run q t k) (λ y u m. came ((x * y) % word) u m)))
run (less p q) s g = pay 1 g (λ h. then_run (run p s h) (λ x t k. then_run (run q t k) (λ y u m. came (cond (nat_lt x y) 1 0) u m)))
run (set i p) s g = pay 1 g (λ h. then_run (run p s h) (λ x t k. came x (with_place t i x) k))
run (after p q) s g = pay 1 g (λ h. then_run (run p s h) (λ x t k. run q t k))
run (if_not_nought p q r) s g = pay 1 g (λ h. then_run (run p s h) (λ x t k. cond (x == 0) (run r t k) (run q t k)))
run (again l p q) s g = pay 1 g (λ h. then_run (run p s h) (λ x t k. run_times (run q) (min l x) 0 t k))
