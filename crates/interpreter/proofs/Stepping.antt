-- One step of the runner: it is paid, its parts are run one after the other, and its number follows. Assumes nothing.
use Rattle.std.proofs.Common.{◌≡◌, ℕ, suc, ◌+◌, ◌*◌, ◌-◌, ◌%◌, ◌<◌, ◌≤◌, cond, ltb, List, length, get_or, sym, refl, slice_index, ap, ◌∙◌, ⊎_elim, mod-eq_of_lt, arith, get_or-set_other, get_or-set_same}
use mathlib.Core.Path.{fun_ext}
use lib.ListN as lists
use Rattle.std.proofs.lemmas.Bool.{cases_eq}
use Rattle.semantics.specs.Program.{Program, Places, constant, place, added, times, less, set, after, if_not_nought, again}
use Rattle.semantics.specs.Run.{word, Run, came, too_small, with_place, then_run, run_times, run}
use Rattle.semantics.proofs.Paying.{paid, short, put_same, put_other}
use Rattle.interpreter.specs.Runner.{places_in, run_pair}

-- a program whose step can't be paid
pub unpaid : (p : Program) (s : Places) (g : ℕ) → g < 1 → run p s g ≡ too_small
unfolding run
unpaid (constant n) s g l = short 1 g _ l
unpaid (place i) s g l = short 1 g _ l
unpaid (added p q) s g l = short 1 g _ l
unpaid (times p q) s g l = short 1 g _ l
unpaid (less p q) s g l = short 1 g _ l
unpaid (set i p) s g l = short 1 g _ l
unpaid (after p q) s g l = short 1 g _ l
unpaid (if_not_nought p q r) s g l = short 1 g _ l
unpaid (again l p q) s g m = short 1 g _ m

-- one whose step is paid and that runs two others
pub added_paid : (p q : Program) (s : Places) (g : ℕ) → 1 ≤ g → run (added p q) s g ≡ run_pair (λ x y. (x + y) % word) p q s (g - 1)
unfolding run run_pair
added_paid p q s g l = paid 1 g _ l

pub times_paid : (p q : Program) (s : Places) (g : ℕ) → 1 ≤ g → run (times p q) s g ≡ run_pair (λ x y. (x * y) % word) p q s (g - 1)
unfolding run run_pair
times_paid p q s g l = paid 1 g _ l

pub less_paid : (p q : Program) (s : Places) (g : ℕ) → 1 ≤ g → run (less p q) s g ≡ run_pair (λ x y. cond (ltb x y) 1 0) p q s (g - 1)
unfolding run run_pair
less_paid p q s g l = paid 1 g _ l

-- one time of a runner: it isn't paid, it is, and there is none
pub time_unpaid : (f : Places → ℕ → Run) (n i x : ℕ) (s : Places) (g : ℕ) → i < n → g < 1 → run_times f (n - i) x s g ≡ too_small
unfolding run_times
time_unpaid f n i x s g l m = let more : n - i ≡ suc (n - (i + 1)) = omega arith in ap (λ j. run_times f j x s g) more ∙ short 1 g _ m

pub time_paid : (f : Places → ℕ → Run) (n i x : ℕ) (s : Places) (g : ℕ) → i < n → 1 ≤ g → run_times f (n - i) x s g ≡ then_run (f s (g - 1)) (λ y t k. run_times f (n - (i + 1)) y t k)
unfolding run_times
time_paid f n i x s g l m = let more : n - i ≡ suc (n - (i + 1)) = omega arith in ap (λ j. run_times f j x s g) more ∙ paid 1 g _ m

pub no_time : (f : Places → ℕ → Run) (n i x : ℕ) (s : Places) (g : ℕ) → n ≤ i → run_times f (n - i) x s g ≡ came x s g
unfolding run_times
no_time f n i x s g l = let none : n - i ≡ 0 = omega arith in ap (λ j. run_times f j x s g) none

-- the number at a place of places that are lent
pub at_place : (s : List ℕ) (i : ℕ) → places_in s i ≡ slice_index s i
unfolding places_in
at_place s i = refl

-- places with a number put at one of them, lent or not
pub put_in : (s : List ℕ) (i x : ℕ) → i < length s → places_in (lists.set s i x) ≡ with_place (places_in s) i x
unfolding places_in
put_in s i x l = fun_ext (λ j. ⊎_elim (λ (e : j ≡ i). ap (λ k. get_or (lists.set s i x) k 0) e ∙ get_or-set_same s i x 0 l ∙ sym (ap (with_place (places_in s) i x) e ∙ put_same (places_in s) i x)) (λ ne. get_or-set_other s i j x 0 ne ∙ sym (put_other (places_in s) i x j ne)) (cases_eq j i))

-- the steps of a run
pub ruleset steps = (unpaid, paid, added_paid, times_paid, less_paid, mod-eq_of_lt, time_unpaid, time_paid, no_time, at_place, put_in)
