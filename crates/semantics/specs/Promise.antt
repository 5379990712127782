-- What is promised of every run, for every program, all places and every purse: statements, each on the contract of a function of src/promise.rt.
use Rattle.std.specs.Prelude.{◌≡◌, ℕ, ◌+◌, ◌<◌, ◌≤◌, true, false, ◌⊎◌}
use Rattle.semantics.specs.Program.{Program, Places, after, names}
use Rattle.semantics.specs.Price.{at_most}
use Rattle.semantics.specs.Run.{word, came, too_small, pay, run}

-- a run is one payment: whatever is in the purse, it costs the same number of steps, between 1 and the price, for the same number below
-- 2^32 and the same places, or the purse is too small. The other promises follow from this one
pub record Payment (p : Program) (s : Places) : Type 0 where
  pub value : ℕ
  pub places : Places
  pub cost : ℕ
  pub below : value < word
  pub least : 1 ≤ cost
  pub most : cost ≤ at_most p
  pub pays : (g : ℕ) → run p s g ≡ pay cost g (λ h. came value places h)

abbrev pub OnePayment : Type 0
OnePayment = (p : Program) (s : Places) → Payment p s

-- a purse of what the text says is always enough, whatever stands in the places, and no more than that is taken from it
abbrev pub Enough : Type 0
Enough = (p : Program) (s : Places) (g : ℕ) → at_most p ≤ g → (x : ℕ) × (t : Places) × (h : ℕ) × (run p s g ≡ came x t h) × (g ≤ h + at_most p)

-- with more in the purse an answer stays what it is, and just that more is left
abbrev pub MoreChangesNothing : Type 0
MoreChangesNothing = (p : Program) (s t : Places) (g h x k : ℕ) → run p s g ≡ came x t h → run p s (g + k) ≡ came x t (h + k)

-- what was too small stays too small with less
abbrev pub LessIsLess : Type 0
LessIsLess = (p : Program) (s : Places) (g h : ℕ) → run p s g ≡ too_small → h ≤ g → run p s h ≡ too_small

-- a run costs something
abbrev pub Costs : Type 0
Costs = (p : Program) (s t : Places) (g h x : ℕ) → run p s g ≡ came x t h → h < g

-- what is come to is below 2^32
abbrev pub Below : Type 0
Below = (p : Program) (s t : Places) (g h x : ℕ) → run p s g ≡ came x t h → x < word

-- a place that isn't named stays
abbrev pub OnlyNamed : Type 0
OnlyNamed = (p : Program) (s t : Places) (g h x i : ℕ) → names i p ≡ false → run p s g ≡ came x t h → t i ≡ s i

-- a place that isn't named isn't looked at: two runs from places that agree where the program names them come to the same and leave the same in
-- the purse and in the places that are named, or the purse is too small for both
abbrev pub LooksOnly : Type 0
LooksOnly =
    (p : Program) (s u : Places) (g : ℕ) → ((i : ℕ) → names i p ≡ true → s i ≡ u i) →
    ((x : ℕ) × (t : Places) × (v : Places) × (h : ℕ) × (run p s g ≡ came x t h) × (run p u g ≡ came x v h) × ((i : ℕ) → names i p ≡ true → t i ≡ v i)) ⊎ ((run p s g ≡ too_small) × (run p u g ≡ too_small))

-- one program after another costs both and 1: the second is run on what the first left
abbrev pub InTwo : Type 0
InTwo = (p q : Program) (s t : Places) (g h x : ℕ) → run p s g ≡ came x t h → run (after p q) s (g + 1) ≡ run q t h
