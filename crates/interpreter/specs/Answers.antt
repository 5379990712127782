-- What the entries of runs answer, and what they leave in the places and in the room. Assumes nothing.
use Rattle.std.specs.Prelude.{◌≡◌, ℕ, zero, suc, ◌<◌, ◌⊎◌, List, [], ◌∷◌, length, Some, None, Ok, Err, Option, Result}
use Rattle.semantics.specs.Price.{at_most}
use Rattle.semantics.specs.Program.{Places}
use Rattle.semantics.specs.Run.{Run, came, too_small, run}
use Rattle.program.specs.Refusal.{number_of}
use Rattle.program.specs.Rows.{program_in}
use Rattle.program.specs.declared.refusal.Refusal.{Refusal}
use Rattle.pricing.specs.Answers.{refused_by, values}
use Rattle.pricing.specs.declared.done.Done.{Done}
use Rattle.pricing.specs.declared.done.Done.TheVariants as done
use Rattle.interpreter.specs.Runner.{places_in}
use Rattle.interpreter.specs.declared.ran.Ran.{Ran}
use Rattle.interpreter.specs.declared.ran.RunError.{RunError}
use Rattle.interpreter.specs.declared.ran.RunError.TheVariants.{Refused, TooSmall}

-- how a run ends by its answer, from places s to places s₁: it came to a number, with so much left, and the places are as the run leaves them; or
-- the purse was too small, and the places are as they were
abbrev pub Ends : Run → (places : List ℕ) → Result Ran RunError → (places₁ : List ℕ) → Type 0
Ends (came x t h) s r s₁ = (r ≡ Ok (record { value = x; left = h })) × (length s₁ ≡ length s) × (places_in s₁ ≡ t)
Ends too_small s r s₁ = (r ≡ Err TooSmall) × (s₁ ≡ s)

-- what is answered and left, by the first refusal that applies: that refusal, and nothing changed; or the end of the run, and a room as long as before
abbrev pub Executes : Option Refusal → (program places room : List ℕ) → (purse : ℕ) → Result Ran RunError → (places₁ room₁ : List ℕ) → Type 0
Executes None xs s o g r s₁ o₁ = Ends (run (program_in xs) (places_in s) g) s r s₁ × (length o₁ ≡ length o)
Executes (Some e) xs s o g r s₁ o₁ = (r ≡ Err (Refused e)) × (s₁ ≡ s) × (o₁ ≡ o)

-- the same on a purse of the price, where the run came to a number
abbrev pub RunsAtPrice : Option Refusal → (program places room : List ℕ) → Result Ran Refusal → (places₁ room₁ : List ℕ) → Type 0
RunsAtPrice None xs s o r s₁ o₁ = (d : Ran) × (r ≡ Ok d) × Ends (run (program_in xs) (places_in s) (at_most (program_in xs))) s (Ok d) s₁ × (length o₁ ≡ length o)
RunsAtPrice (Some e) xs s o r s₁ o₁ = (r ≡ Err e) × (s₁ ≡ s) × (o₁ ≡ o)

-- an answer with a refusal by its number
abbrev pub run_answer_by : Result Ran RunError → Done
run_answer_by (Ok d) = done.Came d.value d.left
run_answer_by (Err (Refused r)) = done.Refused (number_of r)
run_answer_by (Err TooSmall) = done.Small

-- the first n places are the same
unfoldable pub SameTo : ℕ → Places → Places → Type 0
SameTo n s t = (i : ℕ) → i < n → s i ≡ t i

-- the answer for a run, by the number of the refusal that applies, and what is left in the places and in the room
unfoldable pub RunSays : (refusal : ℕ) → (program places room : List ℕ) → (purse : ℕ) → Done → (places₁ room₁ : List ℕ) → Type 0
RunSays zero xs s o g d s₁ o₁ =
    (length o₁ ≡ length o) ×
    (((x : ℕ) × (t : Places) × (h : ℕ) × (run (program_in xs) (places_in s) g ≡ came x t h) × (d ≡ done.Came x h) × (length s₁ ≡ length s) × SameTo (length s) (places_in s₁) t)
    ⊎ ((run (program_in xs) (places_in s) g ≡ too_small) × (d ≡ done.Small) × (s₁ ≡ s)))
RunSays (suc f) xs s o g d s₁ o₁ = (d ≡ done.Refused (suc f)) × (s₁ ≡ s) × (o₁ ≡ o)

-- the values of the answer for a run: what it came to and what is left, or none
abbrev pub run_values : (refusal : ℕ) → Run → List ℕ
run_values zero (came x t h) = x ∷ h ∷ []
run_values zero too_small = []
run_values (suc f) r = []

-- what is left in the places and in the room
abbrev pub Leaves : (refusal : ℕ) → Run → (places room places₁ room₁ : List ℕ) → Type 0
Leaves zero (came x t h) s o s₁ o₁ = (length o₁ ≡ length o) × (length s₁ ≡ length s) × SameTo (length s) (places_in s₁) t
Leaves zero too_small s o s₁ o₁ = (length o₁ ≡ length o) × (s₁ ≡ s)
Leaves (suc f) r s o s₁ o₁ = (s₁ ≡ s) × (o₁ ≡ o)

-- the same answer by its number and its values
pub record RunNumbers (f : ℕ) (xs s o : List ℕ) (g : ℕ) (d : Done) (s₁ o₁ : List ℕ) : Type 0 where
  pub number : refused_by d ≡ f
  pub value : values d ≡ run_values f (run (program_in xs) (places_in s) g)
  pub leaves : Leaves f (run (program_in xs) (places_in s) g) s o s₁ o₁
