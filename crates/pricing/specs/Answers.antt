-- What the entry answers. Assumes nothing.
use Rattle.std.specs.Prelude.{◌≡◌, ℕ, zero, suc, List, [], ◌∷◌, Ok, Err, Result}
use Rattle.semantics.specs.Price.{at_most}
use Rattle.program.specs.Refusal.{number_of}
use Rattle.program.specs.Rows.{program_in}
use Rattle.program.specs.declared.refusal.Refusal.{Refusal}
use Rattle.pricing.specs.declared.done.Done.{Done}
use Rattle.pricing.specs.declared.done.Done.TheVariants.{Costs, Came, Small, Refused}

-- an answer by the numbers of the rules: which refusal it is, and 0 where it is none
abbrev pub refused_by : Done → ℕ
refused_by (Costs price) = 0
refused_by (Came value left) = 0
refused_by Small = 0
refused_by (Refused number) = number

-- and its values: the price; what a run came to, and what is left in the purse; none where the purse was too small, or it is a refusal
abbrev pub values : Done → List ℕ
values (Costs price) = price ∷ []
values (Came value left) = value ∷ left ∷ []
values Small = []
values (Refused number) = []

-- what is quoted, with a refusal by its number
abbrev pub answer_by : Result ℕ Refusal → Done
answer_by (Ok price) = Costs price
answer_by (Err r) = Refused (number_of r)

-- the answer for a price: what the program costs at most, or the number of its refusal
unfoldable pub PriceSays : (refusal : ℕ) → (program : List ℕ) → Done → Type 0
PriceSays zero xs d = d ≡ Costs (at_most (program_in xs))
PriceSays (suc f) xs d = d ≡ Refused (suc f)

-- the values of the answer for a price
abbrev pub price_values : (refusal : ℕ) → (program : List ℕ) → List ℕ
price_values zero xs = at_most (program_in xs) ∷ []
price_values (suc f) xs = []

-- the same answer by its number and its values
pub record PriceNumbers (f : ℕ) (xs : List ℕ) (d : Done) : Type 0 where
  pub number : refused_by d ≡ f
  pub value : values d ≡ price_values f xs
