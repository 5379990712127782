-- What is answered unless there is a refusal. Assumes nothing.
use Rattle.std.proofs.Common.{◌≡◌, Some, None, Ok, Err, Option, refl}
use Rattle.program.specs.Validation.{unless}
use Rattle.program.specs.declared.refusal.Refusal.{Refusal}

-- an answer: there is no refusal
pub unless_ok : {A : Type 0} (o : Option Refusal) (x y : A) → unless o x ≡ Ok y → (o ≡ None) × (x ≡ y)
unless_ok None x y e = (refl, cc)
unless_ok (Some r) x y e = (cc, cc)

-- a refusal: it is that one
pub unless_err : {A : Type 0} (o : Option Refusal) (x : A) (r : Refusal) → unless o x ≡ Err r → o ≡ Some r
unless_err None x r e = cc
unless_err (Some q) x r e = cc
