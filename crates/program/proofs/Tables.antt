-- Tables of fixed size. Assumes nothing.
use Rattle.std.proofs.Common.{◌≡◌, ℕ, zero, suc, get_or, replicate, refl}

-- a table that holds one value throughout shows it everywhere, and behind its end too
pub blank : {X : Type 0} (n : ℕ) (x : X) (k : ℕ) → get_or (replicate n x) k x ≡ x
blank zero x k = refl
blank (suc n) x zero = refl
blank (suc n) x (suc k) = blank n x k
