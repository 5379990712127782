-- How many rows so many numbers are, and what rows in shape give. Assumes nothing.
use Rattle.std.proofs.Common.{◌≡◌, ℕ, zero, suc, ◌*◌, ◌/◌, ◌≤◌, true, eqb, leb, List, length, refl, arith}
use Rattle.std.proofs.lemmas.Bool.{and_parts, eqb-true, leb-true}
use Rattle.program.specs.Rows.{by_fours, row_count, shaped}

-- counted by fours, and divided
pub fours : (n : ℕ) → n / 4 ≡ by_fours n
unfolding by_fours
fours zero = refl
fours (suc zero) = refl
fours (suc (suc zero)) = refl
fours (suc (suc (suc zero))) = refl
fours (suc (suc (suc (suc n)))) = let h : n / 4 ≡ by_fours n = fours n in omega arith

-- 1 to 256 rows of four numbers
pub record Shape (xs : List ℕ) : Type 0 where
  pub whole : length xs ≡ 4 * row_count xs
  pub some : 1 ≤ row_count xs
  pub few : row_count xs ≤ 256

pub shape_of : (xs : List ℕ) → shaped xs ≡ true → Shape xs
unfolding shaped
shape_of xs h =
    let p = and_parts (eqb (length xs) (4 * row_count xs)) _ h in
    let q = and_parts (leb 1 (row_count xs)) _ p.1 in
    record { whole = eqb-true _ _ p.0; some = leb-true 1 _ q.0; few = leb-true _ 256 q.1 }
