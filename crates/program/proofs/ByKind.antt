-- The split on the numbers of kinds, which happens here and nowhere else. Assumes nothing.
use Rattle.std.proofs.Common.{◌≡◌, ℕ, zero, suc, ◌<◌, ◌≤◌, cond, eqb, List, sym, refl, ap, ◌∙◌, arith}
use Rattle.std.proofs.lemmas.Bool.{cond-false, ne_eqb}
use Rattle.semantics.specs.Program.{Program}
use Rattle.program.specs.Row.{by_kind, decoded, kind, first, second, third, row_in}
use Rattle.program.specs.Rows.{row_of, program_of}
use Rattle.program.specs.declared.row.Row.TheVariants.{Loop}

-- a kind is one of the nine, or above them
pub data KindCase : ℕ → Type 0 where
  is_0 : KindCase 0
  is_1 : KindCase 1
  is_2 : KindCase 2
  is_3 : KindCase 3
  is_4 : KindCase 4
  is_5 : KindCase 5
  is_6 : KindCase 6
  is_7 : KindCase 7
  is_8 : KindCase 8
  above : (k : ℕ) → 8 < k → KindCase k

pub kind_case : (k : ℕ) → KindCase k
kind_case zero = is_0
kind_case (suc zero) = is_1
kind_case (suc (suc zero)) = is_2
kind_case (suc (suc (suc zero))) = is_3
kind_case (suc (suc (suc (suc zero)))) = is_4
kind_case (suc (suc (suc (suc (suc zero))))) = is_5
kind_case (suc (suc (suc (suc (suc (suc zero)))))) = is_6
kind_case (suc (suc (suc (suc (suc (suc (suc zero))))))) = is_7
kind_case (suc (suc (suc (suc (suc (suc (suc (suc zero)))))))) = is_8
kind_case (suc (suc (suc (suc (suc (suc (suc (suc (suc n))))))))) = above _ (omega arith)

-- kinds from 8 up have the last of nine
other : {A : Type 0} (k j : ℕ) (x y : A) → j < k → cond (eqb k j) x y ≡ y
other k j x y h = cond-false (eqb k j) x y (ne_eqb k j (λ e. omega arith))

by_kind_last : {A : Type 0} (k : ℕ) (r₀ r₁ r₂ r₃ r₄ r₅ r₆ r₇ r₈ : A) → 8 ≤ k → by_kind k r₀ r₁ r₂ r₃ r₄ r₅ r₆ r₇ r₈ ≡ r₈
by_kind_last k r₀ r₁ r₂ r₃ r₄ r₅ r₆ r₇ r₈ h =
    other k 0 _ _ (omega arith) ∙ other k 1 _ _ (omega arith) ∙ other k 2 _ _ (omega arith) ∙ other k 3 _ _ (omega arith)
    ∙ other k 4 _ _ (omega arith) ∙ other k 5 _ _ (omega arith) ∙ other k 6 _ _ (omega arith) ∙ other k 7 _ _ (omega arith)

pub decoded_last : (k a b c : ℕ) → 8 ≤ k → Loop a b c ≡ decoded k a b c
unfolding decoded
decoded_last k a b c h = sym (by_kind_last k _ _ _ _ _ _ _ _ (Loop a b c) h)

row_of_case : (n : ℕ → Program) (a b c : ℕ) {k : ℕ} → KindCase k → row_of n k a b c ≡ program_of n (decoded k a b c)
unfolding row_of decoded
row_of_case n a b c is_0 = refl
row_of_case n a b c is_1 = refl
row_of_case n a b c is_2 = refl
row_of_case n a b c is_3 = refl
row_of_case n a b c is_4 = refl
row_of_case n a b c is_5 = refl
row_of_case n a b c is_6 = refl
row_of_case n a b c is_7 = refl
row_of_case n a b c is_8 = refl
row_of_case n a b c (above k h) = by_kind_last k _ _ _ _ _ _ _ _ _ (omega arith) ∙ ap (program_of n) (decoded_last k a b c (omega arith))

-- the program of a row is the program of its numbers
pub row_of_is : (n : ℕ → Program) (k a b c : ℕ) → row_of n k a b c ≡ program_of n (decoded k a b c)
row_of_is n k a b c = row_of_case n a b c (kind_case k)

-- a row of a known kind
pub row_of_kind : (xs : List ℕ) (i k : ℕ) → kind xs i ≡ k → decoded k (first xs i) (second xs i) (third xs i) ≡ row_in xs i
row_of_kind xs i k e = sym (ap (λ (n : ℕ). decoded n (first xs i) (second xs i) (third xs i)) e)
