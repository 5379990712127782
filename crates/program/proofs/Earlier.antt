-- Rows that are right name earlier rows only. Assumes nothing.
use Rattle.std.proofs.Common.{◌≡◌, ℕ, ◌<◌, ◌≤◌, Bool, true, false, ◌&&◌, eqb, ltb, leb, List, [], ◌∷◌, sym, refl, ap, ◌∙◌, arith}
use Rattle.std.proofs.lemmas.Bool.{cond-false, ne_eqb, lt-leb, leb-true, ltb-true, and_parts, and_left}
use Rattle.std.proofs.lemmas.Bool.Decides.{Decides-below_and}
use Rattle.std.specs.List.{AllByRecursion}
use Rattle.program.specs.Row.{decoded, named, kind, row_in}
use Rattle.program.specs.Rows.{numbers_ok, row_ok, rows_ok}
use Rattle.program.proofs.ByKind.{KindCase, is_0, is_1, is_2, is_3, is_4, is_5, is_6, is_7, is_8, above, kind_case}

-- each of a list is earlier than row i
abbrev pub earlier : ℕ → List ℕ → Bool
earlier i [] = true
earlier i (j ∷ js) = ltb j i && earlier i js

and_true : (x : Bool) → x ≡ (x && true)
and_true true = refl
and_true false = refl

ok_case : (i a b c : ℕ) {k : ℕ} → KindCase k → numbers_ok i k a b c ≡ (leb k 8 && earlier i (named (decoded k a b c)))
unfolding numbers_ok decoded
ok_case i a b c is_0 = refl
ok_case i a b c is_1 = refl
ok_case i a b c is_2 = ap (λ t. ltb a i && t) (and_true (ltb b i))
ok_case i a b c is_3 = ap (λ t. ltb a i && t) (and_true (ltb b i))
ok_case i a b c is_4 = ap (λ t. ltb a i && t) (and_true (ltb b i))
ok_case i a b c is_5 = and_true (ltb b i)
ok_case i a b c is_6 = ap (λ t. ltb a i && t) (and_true (ltb b i))
ok_case i a b c is_7 = ap (λ t. ltb a i && (ltb b i && t)) (and_true (ltb c i))
ok_case i a b c is_8 = ap (λ t. ltb b i && t) (and_true (ltb c i))
ok_case i a b c (above k h) =
    let no : leb k 8 ≡ false = lt-leb k 8 h in
    cond-false (leb k 1) _ _ (lt-leb k 1 (omega arith)) ∙ cond-false (eqb k 5) _ _ (ne_eqb k 5 (λ e. omega arith))
    ∙ cond-false (eqb k 8) _ _ (ne_eqb k 8 (λ e. omega arith)) ∙ cond-false (eqb k 7) _ _ (ne_eqb k 7 (λ e. omega arith))
    ∙ and_left (leb k 8) _ no ∙ sym (and_left (leb k 8) _ no)

-- a row is right where its kind is one there is and each row that it names is earlier
pub row_ok_is : (xs : List ℕ) (i : ℕ) → row_ok xs i ≡ (leb (kind xs i) 8 && earlier i (named (row_in xs i)))
unfolding row_ok
row_ok_is xs i = ok_case i _ _ _ (kind_case (kind xs i))

all_earlier : (i : ℕ) (js : List ℕ) → earlier i js ≡ true → AllByRecursion (λ j. j < i) js
all_earlier i [] h = tt
all_earlier i (j ∷ js) h = let p = and_parts (ltb j i) (earlier i js) h in (ltb-true j i p.0, all_earlier i js p.1)

-- each of so many rows that are right is right
row_ok_at : (xs : List ℕ) (n i : ℕ) → rows_ok xs n ≡ true → i < n → row_ok xs i ≡ true
unfolding rows_ok
row_ok_at xs n i h = (Decides-below_and (row_ok xs) (λ k. row_ok xs k ≡ true) (rows_ok xs) (λ k. (λ e. e, λ e. e)) refl (λ k. refl) n).0 h i

-- a row that is right is of a kind there is
pub known_kind : (xs : List ℕ) (n i : ℕ) → rows_ok xs n ≡ true → i < n → kind xs i ≤ 8
known_kind xs n i h l = leb-true (kind xs i) 8 (and_parts (leb (kind xs i) 8) _ (sym (row_ok_is xs i) ∙ row_ok_at xs n i h l)).0

-- what a row names is earlier
pub names_earlier : (xs : List ℕ) (n i : ℕ) → rows_ok xs n ≡ true → i < n → AllByRecursion (λ j. j < i) (named (row_in xs i))
names_earlier xs n i h l = all_earlier i _ (and_parts (leb (kind xs i) 8) _ (sym (row_ok_is xs i) ∙ row_ok_at xs n i h l)).1
