-- The table of reached rows: what marking does, and the pass from the last row back. Assumes nothing.
use Rattle.std.proofs.Common.{◌≡◌, ℕ, ◌+◌, ◌-◌, ◌<◌, ◌≤◌, Bool, true, false, ◌⊎◌, List, [], ◌∷◌, length, get_or, set, replicate, sym, refl, ap, ◌∙◌, subst, inl, inr, ⊎_elim, arith, length-set, get_or-set_other, get_or-set_same}
use mathlib.Core.List.Memᴰ
use mathlib.Core.List.{Memᴰ}
use Rattle.std.proofs.ByRecursion.{All-weaker}
use Rattle.std.proofs.lemmas.Bool.{both_ways, cases_Bool, cases_eq, cases_lt}
use Rattle.std.specs.List.{AllByRecursion}
use Rattle.semantics.proofs.Members.{all_member}
use Rattle.program.specs.Row.{named, row_in}
use Rattle.program.specs.Rows.{row_count, Valid}
use Rattle.program.specs.Reach.{Reaches, itself, through, reached, marked}
use Rattle.program.specs.declared.row.Row.{Row}
use Rattle.program.proofs.Reaching.{member_earlier, reaches_on, reached_decides, last_row}
use Rattle.program.proofs.Shape.{Shape, shape_of}
use Rattle.program.proofs.Tables.{blank}

-- a table with some rows marked: as long, with what was marked, what is marked now, and nothing else
length_marked : (t : List Bool) (js : List ℕ) → length (marked t js) ≡ length t
length_marked t [] = refl
length_marked t (j ∷ js) = length_marked (set t j true) js ∙ length-set t j true

set_keeps : (t : List Bool) (j k : ℕ) → j < length t → get_or t k false ≡ true → get_or (set t j true) k false ≡ true
set_keeps t j k l h =
    ⊎_elim (λ e. subst (λ (x : ℕ). get_or (set t j true) x false ≡ true) (sym e) (get_or-set_same t j true false l)) (λ ne. get_or-set_other t j k true false ne ∙ h) (cases_eq k j)

marked_keeps : (m : ℕ) (t : List Bool) (js : List ℕ) (k : ℕ) → length t ≡ m → AllByRecursion (λ j. j < m) js → get_or t k false ≡ true → get_or (marked t js) k false ≡ true
marked_keeps m t [] k e l h = h
marked_keeps m t (j ∷ js) k e l h = marked_keeps m (set t j true) js k (length-set t j true ∙ e) l.1 (set_keeps t j k (omega (arith, l.0)) h)

marked_has : (m : ℕ) (t : List Bool) {k : ℕ} (js : List ℕ) → length t ≡ m → AllByRecursion (λ j. j < m) js → Memᴰ k js → get_or (marked t js) k false ≡ true
marked_has m t [] e l h = absurd (Memᴰ.not-nil h)
marked_has m t {k} (j ∷ js) e l (Memᴰ.head i) =
    marked_keeps m (set t j true) js k (length-set t j true ∙ e) l.1 (subst (λ (x : ℕ). get_or (set t j true) x false ≡ true) (sym i) (get_or-set_same t j true false (omega (arith, l.0))))
marked_has m t (j ∷ js) e l (Memᴰ.tail h) = marked_has m (set t j true) js (length-set t j true ∙ e) l.1 h

marked_only : (t : List Bool) (js : List ℕ) (k : ℕ) → get_or (marked t js) k false ≡ true → (get_or t k false ≡ true) ⊎ Memᴰ k js
marked_only t [] k h = inl h
marked_only t (j ∷ js) k h =
    ⊎_elim (λ was. ⊎_elim (λ e. inr (Memᴰ.head e)) (λ ne. inl (sym (get_or-set_other t j k true false ne) ∙ was)) (cases_eq k j)) (λ m. inr (Memᴰ.tail m)) (marked_only (set t j true) js k h)

above : (i j : ℕ) → i ≤ j → (j ≡ i → ⊥) → i + 1 ≤ j
above i j h ne = ⊎_elim (λ l. omega arith) (λ l. absurd (ne (omega arith))) (cases_lt i j)

-- the rows from i up are passed: what is marked is reached, the last row is marked, and so is what a marked row names that is passed
pub record Passed (xs : List ℕ) (i : ℕ) (t : List Bool) : Type 0 where
  pub long : length t ≡ 256
  pub sound : (k : ℕ) → get_or t k false ≡ true → Reaches xs k (row_count xs - 1)
  pub top : get_or t (row_count xs - 1) false ≡ true
  pub complete : (j k : ℕ) → i ≤ j → j < row_count xs → get_or t j false ≡ true → Memᴰ k (named (row_in xs j)) → get_or t k false ≡ true

module _ (xs : List ℕ) (v : Valid xs) where
  -- before the pass
  pub none_passed : Passed xs (row_count xs) (set (replicate 256 false) (row_count xs - 1) true)
  none_passed =
      let s : Shape xs = shape_of xs v.shape in
      record {
        long = length-set (replicate 256 false) (row_count xs - 1) true;
        sound =
            λ k h.
            ⊎_elim itself (λ ne. absurd (both_ways (get_or (replicate 256 false) k false) (blank 256 false k) (sym (get_or-set_other (replicate 256 false) (row_count xs - 1) k true false ne) ∙ h)))
            (cases_eq k (row_count xs - 1));
        top = get_or-set_same (replicate 256 false) (row_count xs - 1) true false (omega arith);
        complete = λ j k a b h m. absurd (omega arith);
      }

  -- one row more that is marked: what it names is marked now
  module _ (n : ℕ) (t : List Bool) (some : 0 < n) (q : Passed xs n t) where
    abbrev i : ℕ
    i = n - 1

    p : Passed xs (i + 1) t
    p = let e : n ≡ i + 1 = omega arith in subst (λ (m : ℕ). Passed xs m t) e q

    pub pass_marked : (r : Row) → i < row_count xs → get_or t i false ≡ true → r ≡ row_in xs i → AllByRecursion (λ j. j < i) (named r) → Passed xs i (marked t (named r))
    pass_marked r l h e before =
        let s : Shape xs = shape_of xs v.shape in
        let within : AllByRecursion (λ j. j < 256) (named r) = All-weaker (λ j. j < i) (λ j. j < 256) (λ j (g : j < i). omega arith) (named r) before in
        record {
          long = length_marked t (named r) ∙ p.long;
          sound = λ k g. ⊎_elim (p.sound k) (λ m. reaches_on xs i k (p.sound i h) (subst (λ (x : Row). Memᴰ k (named x)) e m)) (marked_only t (named r) k g);
          top = marked_keeps 256 t (named r) (row_count xs - 1) p.long within p.top;
          complete =
              λ j k a b g m.
              ⊎_elim (λ same. marked_has 256 t (named r) p.long within (subst (λ (x : Row). Memᴰ k (named x)) (ap (row_in xs) same ∙ sym e) m))
              (λ ne.
              ⊎_elim (λ was. marked_keeps 256 t (named r) k p.long within (p.complete j k (above i j a ne) b was m))
              (λ mj. let g : j < i = all_member (λ j. j < i) (named r) before mj in absurd (omega arith))
              (marked_only t (named r) j g))
              (cases_eq j i);
        }

  -- after the pass: a marked row marks all that it reaches
  mark_reached : (t : List Bool) (k : ℕ) {a : ℕ} → Passed xs 0 t → a < row_count xs → get_or t a false ≡ true → Reaches xs k a → get_or t k false ≡ true
  mark_reached t k p w h (itself e) = subst (λ (x : ℕ). get_or t x false ≡ true) (sym e) h
  mark_reached t k {a} p w h (through j mj r) =
      let g : j < a = member_earlier xs (row_count xs) v.order a j w mj in
      mark_reached t k {a = j} p (omega arith) (p.complete a j (omega arith) w h mj) r

  -- so the table is the definition's
  pub all_passed : (t : List Bool) → Passed xs 0 t → (k : ℕ) → get_or t k false ≡ reached xs k
  all_passed t p k =
      ⊎_elim (λ (h : reached xs k ≡ true). mark_reached t k p (last_row xs v) p.top ((reached_decides xs v k).0 h) ∙ sym h)
      (λ (h : reached xs k ≡ false).
      ⊎_elim (λ m. absurd (both_ways (reached xs k) h ((reached_decides xs v k).1 (p.sound k m)))) (λ m. m ∙ sym h) (cases_Bool (get_or t k false)))
      (cases_Bool (reached xs k))
