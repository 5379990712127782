-- Refusal number 2 by the definitions: it is answered of just the programs that don't fit, for the lowest reached row, and of too many places. Assumes nothing.
use Rattle.std.proofs.Common.{◌≡◌, ℕ, ◌-◌, ◌<◌, ◌≤◌, Bool, true, false, cond, ◌&&◌, ltb, leb, List, Some, None, Option, sym, refl, ap, ◌∙◌, ⊎_elim, arith}
use Rattle.std.proofs.lemmas.Bool.{both_ways, cond-true, cond-false, ltb-true, ltb-false, cases_Bool}
use Rattle.std.specs.Option.{option_or}
use Rattle.semantics.specs.Program.{fits}
use Rattle.program.specs.Row.{own_place, row_in}
use Rattle.program.specs.Rows.{row_count, program_in, Valid}
use Rattle.program.specs.Reach.{Reaches, reached}
use Rattle.program.specs.Validation.{first_said, absent, row_place_refusal, count_refusal, places_refusal, places_taken, answered}
use Rattle.program.specs.Laws.{LowestAbsent}
use Rattle.program.specs.declared.refusal.Refusal.{Refusal}
use Rattle.program.specs.declared.refusal.Refusal.TheVariants.{NoSuchPlace, TooManyPlaces}
use Rattle.program.proofs.Options.{none_some, or_none, cases_option}
use Rattle.program.proofs.Reaching.{reaches_back, reached_decides, last_row, fits_reached, reached_fits}
use Rattle.program.proofs.Refusing.{said_none_at, said_some_at}

-- what is said of a row's place
absent_none : (n i p : ℕ) (o : Option ℕ) → absent n i o ≡ None → o ≡ Some p → p < n
absent_none n i p None a e = absurd (none_some p e)
absent_none n i p (Some q) a e = ⊎_elim (λ h. let f = ltb-true q n h in let same : q ≡ p = cc in omega arith) (λ h. absurd (none_some _ (sym a ∙ cond-false (ltb q n) _ _ h))) (cases_Bool (ltb q n))

absent_some : (n i : ℕ) (r : Refusal) (o : Option ℕ) → absent n i o ≡ Some r → (p : ℕ) × (o ≡ Some p) × (n ≤ p) × (r ≡ NoSuchPlace i p n)
absent_some n i r None a = absurd (none_some r a)
absent_some n i r (Some q) a =
    ⊎_elim (λ h. absurd (none_some r (sym (cond-true (ltb q n) _ _ h) ∙ a)))
    (λ h. let same : Some r ≡ Some (NoSuchPlace i q n) = sym a ∙ cond-false (ltb q n) _ _ h in (q, refl, ltb-false q n h, (cc)))
    (cases_Bool (ltb q n))

module _ (xs : List ℕ) (n : ℕ) (v : Valid xs) where
  -- nothing said of a reached row: its place is there
  there : (k p : ℕ) → row_place_refusal xs n k ≡ None → Reaches xs k (row_count xs - 1) → own_place (row_in xs k) ≡ Some p → p < n
  unfolding row_place_refusal
  there k p e r own = absent_none n k p _ (sym (cond-true (reached xs k) _ _ ((reached_decides xs v k).1 r)) ∙ e) own

  -- nothing said of all rows: the program fits
  unsaid_fits : first_said (row_place_refusal xs n) (row_count xs) ≡ None → fits n (program_in xs) ≡ true
  unsaid_fits e =
      reached_fits xs v n
      (λ k p r own.
      let s : row_count xs - 1 < row_count xs = last_row xs v in
      let b : k ≤ row_count xs - 1 = reaches_back xs (row_count xs) v.order k s r in
      there k p (said_none_at (row_place_refusal xs n) (row_count xs) k e (omega arith)) r own)

  -- something said: of the lowest reached row that names a place that isn't there
  said_lowest : (r : Refusal) → first_said (row_place_refusal xs n) (row_count xs) ≡ Some r → (k : ℕ) × (p : ℕ) × (r ≡ NoSuchPlace k p n) × LowestAbsent xs n k p
  unfolding row_place_refusal
  said_lowest r e =
      let (k, l, here, before) = said_some_at (row_place_refusal xs n) (row_count xs) r e in
      ⊎_elim
      (λ (h : reached xs k ≡ true).
      let (p, own, missing, is) = absent_some n k r (own_place (row_in xs k)) (sym (cond-true (reached xs k) _ _ h) ∙ here) in (
        k,
        p,
        is,
        record {
          reaches = (reached_decides xs v k).0 h;
          own = own;
          missing = missing;
          lowest = λ j q lt reach mine. there j q (said_none_at (row_place_refusal xs n) k j before lt) reach mine;
        },
      ))
      (λ h. absurd (none_some r (sym (cond-false (reached xs k) _ _ h) ∙ here)))
      (cases_Bool (reached xs k))

  -- a program that fits: nothing is said of its rows
  fits_unsaid : fits n (program_in xs) ≡ true → first_said (row_place_refusal xs n) (row_count xs) ≡ None
  fits_unsaid f =
      ⊎_elim (λ e. e)
      (λ h.
      let (k, p, is, low) = said_lowest h.0 h.1 in
      absurd (omega (arith, fits_reached xs v n f k p low.reaches low.own, low.missing)))
      (cases_option (first_said (row_place_refusal xs n) (row_count xs)))

  pub places_unfit : fits n (program_in xs) ≡ false → (k : ℕ) × (p : ℕ) × (places_refusal xs n ≡ Some (NoSuchPlace k p n)) × LowestAbsent xs n k p
  places_unfit f =
      ⊎_elim (λ e. absurd (both_ways (fits n (program_in xs)) f (unsaid_fits e)))
      (λ h. let (k, p, is, low) = said_lowest h.0 h.1 in (k, p, ap (λ o. option_or o (count_refusal n)) h.1 ∙ ap Some is, low))
      (cases_option (first_said (row_place_refusal xs n) (row_count xs)))

  pub places_fit : fits n (program_in xs) ≡ true → places_refusal xs n ≡ count_refusal n
  places_fit f = ap (λ o. option_or o (count_refusal n)) (fits_unsaid f)

  -- no refusal: the program fits, and there are few places
  pub unrefused_fits : places_refusal xs n ≡ None → (fits n (program_in xs) ≡ true) × (leb n 1024 ≡ true)
  unrefused_fits e =
      let p = or_none (first_said (row_place_refusal xs n) (row_count xs)) (count_refusal n) e in
      (unsaid_fits p.0, ⊎_elim (λ h. h) (λ h. absurd (none_some _ (sym p.1 ∙ cond-false (leb n 1024) _ _ h))) (cases_Bool (leb n 1024)))

  -- the number of refusal 2, where it applies
  pub places_number : answered (places_refusal xs n) ≡ cond (places_taken xs n) 0 2
  unfolding places_taken
  places_number =
      ⊎_elim
      (λ f. ap answered (places_fit f) ∙ by_count (leb n 1024) ∙ sym (ap (λ t. cond (t && leb n 1024) 0 2) f))
      (λ f. let (k, p, e, low) = places_unfit f in ap answered e ∙ sym (ap (λ t. cond (t && leb n 1024) 0 2) f))
      (cases_Bool (fits n (program_in xs)))
    where
      by_count : (t : Bool) → answered (cond t None (Some (TooManyPlaces n 1024))) ≡ cond t 0 2
      by_count true = refl
      by_count false = refl

-- what is said of a row by its flag in the table
pub said_by_flag : (xs : List ℕ) (n k : ℕ) (flag : Bool) → flag ≡ reached xs k → cond flag (absent n k (own_place (row_in xs k))) None ≡ row_place_refusal xs n k
unfolding row_place_refusal
said_by_flag xs n k flag e = ap (λ t. cond t (absent n k (own_place (row_in xs k))) None) e
