-- Rows whose price is above the limit, as the table shows them. Assumes nothing.
use Rattle.std.proofs.Common.{◌≡◌, ℕ, ◌-◌, ◌<◌, ◌≤◌, length, zip, position, unwrap_or, Bool, true, false, cond, ◌&&◌, ltb, leb, List, get_or, Some, None, Err, Option, sym, refl, ap, ◌∙◌, subst, ⊎_elim, arith}
use Rattle.std.proofs.lemmas.Bool.{false≢true, lt-ltb, ltb-true, ltb-false, leb-false, and_from, and_parts, cond-true, cond-false, le-ltb, cases_Bool, cases_lt}
use Rattle.std.proofs.lemmas.Bool.Decides.{nat_tests}
use Rattle.std.proofs.lemmas.List.Quantifiers.{position-Some}
use Rattle.std.proofs.lemmas.Slice.Zip.{get_or-zip, length-zip}
use Rattle.std.proofs.lemmas.List.Sums.{fails_before_first}
use Rattle.std.specs.List.{position_or_len}
use Rattle.std.specs.Option.{option_or}
use Rattle.semantics.specs.Program.{Program}
use Rattle.semantics.specs.Price.{at_most}
use Rattle.program.specs.Rows.{row_count, program_in, at_row, Valid}
use Rattle.program.specs.Reach.{itself, reached}
use Rattle.program.specs.Refusal.{number_of}
use Rattle.program.specs.Validation.{answered, refusal_number, rows_taken, places_taken, rows_refusal, places_refusal, unless, program_refusal}
use Rattle.program.specs.declared.refusal.Refusal.{Refusal}
use Rattle.program.specs.declared.refusal.Refusal.TheVariants.{TooDear}
use Rattle.program.proofs.Numbering.{answered_by_number}
use Rattle.program.proofs.Options.{none_some, or_none, cases_option}
use Rattle.program.proofs.Programs.{program_in_is}
use Rattle.program.proofs.Reaching.{reached_decides}
use Rattle.program.proofs.Refusing.{unrefused_valid}
use Rattle.program.proofs.Shape.{Shape}
use Rattle.pricing.specs.Table.{max_price, capped, Priced}
use Rattle.pricing.specs.Refusals.{is_dear, dear_pair, dear_row, price_refusal, quoted}
use Rattle.pricing.specs.Laws.{LowestDear}
use Rattle.pricing.proofs.Lowest.{lowest_is, lowest_passes, lowest_before}
use Rattle.pricing.proofs.Tabling.{priced_at}

-- two tests aren't both passed, and the first one is: then the second isn't
and_false : (x y : Bool) → x ≡ true → (x && y) ≡ false → y ≡ false
and_false true y e h = h
and_false false y e h = absurd (false≢true e)

-- what the two tables show of a row
pub shown_dear : (xs : List ℕ) (n : ℕ) (t : List ℕ) → Priced xs n t → (j : ℕ) → j < n → (flag : Bool) → flag ≡ reached xs j → (flag && ltb max_price (get_or t j 0)) ≡ is_dear xs j
shown_dear xs n t h j l flag e = λ k. e k && above k
  where
    above : ltb max_price (get_or t j 0) ≡ ltb max_price (at_most (at_row xs j))
    above = let at : get_or t j 0 ≡ capped (at_most (at_row xs j)) = priced_at xs n t h j l in grind (arith, nat_tests)

-- the two tables side by side
module _ (xs : List ℕ) (s : Shape xs) (ts : List Bool) (ps : List ℕ) (reaches : (k : ℕ) → get_or ts k false ≡ reached xs k) (priced : Priced xs (row_count xs) ps) (long : length ts ≡ 256) (as_long : length ps ≡ 256) where
  paired : (k : ℕ) → k < 256 → dear_pair (get_or (zip ts ps) k (false, 0)) ≡ (get_or ts k false && ltb max_price (get_or ps k 0))
  paired k l = ap dear_pair (get_or-zip ts ps k (false, 0) (omega arith) (omega arith))

  -- what they show of a row
  shown : (k : ℕ) → k < row_count xs → dear_pair (get_or (zip ts ps) k (false, 0)) ≡ is_dear xs k
  shown k l = paired k (omega (arith, s.few)) ∙ shown_dear xs (row_count xs) ps priced k l (get_or ts k false) (reaches k)

  -- nothing behind the last row has a price
  dear_within : (k : ℕ) → k < 256 → dear_pair (get_or (zip ts ps) k (false, 0)) ≡ true → k < row_count xs
  dear_within k l h =
      ⊎_elim (λ m. m)
      (λ m.
      let above : max_price < get_or ps k 0 = ltb-true _ _ (and_parts (get_or ts k false) _ (sym (paired k l) ∙ h)).1 in
      let none : get_or ps k 0 ≡ 0 = priced k ∙ cond-false (ltb k (row_count xs)) _ 0 (le-ltb k (row_count xs) m) in
      absurd (omega arith))
      (cases_lt k (row_count xs))

  wide : length (zip ts ps) ≡ 256
  wide = length-zip ts ps ∙ omega arith

  -- so the first such pair stands at the lowest such row
  pub found_dear : unwrap_or (position dear_pair (zip ts ps)) (row_count xs - 1) ≡ dear_row xs
  found_dear =
      ⊎_elim
      (λ (none : position dear_pair (zip ts ps) ≡ None).
      ap (λ o. unwrap_or o (row_count xs - 1)) none
      ∙ sym (lowest_is (is_dear xs) (row_count xs - 1) (row_count xs - 1) (omega arith) (λ j l. sym (shown j (omega arith)) ∙ unfound j none (omega (arith, s.few))) (λ l. absurd (omega arith))))
      (λ (some : (k : ℕ) × (position dear_pair (zip ts ps) ≡ Some k)).
      let (k, e) = some in
      let (within, here, before) = position-Some dear_pair (zip ts ps) k (false, 0) e in
      let row : k < row_count xs = dear_within k (omega (arith, wide)) here in
      ap (λ o. unwrap_or o (row_count xs - 1)) e
      ∙ sym (lowest_is (is_dear xs) (row_count xs - 1) k (omega arith) (λ j l. sym (shown j (omega arith)) ∙ before j l) (λ l. sym (shown k row) ∙ here)))
      (cases_option (position dear_pair (zip ts ps)))
    where
      unfound : (j : ℕ) → position dear_pair (zip ts ps) ≡ None → j < 256 → dear_pair (get_or (zip ts ps) j (false, 0)) ≡ false
      unfound j none l =
          let ends : length (zip ts ps) ≤ position_or_len dear_pair (zip ts ps) =
          ⊎_elim (λ h. absurd (none_some _ (sym none ∙ cond-true (ltb (position_or_len dear_pair (zip ts ps)) (length (zip ts ps))) _ _ h))) (λ h. ltb-false _ _ h)
          (cases_Bool (ltb (position_or_len dear_pair (zip ts ps)) (length (zip ts ps))))
          in
          fails_before_first dear_pair (zip ts ps) j (false, 0) (omega (arith, wide))

-- the lowest row, where the last one is dear
lowest_dear : (xs : List ℕ) → Valid xs → max_price < at_most (program_in xs) → LowestDear xs (dear_row xs)
lowest_dear xs v d =
    let last : reached xs (row_count xs - 1) ≡ true = (reached_decides xs v (row_count xs - 1)).1 (itself refl) in
    let dear_last : max_price < at_most (at_row xs (row_count xs - 1)) = subst (λ (p : Program). max_price < at_most p) (program_in_is xs v) d in
    let passes = lowest_passes (is_dear xs) (row_count xs - 1) (and_from (reached xs (row_count xs - 1)) _ last (lt-ltb _ _ dear_last)) in
    let both = and_parts (reached xs (dear_row xs)) _ passes in
    record {
      reaches = (reached_decides xs v (dear_row xs)).0 both.0;
      above = ltb-true _ _ both.1;
      lowest = λ j l r. ltb-false _ _ (and_false (reached xs j) _ ((reached_decides xs v j).1 r) (lowest_before (is_dear xs) (row_count xs - 1) j l));
    }

-- validation alone never answers number 3
not_by_validation : (rows places : Bool) (n : ℕ) → n ≡ cond rows (cond places 0 2) 1 → n ≡ 3 → ⊥
not_by_validation true true n e three = omega arith
not_by_validation true false n e three = omega arith
not_by_validation false places n e three = omega arith

-- what a refusal of the price comes from
by_price : (o p : Option Refusal) (cost k limit : ℕ) → (answered o ≡ 3 → ⊥) → unless (option_or o p) cost ≡ Err (TooDear k limit) → (o ≡ None) × (p ≡ Some (TooDear k limit))
by_price None None cost k limit h e = (refl, cc)
by_price None (Some r) cost k limit h e = (refl, cc)
by_price (Some r) p cost k limit h e = let same : r ≡ TooDear k limit = cc in absurd (h (ap number_of same))

-- of what the refusal says
said_of : (price row k limit : ℕ) → cond (leb price max_price) None (Some (TooDear row max_price)) ≡ Some (TooDear k limit) → (limit ≡ max_price) × (max_price < price) × (row ≡ k)
said_of price row k limit e =
    ⊎_elim (λ (t : leb price max_price ≡ true). absurd (none_some (TooDear k limit) (sym (cond-true (leb price max_price) None (Some (TooDear row max_price)) t) ∙ e)))
    (λ (t : leb price max_price ≡ false).
    let same : Some (TooDear row max_price) ≡ Some (TooDear k limit) = sym (cond-false (leb price max_price) None (Some (TooDear row max_price)) t) ∙ e in
    (cc, leb-false price max_price t, cc))
    (cases_Bool (leb price max_price))

pub dear_row_is_lowest : (xs : List ℕ) (n k limit : ℕ) → quoted xs n ≡ Err (TooDear k limit) → (limit ≡ max_price) × (max_price < at_most (program_in xs)) × LowestDear xs k
unfolding refusal_number
dear_row_is_lowest xs n k limit e =
    let (taken, said) = by_price (program_refusal xs n) (price_refusal xs) (at_most (program_in xs)) k limit (not_by_validation (rows_taken xs) (places_taken xs n) _ (answered_by_number xs n)) e in
    let (is, above, row) = said_of (at_most (program_in xs)) (dear_row xs) k limit said in
    let v : Valid xs = unrefused_valid xs (or_none (rows_refusal xs) (places_refusal xs n) taken).0 in
    (is, above, subst (LowestDear xs) row (lowest_dear xs v above))
