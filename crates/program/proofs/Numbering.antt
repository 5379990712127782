-- The numbers and the rows that refusals say. Assumes nothing.
use Rattle.std.proofs.Common.{◌≡◌, ℕ, zero, suc, ◌*◌, ◌<◌, Bool, true, false, cond, not, ◌&&◌, eqb, leb, List, length, is_some, Some, None, Option, sym, refl, ap, ◌∙◌, ⊎_elim, arith}
use Rattle.std.proofs.lemmas.Bool.{true≢false, false≢true, cond-true, cond-false, eq-eqb, ne_eqb, le-leb, not-true, not-false, cases_Bool}
use Rattle.std.specs.Option.{option_map, option_or}
use Rattle.program.specs.Row.{kind, named, row_in}
use Rattle.program.specs.Rows.{row_count, rows_ok, row_ok, shaped}
use Rattle.program.specs.Refusal.{place_of}
use Rattle.program.specs.Validation.{answered, refusal_number, rows_taken, first_said, first_not_earlier, kind_refusal, row_refusal, shape_refusal, rows_refusal, places_refusal, program_refusal}
use Rattle.program.specs.declared.refusal.Refusal.{Refusal}
use Rattle.program.specs.declared.refusal.Refusal.TheVariants.{CutShort, NoRows, TooManyRows, UnknownKind, NotEarlier}
use Rattle.program.proofs.Placing.{places_number}
use Rattle.program.proofs.Options.{none_some}
use Rattle.program.proofs.Refusing.{one_or_more, said_some_at, row_refusal_some, scan_some, rows_refusal_some, taken_valid, valid_unrefused}
use Rattle.program.proofs.Shape.{Shape, shape_of}

-- what is said, if anything, is number 1
abbrev Number1 : Option Refusal → Type 0
Number1 o = answered o ≡ cond (is_some o) 1 0

either_1 : (o p : Option Refusal) → Number1 o → Number1 p → Number1 (option_or o p)
either_1 None p h k = k
either_1 (Some r) p h k = h

cond_1 : (t : Bool) (o p : Option Refusal) → Number1 o → Number1 p → Number1 (cond t o p)
cond_1 true o p h k = h
cond_1 false o p h k = k

later_1 : (i : ℕ) (o : Option ℕ) → Number1 (option_map (NotEarlier i) o)
later_1 i None = refl
later_1 i (Some j) = refl

scan_1 : (xs : List ℕ) (n : ℕ) → Number1 (first_said (row_refusal xs) n)
unfolding first_said row_refusal
scan_1 xs zero = refl
scan_1 xs (suc n) =
    either_1 (first_said (row_refusal xs) n) (row_refusal xs n) (scan_1 xs n)
    (either_1 (kind_refusal n (kind xs n)) _ (cond_1 (leb (kind xs n) 8) _ _ refl refl) (later_1 n (first_not_earlier n (named (row_in xs n)))))

rows_1 : (xs : List ℕ) → Number1 (rows_refusal xs)
rows_1 xs =
    either_1 (shape_refusal (length xs) (row_count xs)) (first_said (row_refusal xs) (row_count xs))
    (cond_1 (eqb (length xs) (4 * row_count xs)) _ _ (cond_1 (eqb (row_count xs) 0) _ _ refl (cond_1 (leb (row_count xs) 256) _ _ refl refl)) refl) (scan_1 xs (row_count xs))

first_answered : (o p : Option Refusal) → is_some o ≡ true → answered (option_or o p) ≡ answered o
first_answered None p e = absurd (false≢true e)
first_answered (Some r) p e = refl

-- the refusal that is answered has the number that the rules give
pub answered_by_number : (xs : List ℕ) (n : ℕ) → answered (program_refusal xs n) ≡ refusal_number xs n
unfolding refusal_number
answered_by_number xs n =
    ⊎_elim
    (λ (t : rows_taken xs ≡ true).
    ap (λ o. answered (option_or o (places_refusal xs n))) (valid_unrefused xs (taken_valid xs t))
    ∙ places_number xs n (taken_valid xs t) ∙ sym (cond-true (rows_taken xs) _ _ t))
    (λ (t : rows_taken xs ≡ false).
    let some : is_some (rows_refusal xs) ≡ true = rows_refusal_some xs ∙ ap not t in
    first_answered (rows_refusal xs) (places_refusal xs n) some ∙ rows_1 xs ∙ cond-true (is_some (rows_refusal xs)) 1 0 some ∙ sym (cond-false (rows_taken xs) _ _ t))
    (cases_Bool (rows_taken xs))

-- what is said of a row is said at that row
said_at_row : (xs : List ℕ) (i : ℕ) (r : Refusal) → row_refusal xs i ≡ Some r → place_of r ≡ i
unfolding row_refusal
said_at_row xs i r e = by_kind_of (leb (kind xs i) 8) (first_not_earlier i (named (row_in xs i))) e
  where
    by_kind_of : (t : Bool) (o : Option ℕ) → option_or (cond t None (Some (UnknownKind i (kind xs i) 8))) (option_map (NotEarlier i) o) ≡ Some r → place_of r ≡ i
    by_kind_of true None h = absurd (none_some r h)
    by_kind_of true (Some j) h = let same : NotEarlier i j ≡ r = cc in sym (ap place_of same)
    by_kind_of false o h = let same : UnknownKind i (kind xs i) 8 ≡ r = cc in sym (ap place_of same)

-- rows in shape are refused for one of them, or not at all
in_shape : (xs : List ℕ) → shaped xs ≡ true → rows_refusal xs ≡ first_said (row_refusal xs) (row_count xs)
in_shape xs h =
    let s : Shape xs = shape_of xs h in
    ap (λ o. option_or o (first_said (row_refusal xs) (row_count xs)))
    (cond-true (eqb (length xs) (4 * row_count xs)) _ _ (eq-eqb _ _ s.whole) ∙ cond-false (eqb (row_count xs) 0) _ _ (ne_eqb _ _ (λ e. omega arith)) ∙ cond-true (leb (row_count xs) 256) _ _ (le-leb _ _ s.few))

-- the row that is said is the lowest that is wrong
pub lowest_row : (xs : List ℕ) (r : Refusal) → shaped xs ≡ true → rows_refusal xs ≡ Some r → (place_of r < row_count xs) × (rows_ok xs (place_of r) ≡ true) × (row_ok xs (place_of r) ≡ false)
lowest_row xs r h e =
    let (i, l, here, before) = said_some_at (row_refusal xs) (row_count xs) r (sym (in_shape xs h) ∙ e) in
    let at : place_of r ≡ i = said_at_row xs i r here in (
      omega arith,
      ap (rows_ok xs) at ∙ not-false (rows_ok xs i) (sym (scan_some xs i) ∙ ap is_some before),
      ap (row_ok xs) at ∙ not-true (row_ok xs i) (sym (row_refusal_some xs i) ∙ ap is_some here),
    )

-- of numbers out of shape, by what is wrong with them
unshaped_case : (whole none few : Bool) (i n : ℕ) (o : Option Refusal) (r : Refusal) → (whole && (not none && few)) ≡ false →
    option_or (cond whole (cond none (Some NoRows) (cond few None (Some (TooManyRows i 256)))) (Some (CutShort i n))) o ≡ Some r → place_of r ≡ cond whole (cond none 0 256) i
unshaped_case true true few i n o r h e = let same : NoRows ≡ r = cc in sym (ap place_of same)
unshaped_case true false true i n o r h e = absurd (true≢false h)
unshaped_case true false false i n o r h e = let same : TooManyRows i 256 ≡ r = cc in sym (ap place_of same)
unshaped_case false none few i n o r h e = let same : CutShort i n ≡ r = cc in sym (ap place_of same)

pub unshaped_row : (xs : List ℕ) (r : Refusal) → shaped xs ≡ false → rows_refusal xs ≡ Some r →
    place_of r ≡ cond (eqb (length xs) (4 * row_count xs)) (cond (eqb (row_count xs) 0) 0 256) (row_count xs)
unfolding shaped
unshaped_row xs r h e =
    unshaped_case (eqb (length xs) (4 * row_count xs)) (eqb (row_count xs) 0) (leb (row_count xs) 256) (row_count xs) (length xs) (first_said (row_refusal xs) (row_count xs)) r
    (ap (λ t. eqb (length xs) (4 * row_count xs) && (t && leb (row_count xs) 256)) (sym (one_or_more (row_count xs))) ∙ h) e
