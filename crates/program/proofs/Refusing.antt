-- Which refusal the definitions give: how a scan goes on, and when it says nothing. Assumes nothing.
use Rattle.std.proofs.Common.{◌≡◌, ℕ, zero, suc, ◌+◌, ◌*◌, ◌<◌, ◌≤◌, Bool, true, false, cond, not, ◌&&◌, ◌||◌, eqb, ltb, leb, ◌⊎◌, List, [], ◌∷◌, length, is_some, Some, None, Ok, Err, Option, sym, refl, ap, ◌∙◌, subst, inl, inr, ⊎_elim, add-one, arith}
use Rattle.std.proofs.lemmas.Bool.{ne_eqb, le-leb, and_parts, and_from, not-false, not_from_false, cases_lt}
use Rattle.std.specs.Option.{option_or, option_map}
use Rattle.program.specs.Row.{kind, named, row_in}
use Rattle.program.specs.Rows.{row_count, row_ok, rows_ok, shaped, Valid}
use Rattle.program.specs.Validation.{unless, rows_taken, first_said, first_not_earlier, kind_refusal, order_refusal, row_refusal, rows_refusal}
use Rattle.program.specs.declared.row.Row.{Row}
use Rattle.program.specs.declared.refusal.Refusal.{Refusal}
use Rattle.program.specs.declared.refusal.Refusal.TheVariants.{NotEarlier}
use Rattle.program.proofs.Earlier.{earlier, row_ok_is}
use Rattle.program.proofs.Options.{none_some, or_none, cases_option, none_if, some_of_either, some_mapped}
use Rattle.program.proofs.Unless.{unless_ok, unless_err}

at_end : (i n : ℕ) → i ≤ suc n → (i ≡ suc n) ⊎ (i ≤ n)
at_end i n h = ⊎_elim (λ l. inr (omega arith)) (λ l. inl (omega arith)) (cases_lt i (suc n))

-- a scan that said something says it to the end
said_on : (f : ℕ → Option Refusal) (r : Refusal) (i n : ℕ) → first_said f i ≡ Some r → i ≤ n → first_said f n ≡ Some r
unfolding first_said
said_on f r i zero e h = let z : i ≡ 0 = omega arith in subst (λ (k : ℕ). first_said f k ≡ Some r) z e
said_on f r i (suc n) e h =
    ⊎_elim (λ z. subst (λ (k : ℕ). first_said f k ≡ Some r) z e) (λ l. ap (λ o. option_or o (f n)) (said_on f r i n e l)) (at_end i n h)

-- a scan up to row i has said nothing: what is refused of row i is what the scan to the end answers
pub refused_here : (f : ℕ → Option Refusal) (i n : ℕ) (r : Refusal) → first_said f i ≡ None → unless (f i) (tt {0}) ≡ Err r → i < n → unless (first_said f n) (tt {0}) ≡ Err r
unfolding first_said
refused_here f i n r none here l = ap (λ o. unless o (tt {0})) (said_on f r (suc i) n (ap (λ o. option_or o (f i)) none ∙ unless_err (f i) tt r here) l)

-- and where nothing is refused of it, nothing is said up to the next row
pub taken_here : (f : ℕ → Option Refusal) (i : ℕ) → first_said f i ≡ None → unless (f i) (tt {0}) ≡ Ok tt → first_said f (i + 1) ≡ None
unfolding first_said
taken_here f i none here = ap (first_said f) (add-one i) ∙ ap (λ o. option_or o (f i)) none ∙ (unless_ok (f i) tt tt here).0

-- of no row nothing is said
pub said_none : (f : ℕ → Option Refusal) → first_said f 0 ≡ None
unfolding first_said
said_none f = refl

-- a scan that says nothing says nothing of each row
pub said_none_at : (f : ℕ → Option Refusal) (n i : ℕ) → first_said f n ≡ None → i < n → f i ≡ None
unfolding first_said
said_none_at f zero i e l = absurd (omega arith)
said_none_at f (suc n) i e l =
    let p = or_none (first_said f n) (f n) e in
    ⊎_elim (λ h. said_none_at f n i p.0 h) (λ h. let z : n ≡ i = omega arith in subst (λ (k : ℕ). f k ≡ None) z p.1) (cases_lt i n)

-- a scan that says something says it of a row, and nothing of the rows before
pub said_some_at : (f : ℕ → Option Refusal) (n : ℕ) (r : Refusal) → first_said f n ≡ Some r → (i : ℕ) × (i < n) × (f i ≡ Some r) × (first_said f i ≡ None)
unfolding first_said
said_some_at f zero r e = absurd (none_some r e)
said_some_at f (suc n) r e =
    let before = said_some_at f n r in
    ⊎_elim (λ (h : first_said f n ≡ None). (n, omega arith, sym (ap (λ o. option_or o (f n)) h) ∙ e, h))
    (λ (h : (q : Refusal) × (first_said f n ≡ Some q)).
    let (i, l, a, b) = before (h.1 ∙ sym (ap (λ o. option_or o (f n)) h.1) ∙ e) in
    (i, omega arith, a, b))
    (cases_option (first_said f n))

not_both : (a b : Bool) → (not b || not a) ≡ not (a && b)
not_both true true = refl
not_both true false = refl
not_both false true = refl
not_both false false = refl

later_by : (t e : Bool) (o : Option ℕ) (j : ℕ) → is_some o ≡ not e → is_some (cond t o (Some j)) ≡ not (t && e)
later_by true e o j h = h
later_by false e o j h = refl

kind_by : (t e : Bool) (o : Option Refusal) (x : Refusal) → is_some o ≡ not e → is_some (option_or (cond t None (Some x)) o) ≡ not (t && e)
kind_by true e o x h = h
kind_by false e o x h = refl

-- what is refused of a row of a known kind, by the first row that it names and that isn't earlier
pub row_refusal_named : (xs : List ℕ) (i : ℕ) (r : Row) (js : List ℕ) (o : Option ℕ) → unless (kind_refusal i (kind xs i)) (tt {0}) ≡ Ok tt → r ≡ row_in xs i → js ≡ named r → o ≡ first_not_earlier i js →
    row_refusal xs i ≡ option_map (NotEarlier i) o
unfolding row_refusal
row_refusal_named xs i r js o known read is found =
    ap (λ k. option_or k (order_refusal i (named (row_in xs i)))) (unless_ok (kind_refusal i (kind xs i)) tt tt known).0
    ∙ ap (option_map (NotEarlier i)) (ap (first_not_earlier i) (ap named (sym read) ∙ sym is) ∙ sym found)

later_some : (i : ℕ) (js : List ℕ) → is_some (first_not_earlier i js) ≡ not (earlier i js)
later_some i [] = refl
later_some i (j ∷ js) = later_by (ltb j i) (earlier i js) (first_not_earlier i js) j (later_some i js)

-- something is said of a row exactly where it isn't right
pub row_refusal_some : (xs : List ℕ) (i : ℕ) → is_some (row_refusal xs i) ≡ not (row_ok xs i)
unfolding row_refusal
row_refusal_some xs i =
    kind_by (leb (kind xs i) 8) (earlier i (named (row_in xs i))) (order_refusal i (named (row_in xs i))) _
    (some_mapped (NotEarlier i) (first_not_earlier i (named (row_in xs i))) ∙ later_some i (named (row_in xs i)))
    ∙ ap not (sym (row_ok_is xs i))

pub scan_some : (xs : List ℕ) (n : ℕ) → is_some (first_said (row_refusal xs) n) ≡ not (rows_ok xs n)
unfolding first_said rows_ok
scan_some xs zero = refl
scan_some xs (suc n) =
    some_of_either (first_said (row_refusal xs) n) (row_refusal xs n) ∙ (λ t. scan_some xs n t || row_refusal_some xs n t) ∙ not_both (row_ok xs n) (rows_ok xs n)

pub one_or_more : (n : ℕ) → leb 1 n ≡ not (eqb n 0)
one_or_more zero = refl
one_or_more (suc n) = le-leb 1 (suc n) (omega arith) ∙ sym (not_from_false _ (ne_eqb (suc n) 0 (λ e. omega arith)))

shape_some : (whole none few ok : Bool) (o : Option Refusal) (x y z : Refusal) → is_some o ≡ not ok →
    is_some (option_or (cond whole (cond none (Some x) (cond few None (Some y))) (Some z)) o) ≡ not (whole && (not none && (few && ok)))
shape_some true true few ok o x y z h = refl
shape_some true false true ok o x y z h = h
shape_some true false false ok o x y z h = refl
shape_some false none few ok o x y z h = refl

-- refusal number 1 applies exactly where the rows aren't taken
pub rows_refusal_some : (xs : List ℕ) → is_some (rows_refusal xs) ≡ not (rows_taken xs)
unfolding rows_taken
rows_refusal_some xs =
    shape_some (eqb (length xs) (4 * row_count xs)) (eqb (row_count xs) 0) (leb (row_count xs) 256) (rows_ok xs (row_count xs)) (first_said (row_refusal xs) (row_count xs)) _ _ _ (scan_some xs (row_count xs))
    ∙ ap (λ t. not (eqb (length xs) (4 * row_count xs) && (t && (leb (row_count xs) 256 && rows_ok xs (row_count xs))))) (sym (one_or_more (row_count xs)))

-- rows that are taken are valid, and valid rows are taken
pub taken_valid : (xs : List ℕ) → rows_taken xs ≡ true → Valid xs
unfolding rows_taken shaped
taken_valid xs h =
    let p = and_parts (eqb (length xs) (4 * row_count xs)) _ h in
    let q = and_parts (leb 1 (row_count xs)) _ p.1 in
    let r = and_parts (leb (row_count xs) 256) _ q.1 in
    record { shape = and_from _ _ p.0 (and_from _ _ q.0 r.0); order = r.1 }

valid_taken : (xs : List ℕ) → Valid xs → rows_taken xs ≡ true
unfolding rows_taken shaped
valid_taken xs v =
    let p = and_parts (eqb (length xs) (4 * row_count xs)) _ v.shape in
    let q = and_parts (leb 1 (row_count xs)) _ p.1 in
    and_from _ _ p.0 (and_from _ _ q.0 (and_from _ _ q.1 v.order))

-- number 1 is answered of just the numbers that aren't valid
pub unrefused_valid : (xs : List ℕ) → rows_refusal xs ≡ None → Valid xs
unrefused_valid xs e = taken_valid xs (not-false (rows_taken xs) (sym (rows_refusal_some xs) ∙ ap is_some e))

pub valid_unrefused : (xs : List ℕ) → Valid xs → rows_refusal xs ≡ None
valid_unrefused xs v = none_if (rows_refusal xs) (rows_refusal_some xs ∙ ap not (valid_taken xs v))

-- how a scan goes on
pub ruleset scans = (said_none, refused_here, taken_here)
