-- What a program names and what it fits: one lemma for each way, a clause for each kind of program. Assumes nothing.
use Rattle.std.proofs.Common.{◌≡◌, ℕ, ◌<◌, ◌≤◌, Bool, true, ◌&&◌, ◌||◌, eqb, ltb, refl, subst, ⊎_elim, arith}
use Rattle.std.proofs.lemmas.Bool.{false≢true, ltb-true, lt-ltb, eqb-true, eq-eqb, and_parts, and_from, or_cases, or_left, or_right}
use Rattle.std.specs.List.{AllByRecursion}
use Rattle.semantics.specs.Program.{Program, constant, place, added, times, less, set, after, if_not_nought, again, fits, names, parts, Within, whole, inside}
use Rattle.semantics.proofs.Members.{all_member}

-- two tests passed, and one of two others: what each pair gives
both : {P : Type 0} (a b c d : Bool) → (a ≡ true → c ≡ true → P) → (b ≡ true → d ≡ true → P) → (a && b) ≡ true → (c || d) ≡ true → P
both a b c d left right f m = ⊎_elim (left (and_parts a b f).0) (right (and_parts a b f).1) (or_cases c d m)

-- a place that is named by the node itself
own : (n i j : ℕ) → ltb j n ≡ true → eqb i j ≡ true → i < n
own n i j f m = omega (arith, ltb-true j n f, eqb-true i j m)

pub fits_below : (n i : ℕ) (p : Program) → fits n p ≡ true → names i p ≡ true → i < n
unfolding fits names
fits_below n i (constant k) f m = absurd (false≢true m)
fits_below n i (place j) f m = own n i j f m
fits_below n i (added p q) f m = both (fits n p) (fits n q) (names i p) (names i q) (fits_below n i p) (fits_below n i q) f m
fits_below n i (times p q) f m = both (fits n p) (fits n q) (names i p) (names i q) (fits_below n i p) (fits_below n i q) f m
fits_below n i (less p q) f m = both (fits n p) (fits n q) (names i p) (names i q) (fits_below n i p) (fits_below n i q) f m
fits_below n i (set j p) f m = both (ltb j n) (fits n p) (eqb i j) (names i p) (own n i j) (fits_below n i p) f m
fits_below n i (after p q) f m = both (fits n p) (fits n q) (names i p) (names i q) (fits_below n i p) (fits_below n i q) f m
fits_below n i (if_not_nought p q r) f m =
    both (fits n p) (fits n q && fits n r) (names i p) (names i q || names i r) (fits_below n i p)
    (both (fits n q) (fits n r) (names i q) (names i r) (fits_below n i q) (fits_below n i r)) f m
fits_below n i (again l p q) f m = both (fits n p) (fits n q) (names i p) (names i q) (fits_below n i p) (fits_below n i q) f m

-- two tests pass, where each passes once what one of two others gives is below a number
from_both : (n : ℕ) (a b : Bool) (c d : ℕ → Bool) → (((i : ℕ) → c i ≡ true → i < n) → a ≡ true) → (((i : ℕ) → d i ≡ true → i < n) → b ≡ true) → ((i : ℕ) → (c i || d i) ≡ true → i < n) → (a && b) ≡ true
from_both n a b c d left right h = and_from a b (left (λ i m. h i (or_left (c i) (d i) m))) (right (λ i m. h i (or_right (c i) (d i) m)))

pub fits_from_names : (n : ℕ) (p : Program) → ((i : ℕ) → names i p ≡ true → i < n) → fits n p ≡ true
unfolding fits names
fits_from_names n (constant k) h = refl
fits_from_names n (place j) h = lt-ltb j n (h j (eq-eqb j j refl))
fits_from_names n (added p q) h = from_both n (fits n p) (fits n q) (λ i. names i p) (λ i. names i q) (fits_from_names n p) (fits_from_names n q) h
fits_from_names n (times p q) h = from_both n (fits n p) (fits n q) (λ i. names i p) (λ i. names i q) (fits_from_names n p) (fits_from_names n q) h
fits_from_names n (less p q) h = from_both n (fits n p) (fits n q) (λ i. names i p) (λ i. names i q) (fits_from_names n p) (fits_from_names n q) h
fits_from_names n (set j p) h = from_both n (ltb j n) (fits n p) (λ i. eqb i j) (λ i. names i p) (λ g. lt-ltb j n (g j (eq-eqb j j refl))) (fits_from_names n p) h
fits_from_names n (after p q) h = from_both n (fits n p) (fits n q) (λ i. names i p) (λ i. names i q) (fits_from_names n p) (fits_from_names n q) h
fits_from_names n (if_not_nought p q r) h =
    from_both n (fits n p) (fits n q && fits n r) (λ i. names i p) (λ i. names i q || names i r) (fits_from_names n p)
    (from_both n (fits n q) (fits n r) (λ i. names i q) (λ i. names i r) (fits_from_names n q) (fits_from_names n r)) h
fits_from_names n (again l p q) h = from_both n (fits n p) (fits n q) (λ i. names i p) (λ i. names i q) (fits_from_names n p) (fits_from_names n q) h

pub fits_more : (m n : ℕ) (p : Program) → m ≤ n → fits m p ≡ true → fits n p ≡ true
fits_more m n p le f = fits_from_names n p (λ i e. omega (arith, fits_below m i p f e))

-- each part's names are the program's
parts_named : (i : ℕ) (p : Program) → AllByRecursion (λ q. names i q ≡ true → names i p ≡ true) (parts p)
unfolding names parts
parts_named i (constant k) = tt
parts_named i (place j) = tt
parts_named i (added p q) = (or_left _ _, (or_right _ _, tt))
parts_named i (times p q) = (or_left _ _, (or_right _ _, tt))
parts_named i (less p q) = (or_left _ _, (or_right _ _, tt))
parts_named i (set j p) = (or_right _ _, tt)
parts_named i (after p q) = (or_left _ _, (or_right _ _, tt))
parts_named i (if_not_nought p q r) = (or_left _ _, ((λ m. or_right (names i p) _ (or_left _ _ m)), ((λ m. or_right (names i p) _ (or_right (names i q) _ m)), tt)))
parts_named i (again l p q) = (or_left _ _, (or_right _ _, tt))

pub names_within : (i : ℕ) {q p : Program} → Within q p → names i q ≡ true → names i p ≡ true
names_within i {p = p} (whole e) m = subst (λ (r : Program). names i r ≡ true) e m
names_within i {p = p} (inside part mem w) m = all_member (λ q. names i q ≡ true → names i p ≡ true) (parts p) (parts_named i p) mem (names_within i w m)

pub fits_within : (n : ℕ) {q p : Program} → Within q p → fits n p ≡ true → fits n q ≡ true
fits_within n {q} {p} w f = fits_from_names n q (λ i m. fits_below n i p f (names_within i w m))
