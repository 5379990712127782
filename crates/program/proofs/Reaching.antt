-- What a row reaches: the test and the relation agree, and both agree with the program that the row stands for. Assumes nothing.
use Rattle.std.proofs.Common.{◌≡◌, ℕ, zero, suc, ◌-◌, ◌<◌, ◌≤◌, Bool, true, ◌||◌, eqb, ◌⊎◌, List, [], ◌∷◌, map, IfSome, Some, None, Decides, Option, sym, refl, ap, ◌∙◌, subst, inl, inr, ⊎_elim, arith}
use mathlib.Core.List.Memᴰ
use mathlib.Core.List.{Memᴰ}
use Rattle.std.proofs.lemmas.Bool.{false≢true, eqb-true, eq-eqb, or_cases, or_left, or_right}
use Rattle.std.specs.List.{AllByRecursion}
use Rattle.semantics.specs.Program.{Program, fits, names, parts, Within, whole, inside}
use Rattle.semantics.proofs.Members.{all_member, all_from_members, member_map, map_member}
use Rattle.semantics.proofs.Naming.{fits_below, fits_from_names, fits_within, names_within}
use Rattle.program.specs.Row.{named, row_in, own_place}
use Rattle.program.specs.Rows.{row_count, rows_ok, program_in, program_of, at_row, Valid}
use Rattle.program.specs.Reads.{Reads, There, FitsReads}
use Rattle.program.specs.Reach.{Reaches, itself, through, any, reaches_by, reached}
use Rattle.program.specs.declared.row.Row.{Row}
use Rattle.program.specs.declared.row.Row.TheVariants.{Constant, Place, Add, Multiply, Less, Store, Sequence, Choice, Loop}
use Rattle.program.proofs.Earlier.{names_earlier}
use Rattle.program.proofs.Programs.{program_of_same, at_row_is, program_in_is}
use Rattle.program.proofs.Shape.{Shape, shape_of}

-- one that passes, as a member
any_member : (f : ℕ → Bool) (js : List ℕ) → any f js ≡ true → (j : ℕ) × Memᴰ j js × (f j ≡ true)
any_member f [] h = absurd (false≢true h)
any_member f (j ∷ js) h =
    ⊎_elim (λ e. (j, Memᴰ.head refl, e)) (λ e. let (k, m, t) = any_member f js e in (k, Memᴰ.tail m, t)) (or_cases (f j) (any f js) h)

member_any : (f : ℕ → Bool) {j : ℕ} (js : List ℕ) → Memᴰ j js → f j ≡ true → any f js ≡ true
member_any f [] m e = absurd (Memᴰ.not-nil m)
member_any f (k ∷ js) (Memᴰ.head i) e = or_left (f k) (any f js) (subst (λ (x : ℕ). f x ≡ true) i e)
member_any f (k ∷ js) (Memᴰ.tail m) e = or_right (f k) (any f js) (member_any f js m e)

-- a row that passes the test is reached
reaches_by_sound : (xs : List ℕ) (s i k : ℕ) → reaches_by xs s i k ≡ true → Reaches xs k i
unfolding reaches_by
reaches_by_sound xs zero i k h = itself (eqb-true k i h)
reaches_by_sound xs (suc s) i k h =
    ⊎_elim (λ e. itself (eqb-true k i e))
    (λ e. let (j, m, t) = any_member (λ j. reaches_by xs s j k) (named (row_in xs i)) e in through j m (reaches_by_sound xs s j k t))
    (or_cases (eqb k i) (any (λ j. reaches_by xs s j k) (named (row_in xs i))) h)

-- the parts of a row's program, the places that it names, and the place that the row names by itself
parts_of : (m : ℕ → Program) (r : Row) → parts (program_of m r) ≡ map m (named r)
unfolding parts
parts_of m (Constant value) = refl
parts_of m (Place i) = refl
parts_of m (Add left right) = refl
parts_of m (Multiply left right) = refl
parts_of m (Less left right) = refl
parts_of m (Store i value) = refl
parts_of m (Sequence one two) = refl
parts_of m (Choice condition then otherwise) = refl
parts_of m (Loop limit count body) = refl

own_names : (p : ℕ) (m : ℕ → Program) (r : Row) → own_place r ≡ Some p → names p (program_of m r) ≡ true
unfolding names
own_names p m (Constant value) e = cc
own_names p m (Place i) e = eq-eqb p i (cc)
own_names p m (Add left right) e = cc
own_names p m (Multiply left right) e = cc
own_names p m (Less left right) e = cc
own_names p m (Store i value) e = or_left (eqb p i) _ (eq-eqb p i (cc))
own_names p m (Sequence one two) e = cc
own_names p m (Choice condition then otherwise) e = cc
own_names p m (Loop limit count body) e = cc

there_if : (n : ℕ) (o : Option ℕ) → ((p : ℕ) → o ≡ Some p → p < n) → IfSome o (λ p. p < n)
there_if n None h = tt
there_if n (Some p) h = h p refl

-- what a row names by two rows, one of them names
by_two : (p : ℕ) (m : ℕ → Program) (a b : ℕ) {js : List ℕ} → (names p (m a) || names p (m b)) ≡ true → (j : ℕ) × Memᴰ j (a ∷ b ∷ js) × (names p (m j) ≡ true)
by_two p m a b h = ⊎_elim (λ e. (a, Memᴰ.head refl, e)) (λ e. (b, Memᴰ.tail (Memᴰ.head refl), e)) (or_cases (names p (m a)) (names p (m b)) h)

names_of : (p : ℕ) (m : ℕ → Program) (r : Row) → names p (program_of m r) ≡ true → (own_place r ≡ Some p) ⊎ ((j : ℕ) × Memᴰ j (named r) × (names p (m j) ≡ true))
unfolding names
names_of p m (Constant value) h = absurd (false≢true h)
names_of p m (Place i) h = inl (ap Some (sym (eqb-true p i h)))
names_of p m (Add left right) h = inr (by_two p m left right h)
names_of p m (Multiply left right) h = inr (by_two p m left right h)
names_of p m (Less left right) h = inr (by_two p m left right h)
names_of p m (Store i value) h = ⊎_elim (λ e. inl (ap Some (sym (eqb-true p i e)))) (λ e. inr (value, Memᴰ.head refl, e)) (or_cases (eqb p i) (names p (m value)) h)
names_of p m (Sequence one two) h = inr (by_two p m one two h)
names_of p m (Choice condition then otherwise) h =
    ⊎_elim (λ e. inr (condition, Memᴰ.head refl, e)) (λ e. let (j, mj, t) = by_two p m then otherwise e in inr (j, Memᴰ.tail mj, t))
    (or_cases (names p (m condition)) (names p (m then) || names p (m otherwise)) h)
names_of p m (Loop limit count body) h = inr (by_two p m count body h)

-- what a reached row names is reached
pub reaches_on : (xs : List ℕ) (j k : ℕ) {i : ℕ} → Reaches xs j i → Memᴰ k (named (row_in xs j)) → Reaches xs k i
reaches_on xs j k (itself e) m = through k (subst (λ (x : ℕ). Memᴰ k (named (row_in xs x))) e m) (itself refl)
reaches_on xs j k (through l ml r) m = through l ml (reaches_on xs j k r m)

-- the facts below hold of the first n rows, which are right
module _ (xs : List ℕ) (n : ℕ) (ok : rows_ok xs n ≡ true) where
  -- a member of what a row names is earlier
  pub member_earlier : (i j : ℕ) → i < n → Memᴰ j (named (row_in xs i)) → j < i
  member_earlier i j l m = all_member (λ j. j < i) (named (row_in xs i)) (names_earlier xs n i ok l) m

  -- what a row reaches isn't later
  pub reaches_back : (k : ℕ) {i : ℕ} → i < n → Reaches xs k i → k ≤ i
  reaches_back k {i} l (itself e) = omega arith
  reaches_back k {i} l (through j m r) =
      let h : j < i = member_earlier i j l m in
      let g : k ≤ j = reaches_back k {i = j} (omega arith) r in
      omega arith

  -- a row that is reached passes the test
  reaches_by_complete : (s k : ℕ) {i : ℕ} → i < n → i ≤ s → Reaches xs k i → reaches_by xs s i k ≡ true
  unfolding reaches_by
  reaches_by_complete zero k {i} l h (itself e) = eq-eqb k i e
  reaches_by_complete (suc s) k {i} l h (itself e) = or_left (eqb k i) _ (eq-eqb k i e)
  reaches_by_complete zero k {i} l h (through j m r) = let g : j < i = member_earlier i j l m in absurd (omega arith)
  reaches_by_complete (suc s) k {i} l h (through j m r) =
      let g : j < i = member_earlier i j l m in
      or_right (eqb k i) _ (member_any (λ j. reaches_by xs s j k) (named (row_in xs i)) m (reaches_by_complete s k {i = j} (omega arith) (omega arith) r))

  -- the parts of a row's program are the programs of the rows that it names
  parts_named : (i : ℕ) → i < n → parts (at_row xs i) ≡ map (at_row xs) (named (row_in xs i))
  parts_named i l = ap parts (at_row_is xs n i ok l) ∙ parts_of (at_row xs) (row_in xs i)

  -- what stands in a row's program is the program of a row that it reaches
  pub within_reached : {q p : Program} → Within q p → (i : ℕ) → i < n → p ≡ at_row xs i → (k : ℕ) × Reaches xs k i × (at_row xs k ≡ q)
  within_reached (whole e) i l is = (i, itself refl, sym is ∙ sym e)
  within_reached (inside part m w) i l is =
      let (j, mj, e) = member_map (at_row xs) (named (row_in xs i)) (subst (λ (ps : List Program). Memᴰ part ps) (ap parts is ∙ parts_named i l) m) in
      let h : j < i = member_earlier i j l mj in
      let (k, r, f) = within_reached w j (omega arith) e in
      (k, through j mj r, f)

  -- and the other way
  pub reached_within : (k : ℕ) {i : ℕ} → i < n → Reaches xs k i → Within (at_row xs k) (at_row xs i)
  reached_within k {i} l (itself e) = whole (ap (at_row xs) e)
  reached_within k {i} l (through j m r) =
      let h : j < i = member_earlier i j l m in
      inside (at_row xs j) (subst (λ (ps : List Program). Memᴰ (at_row xs j) ps) (sym (parts_named i l)) (map_member (at_row xs) (named (row_in xs i)) m))
      (reached_within k {i = j} (omega arith) r)

  -- a place that a reached row names by itself is named by the program
  own_named : (p k i : ℕ) → i < n → Reaches xs k i → own_place (row_in xs k) ≡ Some p → names p (at_row xs i) ≡ true
  own_named p k i l r e =
      let h : k ≤ i = reaches_back k l r in
      names_within p (reached_within k l r) (subst (λ (t : Program). names p t ≡ true) (sym (at_row_is xs n k ok (omega arith))) (own_names p (at_row xs) (row_in xs k) e))

  -- and a place that the program names is named by a reached row
  named_own : (p d i : ℕ) → i < d → i < n → names p (at_row xs i) ≡ true → (k : ℕ) × Reaches xs k i × (own_place (row_in xs k) ≡ Some p)
  named_own p zero i h l m = absurd (omega arith)
  named_own p (suc d) i h l m =
      ⊎_elim (λ e. (i, itself refl, e))
      (λ f. let (j, mj, t) = f in
      let g : j < i = member_earlier i j l mj in
      let (k, r, e) = named_own p d j (omega arith) (omega arith) t in
      (k, through j mj r, e))
      (names_of p (at_row xs) (row_in xs i) (subst (λ (t : Program). names p t ≡ true) (at_row_is xs n i ok l) m))

  -- a row's program fits: so do the programs at the rows that it names, and the place that it names by itself is there
  pub fits_row : (m i : ℕ) → i < n → fits m (at_row xs i) ≡ true → AllByRecursion (λ j. fits m (at_row xs j) ≡ true) (named (row_in xs i)) × There m (row_in xs i)
  fits_row m i l f = (
    all_from_members (λ j. fits m (at_row xs j) ≡ true) (named (row_in xs i)) (λ j mj.
        let h : j < i = member_earlier i j l mj in
        fits_within m (reached_within j l (through j mj (itself refl))) f),
    there_if m (own_place (row_in xs i)) (λ p e. fits_below m p (at_row xs i) f (own_named p i i l (itself refl) e)),
  )

-- rows that agree wherever a row reaches stand for the same program there
same_where_reached : (xs ys : List ℕ) (n top : ℕ) → rows_ok xs n ≡ true → rows_ok ys n ≡ true → ((k : ℕ) → Reaches xs k top → row_in ys k ≡ row_in xs k) →
    (d i : ℕ) → i < d → i < n → Reaches xs i top → at_row ys i ≡ at_row xs i
same_where_reached xs ys n top okx oky same zero i h l r = absurd (omega arith)
same_where_reached xs ys n top okx oky same (suc d) i h l r =
    at_row_is ys n i oky l ∙ ap (program_of (at_row ys)) (same i r)
    ∙ program_of_same (at_row ys) (at_row xs) (row_in xs i)
    (all_from_members (λ j. at_row ys j ≡ at_row xs j) (named (row_in xs i)) (λ j m.
    let e : j < i = member_earlier xs n okx i j l m in
    same_where_reached xs ys n top okx oky same d j (omega arith) (omega arith) (reaches_on xs i j r m)))
    ∙ sym (at_row_is xs n i okx l)

-- of a whole program: the last row
module _ (xs : List ℕ) (v : Valid xs) where
  pub last_row : row_count xs - 1 < row_count xs
  last_row = let s : Shape xs = shape_of xs v.shape in omega arith

  pub reached_decides : (k : ℕ) → Decides (reached xs k) (Reaches xs k (row_count xs - 1))
  unfolding reached
  reached_decides k = (
    reaches_by_sound xs (row_count xs) (row_count xs - 1) k,
    λ r. reaches_by_complete xs (row_count xs) v.order (row_count xs) k last_row (omega (arith, last_row)) r,
  )

  pub names_reached : (p : ℕ) → Decides (names p (program_in xs)) ((k : ℕ) × Reaches xs k (row_count xs - 1) × (own_place (row_in xs k) ≡ Some p))
  names_reached p = (
    λ m. named_own xs (row_count xs) v.order p (row_count xs) (row_count xs - 1) last_row last_row (subst (λ (t : Program). names p t ≡ true) (program_in_is xs v) m),
    λ h. let (k, r, e) = h in subst (λ (t : Program). names p t ≡ true) (sym (program_in_is xs v)) (own_named xs (row_count xs) v.order p k (row_count xs - 1) last_row r e),
  )

  pub fits_reached : (n : ℕ) → fits n (program_in xs) ≡ true → (k p : ℕ) → Reaches xs k (row_count xs - 1) → own_place (row_in xs k) ≡ Some p → p < n
  fits_reached n f k p r e = fits_below n p (program_in xs) f ((names_reached p).1 (k, r, e))

  pub reached_fits : (n : ℕ) → ((k p : ℕ) → Reaches xs k (row_count xs - 1) → own_place (row_in xs k) ≡ Some p → p < n) → fits n (program_in xs) ≡ true
  reached_fits n h = fits_from_names n (program_in xs) (λ p m. let (k, r, e) = (names_reached p).0 m in h k p r e)

-- what is known of a row that is read where its program fits
pub read_fitting : (xs : List ℕ) (n i : ℕ) (r : Row) → Valid xs → i < row_count xs → fits n (at_row xs i) ≡ true → Reads xs i r → FitsReads xs n i r
read_fitting xs n i r v l f known =
    let parts = fits_row xs (row_count xs) v.order n i l f in
    record {
      reads = known;
      parts = subst (λ (x : Row). AllByRecursion (λ j. fits n (at_row xs j) ≡ true) (named x)) (sym known.row) parts.0;
      there = subst (There n) (sym known.row) parts.1;
    }

-- programs of as many rows that agree at those that the last one reaches are the same
pub only_reached_rows : (xs ys : List ℕ) → Valid xs → Valid ys → row_count ys ≡ row_count xs → ((k : ℕ) → Reaches xs k (row_count xs - 1) → row_in ys k ≡ row_in xs k) → program_in ys ≡ program_in xs
only_reached_rows xs ys v w e same =
    program_in_is ys w ∙ ap (λ n. at_row ys (n - 1)) e
    ∙ same_where_reached xs ys (row_count xs) (row_count xs - 1) v.order (subst (λ (n : ℕ). rows_ok ys n ≡ true) e w.order) same (row_count xs) (row_count xs - 1) (last_row xs v) (last_row xs v) (itself refl)
    ∙ sym (program_in_is xs v)
