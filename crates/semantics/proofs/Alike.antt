-- Two runs at once, from places that are related: both are the same payment, for the same number, and leave places that are related again. One
-- predicate, one lemma for each way in which runs are put together, and one induction over programs. Assumes nothing.
use Rattle.std.proofs.Common.{◌≡◌, ℕ, zero, suc, ◌+◌, ◌*◌, ◌%◌, ◌<◌, ◌≤◌, min, max, Bool, true, false, cond, eqb, ltb, sym, refl, ap, ◌∙◌, subst, mul-le-mul_right, mod-lt, arith}
use Rattle.std.proofs.lemmas.Bool.{or_left, or_right, eq-eqb, cond_both}
use Rattle.semantics.specs.Program.{Program, Places, constant, place, added, times, less, set, after, if_not_nought, again, names}
use Rattle.semantics.specs.Price.{at_most}
use Rattle.semantics.specs.Run.{word, Run, came, with_place, then_run, pay, run_times, run}
use Rattle.semantics.proofs.Paying.{pay_nothing, pay_same, pay_both, pay_then}

-- by what is in the purse, two runs that are the same payment of low to high, come to the same number, and leave related places
pub record Alike (I : Places → Places → Type 0) (low high : ℕ) (a b : ℕ → Run) : Type 0 where
  pub value : ℕ
  pub one : Places
  pub two : Places
  pub cost : ℕ
  pub below : value < word
  pub least : low ≤ cost
  pub most : cost ≤ high
  pub related : I one two
  pub pays_one : (g : ℕ) → a g ≡ pay cost g (λ h. came value one h)
  pub pays_two : (g : ℕ) → b g ≡ pay cost g (λ h. came value two h)

-- places that are related look the same at i, and stay related once a number is put there
pub record Respects (I : Places → Places → Type 0) (i : ℕ) : Type 0 where
  pub looks : (s u : Places) → I s u → s i ≡ u i
  pub puts : (s u : Places) (x : ℕ) → I s u → I (with_place s i x) (with_place u i x)

-- what the runs of a program or of a part of it are, from any related places
abbrev RunsAlike : (I : Places → Places → Type 0) → (high : ℕ) → (Places → ℕ → Run) → Type 0
RunsAlike I n f = (s u : Places) → I s u → Alike I 1 n (f s) (f u)

module _ (I : Places → Places → Type 0) where
  -- within wider bounds
  wider : (l m n o : ℕ) {a b : ℕ → Run} → m ≤ l → n ≤ o → Alike I l n a b → Alike I m o a b
  wider l m n o low high r =
      record { value = r.value; one = r.one; two = r.two; cost = r.cost; below = r.below; least = omega arith; most = omega arith; related = r.related; pays_one = r.pays_one; pays_two = r.pays_two }

  -- an answer that costs nothing
  done : (x : ℕ) (s u : Places) → x < word → I s u → Alike I 0 0 (λ g. came x s g) (λ g. came x u g)
  done x s u l k =
      record { value = x; one = s; two = u; cost = 0; below = l; least = omega arith; most = omega arith; related = k; pays_one = λ g. sym (pay_nothing g (λ h. came x s h)); pays_two = λ g. sym (pay_nothing g (λ h. came x u h)) }

  -- a step is paid before the rest
  step : (l n : ℕ) (a b : ℕ → Run) → Alike I l n a b → Alike I 1 (1 + n) (λ g. pay 1 g (λ h. a h)) (λ g. pay 1 g (λ h. b h))
  step l n a b r =
      record {
        value = r.value;
        one = r.one;
        two = r.two;
        cost = 1 + r.cost;
        below = r.below;
        least = omega arith;
        most = omega arith;
        related = r.related;
        pays_one = λ g. pay_same 1 g (λ h. a h) _ r.pays_one ∙ pay_both 1 r.cost g _;
        pays_two = λ g. pay_same 1 g (λ h. b h) _ r.pays_two ∙ pay_both 1 r.cost g _;
      }

  -- one run, and then another by what it came to
  follow : (l m n o : ℕ) (a b : ℕ → Run) (f k : ℕ → Places → ℕ → Run) → Alike I l n a b → ((x : ℕ) (s u : Places) → x < word → I s u → Alike I m o (f x s) (k x u)) → Alike I 0 (n + o) (λ g. then_run (a g) f) (λ g. then_run (b g) k)
  unfolding then_run
  follow l m n o a b f k r h =
      let q = h r.value r.one r.two r.below r.related in
      record {
        value = q.value;
        one = q.one;
        two = q.two;
        cost = r.cost + q.cost;
        below = q.below;
        least = omega arith;
        most = omega arith;
        related = q.related;
        pays_one = λ g. ap (λ z. then_run z f) (r.pays_one g) ∙ pay_then r.cost g _ f ∙ pay_same r.cost g _ _ q.pays_one ∙ pay_both r.cost q.cost g _;
        pays_two = λ g. ap (λ z. then_run z k) (r.pays_two g) ∙ pay_then r.cost g _ k ∙ pay_same r.cost g _ _ q.pays_two ∙ pay_both r.cost q.cost g _;
      }

  -- one of two runs
  either : (m n : ℕ) (t : Bool) (a b c d : ℕ → Run) → Alike I 1 m a b → Alike I 1 n c d → Alike I 1 (max n m) (λ g. cond t (a g) (c g)) (λ g. cond t (b g) (d g))
  either m n true a b c d r q = wider 1 1 m (max n m) (omega arith) (omega arith) r
  either m n false a b c d r q = wider 1 1 n (max n m) (omega arith) (omega arith) q

  -- a step, two parts, and a number by what they came to
  two_parts : (m n : ℕ) (f k : Places → ℕ → Run) (op : ℕ → ℕ → ℕ) → ((x y : ℕ) → op x y < word) → RunsAlike I m f → RunsAlike I n k → RunsAlike I (1 + (m + n)) (λ s g. pay 1 g (λ h. then_run (f s h) (λ x t i. then_run (k t i) (λ y u j. came (op x y) u j))))
  two_parts m n f k op small first second s u e =
      step 0 (m + n) _ _ (wider 0 0 (m + (n + 0)) (m + n) (omega arith) (omega arith)
      (follow 1 0 m (n + 0) (f s) (f u) _ _ (first s u e) (λ x t v l i. follow 1 0 n 0 (k t) (k v) _ _ (second t v i) (λ y w z j q. done (op x y) w z (small x y) q))))

  -- a runner so many times
  repeated : (m : ℕ) (f : Places → ℕ → Run) → RunsAlike I m f → (n x : ℕ) (s u : Places) → x < word → I s u → Alike I 0 (n * (1 + m)) (run_times f n x s) (run_times f n x u)
  unfolding run_times
  repeated m f each zero x s u l e = wider 0 0 0 (0 * (1 + m)) (omega arith) (omega arith) (done x s u l e)
  repeated m f each (suc n) x s u l e =
      wider 1 0 (1 + (m + n * (1 + m))) (suc n * (1 + m)) (omega arith) (omega arith)
      (step 0 (m + n * (1 + m)) _ _ (follow 1 0 m (n * (1 + m)) (f s) (f u) _ _ (each s u e) (λ y t v b k. repeated m f each n y t v b k)))

  -- the relation holds through what a program names: then its runs are alike
  pub alike : (p : Program) → ((i : ℕ) → names i p ≡ true → Respects I i) → RunsAlike I (at_most p) (run p)
  unfolding run at_most names
  alike (constant n) h s u e = step 0 0 _ _ (done (n % word) s u (mod-lt n (omega arith)) e)
  alike (place i) h s u e =
      step 0 0 _ _ (subst (λ (x : ℕ). Alike I 0 0 (λ g. came (s i % word) s g) (λ g. came (x % word) u g)) ((h i (eq-eqb i i refl)).looks s u e) (done (s i % word) s u (mod-lt (s i) (omega arith)) e))
  alike (added p q) h s u e = two_parts (at_most p) (at_most q) (run p) (run q) (λ x y. (x + y) % word) (λ x y. mod-lt (x + y) (omega arith)) (alike p (λ i m. h i (or_left _ _ m))) (alike q (λ i m. h i (or_right (names i p) _ m))) s u e
  alike (times p q) h s u e = two_parts (at_most p) (at_most q) (run p) (run q) (λ x y. (x * y) % word) (λ x y. mod-lt (x * y) (omega arith)) (alike p (λ i m. h i (or_left _ _ m))) (alike q (λ i m. h i (or_right (names i p) _ m))) s u e
  alike (less p q) h s u e =
      two_parts (at_most p) (at_most q) (run p) (run q) (λ x y. cond (ltb x y) 1 0) (λ x y. cond_both (ltb x y) 1 0 (λ z. z < word) (λ _. omega arith) (λ _. omega arith))
      (alike p (λ i m. h i (or_left _ _ m))) (alike q (λ i m. h i (or_right (names i p) _ m))) s u e
  alike (set i p) h s u e =
      step 0 (at_most p) _ _ (wider 0 0 (at_most p + 0) (at_most p) (omega arith) (omega arith)
      (follow 1 0 (at_most p) 0 (run p s) (run p u) _ _ (alike p (λ j m. h j (or_right (eqb j i) _ m)) s u e) (λ x t v l k. done x (with_place t i x) (with_place v i x) l ((h i (or_left _ _ (eq-eqb i i refl))).puts t v x k))))
  alike (after p q) h s u e =
      step 0 (at_most p + at_most q) _ _ (follow 1 1 (at_most p) (at_most q) (run p s) (run p u) _ _ (alike p (λ i m. h i (or_left _ _ m)) s u e) (λ x t v l k. alike q (λ i m. h i (or_right (names i p) _ m)) t v k))
  alike (if_not_nought p q r) h s u e =
      step 0 (at_most p + max (at_most q) (at_most r)) _ _ (follow 1 1 (at_most p) (max (at_most q) (at_most r)) (run p s) (run p u) _ _ (alike p (λ i m. h i (or_left _ _ m)) s u e)
      (λ x t v l k. either (at_most r) (at_most q) (eqb x 0) (run r t) (run r v) (run q t) (run q v)
      (alike r (λ i m. h i (or_right (names i p) _ (or_right (names i q) _ m))) t v k) (alike q (λ i m. h i (or_right (names i p) _ (or_left _ _ m))) t v k)))
  alike (again l p q) h s u e =
      step 0 (at_most p + l * (1 + at_most q)) _ _ (follow 1 0 (at_most p) (l * (1 + at_most q)) (run p s) (run p u) _ _ (alike p (λ i m. h i (or_left _ _ m)) s u e)
      (λ x t v b k. wider 0 0 (min l x * (1 + at_most q)) (l * (1 + at_most q)) (omega arith) (mul-le-mul_right (1 + at_most q) (omega arith))
      (repeated (at_most q) (run q) (alike q (λ i m. h i (or_right (names i p) _ m))) (min l x) 0 t v (omega arith) k)))
