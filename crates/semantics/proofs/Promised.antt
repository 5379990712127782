-- The promises, read off from one payment. Assumes nothing.
use Rattle.std.proofs.Common.{◌≡◌, ℕ, ◌+◌, ◌-◌, ◌<◌, ◌≤◌, true, false, ◌⊎◌, sym, refl, ap, ◌∙◌, subst, inl, inr, ⊎_elim, arith}
use Rattle.std.proofs.lemmas.Bool.{both_ways, cases_lt}
use Rattle.semantics.specs.Program.{Program, Places, after, names}
use Rattle.semantics.specs.Price.{at_most}
use Rattle.semantics.specs.Run.{word, came, too_small, with_place, then_run, run}
use Rattle.semantics.specs.Promise.{Payment}
use Rattle.semantics.proofs.Paying.{Came, paid, short, pay_came, pay_small, put_other, put_both}
use Rattle.semantics.proofs.Alike.{alike}

-- from the same places: a run is one payment
pub one_payment : (p : Program) (s : Places) → Payment p s
one_payment p s =
    let r = alike (λ t u. t ≡ u) p (λ i _. record { looks = λ t u e. ap (λ v. v i) e; puts = λ t u x e. ap (λ v. with_place v i x) e }) s s refl in
    record { value = r.value; places = r.one; cost = r.cost; below = r.below; least = r.least; most = r.most; pays = r.pays_one }

-- what a run says that came to an answer, and one whose purse was too small
pub came_to : (p : Program) (s t : Places) (g h x : ℕ) → run p s g ≡ came x t h → Came (one_payment p s).cost g (one_payment p s).value (one_payment p s).places x t h
came_to p s t g h x e = let r = one_payment p s in pay_came r.cost g r.value x h r.places t (sym (r.pays g) ∙ e)

pub was_small : (p : Program) (s : Places) (g : ℕ) → run p s g ≡ too_small → g < (one_payment p s).cost
was_small p s g e = let r = one_payment p s in pay_small r.cost g r.value r.places (sym (r.pays g) ∙ e)

-- and how one goes, by what is in the purse
pub comes : (p : Program) (s : Places) (g : ℕ) → (one_payment p s).cost ≤ g → run p s g ≡ came (one_payment p s).value (one_payment p s).places (g - (one_payment p s).cost)
comes p s g l = (one_payment p s).pays g ∙ paid _ g _ l

pub is_small : (p : Program) (s : Places) (g : ℕ) → g < (one_payment p s).cost → run p s g ≡ too_small
is_small p s g l = (one_payment p s).pays g ∙ short _ g _ l

pub enough : (p : Program) (s : Places) (g : ℕ) → at_most p ≤ g → (x : ℕ) × (t : Places) × (h : ℕ) × (run p s g ≡ came x t h) × (g ≤ h + at_most p)
enough p s g l =
    let r = one_payment p s in
    let most : r.cost ≤ at_most p = r.most in
    (r.value, r.places, g - r.cost, comes p s g (omega arith), omega arith)

-- a run that came to an answer does so on any purse that holds what it cost
pub on_another : (p : Program) (s t : Places) (g h x k : ℕ) → run p s g ≡ came x t h → g - h ≤ k → run p s k ≡ came x t (k - (g - h))
on_another p s t g h x k e l =
    let r = one_payment p s in
    let c = came_to p s t g h x e in
    let cost : g - h ≡ r.cost = omega (arith, c.enough, c.left) in
    comes p s k (omega arith) ∙ (λ i. came (c.value i) (c.places i) (k - sym cost i))

pub more_changes_nothing : (p : Program) (s t : Places) (g h x k : ℕ) → run p s g ≡ came x t h → run p s (g + k) ≡ came x t (h + k)
more_changes_nothing p s t g h x k e =
    let c = came_to p s t g h x e in
    on_another p s t g h x (g + k) e (omega arith) ∙ ap (came x t) (omega (arith, c.enough, c.left))

pub less_is_less : (p : Program) (s : Places) (g h : ℕ) → run p s g ≡ too_small → h ≤ g → run p s h ≡ too_small
less_is_less p s g h e l = let m = was_small p s g e in is_small p s h (omega arith)

pub costs : (p : Program) (s t : Places) (g h x : ℕ) → run p s g ≡ came x t h → h < g
costs p s t g h x e = let c = came_to p s t g h x e in omega (arith, (one_payment p s).least, c.enough, c.left)

pub below : (p : Program) (s t : Places) (g h x : ℕ) → run p s g ≡ came x t h → x < word
below p s t g h x e = subst (λ (n : ℕ). n < word) (came_to p s t g h x e).value (one_payment p s).below

-- from the same places, of which one that isn't named is known
pub only_named : (p : Program) (s t : Places) (g h x i : ℕ) → names i p ≡ false → run p s g ≡ came x t h → t i ≡ s i
only_named p s t g h x i out e =
    let r = alike (λ u v. (u ≡ v) × (u i ≡ s i)) p
    (λ j m.
    record {
      looks = λ u v k. ap (λ w. w j) k.0;
      puts = λ u v y k. (ap (λ w. with_place w j y) k.0, put_other u j y i (λ same. both_ways (names i p) out (subst (λ (n : ℕ). names n p ≡ true) (sym same) m)) ∙ k.1);
    })
    s s (refl, refl)
    in
    let c = pay_came r.cost g r.value x h r.one t (sym (r.pays_one g) ∙ e) in
    sym (ap (λ u. u i) c.places) ∙ r.related.1

-- from places that are the same where they are named
pub looks_only : (p : Program) (s u : Places) (g : ℕ) → ((i : ℕ) → names i p ≡ true → s i ≡ u i) → ((x : ℕ) × (t : Places) × (v : Places) × (h : ℕ) × (run p s g ≡ came x t h) × (run p u g ≡ came x v h) × ((i : ℕ) → names i p ≡ true → t i ≡ v i)) ⊎ ((run p s g ≡ too_small) × (run p u g ≡ too_small))
looks_only p s u g same =
    let r = alike (λ t v. (i : ℕ) → names i p ≡ true → t i ≡ v i) p (λ i m. record { looks = λ t v k. k i m; puts = λ t v y k j n. put_both t v i y j (k j n) }) s u same in
    ⊎_elim (λ (l : g < r.cost). inr (r.pays_one g ∙ short r.cost g _ l, r.pays_two g ∙ short r.cost g _ l))
    (λ (l : r.cost ≤ g). inl (r.value, r.one, r.two, g - r.cost, r.pays_one g ∙ paid r.cost g _ l, r.pays_two g ∙ paid r.cost g _ l, r.related))
    (cases_lt g r.cost)

pub in_two : (p q : Program) (s t : Places) (g h x : ℕ) → run p s g ≡ came x t h → run (after p q) s (g + 1) ≡ run q t h
unfolding run then_run
in_two p q s t g h x e =
    paid 1 (g + 1) _ (omega arith) ∙ ap (λ (k : ℕ). then_run (run p s k) (λ y u m. run q u m)) (omega arith) ∙ ap (λ r. then_run r (λ y u m. run q u m)) e
