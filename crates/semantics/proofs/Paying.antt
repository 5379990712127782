-- Laws of payments, of what is done after a run, and of places that are put. Assumes nothing.
use Rattle.std.proofs.Common.{◌≡◌, ℕ, ◌+◌, ◌-◌, ◌<◌, ◌≤◌, cond, eqb, leb, sym, refl, ap, ◌∙◌, ⊎_elim, arith}
use mathlib.Core.Path.{fun_ext}
use Rattle.std.proofs.lemmas.Bool.{le-leb, lt-leb, eq-eqb, ne_eqb, cond-true, cond-false, cases_lt}
use Rattle.semantics.specs.Program.{Places}
use Rattle.semantics.specs.Run.{Run, came, too_small, with_place, then_run, pay}

-- enough in the purse, or not
pub paid : (n g : ℕ) (f : ℕ → Run) → n ≤ g → pay n g f ≡ f (g - n)
unfolding pay
paid n g f l = cond-true (leb n g) _ _ (le-leb n g l)

pub short : (n g : ℕ) (f : ℕ → Run) → g < n → pay n g f ≡ too_small
unfolding pay
short n g f l = cond-false (leb n g) _ _ (lt-leb n g l)

-- nothing is always enough
pub pay_nothing : (g : ℕ) (f : ℕ → Run) → pay 0 g f ≡ f g
pay_nothing g f = paid 0 g f (omega arith) ∙ ap f (omega arith)

-- a payment goes on by what is done with what is left
pub pay_same : (n g : ℕ) (f k : ℕ → Run) → ((h : ℕ) → f h ≡ k h) → pay n g f ≡ pay n g k
pay_same n g f k e = ap (pay n g) (fun_ext e)

-- two payments are one of the sum
pub pay_both : (m n g : ℕ) (f : ℕ → Run) → pay m g (λ h. pay n h f) ≡ pay (m + n) g f
pay_both m n g f =
    ⊎_elim (λ (l : g < m). short m g _ l ∙ sym (short (m + n) g f (omega arith)))
    (λ (l : m ≤ g).
    ⊎_elim (λ (k : g - m < n). paid m g _ l ∙ short n (g - m) f k ∙ sym (short (m + n) g f (omega arith)))
    (λ (k : n ≤ g - m). paid m g _ l ∙ paid n (g - m) f k ∙ ap f (omega arith) ∙ sym (paid (m + n) g f (omega arith)))
    (cases_lt (g - m) n))
    (cases_lt g m)

-- what is done after a payment goes under it
pub pay_then : (n g : ℕ) (f : ℕ → Run) (k : ℕ → Places → ℕ → Run) → then_run (pay n g f) k ≡ pay n g (λ h. then_run (f h) k)
unfolding then_run
pay_then n g f k =
    ⊎_elim (λ (l : g < n). ap (λ r. then_run r k) (short n g f l) ∙ sym (short n g _ l))
    (λ (l : n ≤ g). ap (λ r. then_run r k) (paid n g f l) ∙ sym (paid n g _ l))
    (cases_lt g n)

-- what is done after a run that was followed by something
pub then_then : (r : Run) (f k : ℕ → Places → ℕ → Run) → then_run (then_run r f) k ≡ then_run r (λ x s g. then_run (f x s g) k)
unfolding then_run
then_then (came x s g) f k = refl
then_then too_small f k = refl

-- what a payment that came to an answer says
pub record Came (c g : ℕ) (y : ℕ) (u : Places) (x : ℕ) (t : Places) (h : ℕ) : Type 0 where
  pub enough : c ≤ g
  pub value : y ≡ x
  pub places : u ≡ t
  pub left : h ≡ g - c

pub pay_came : (c g y x h : ℕ) (u t : Places) → pay c g (λ k. came y u k) ≡ came x t h → Came c g y u x t h
pay_came c g y x h u t e =
    ⊎_elim (λ (l : g < c). let z : ◌≡◌ {A = Run} too_small (came x t h) = sym (short c g _ l) ∙ e in absurd (never z))
    (λ (l : c ≤ g). let z : came y u (g - c) ≡ came x t h = sym (paid c g _ l) ∙ e in record { enough = l; value = cc; places = cc; left = cc })
    (cases_lt g c)
  where
    never : too_small ≡ came x t h → ⊥
    never z = let w : ◌≡◌ {A = ℕ} 0 1 = cc in omega arith

-- and one that didn't
pub pay_small : (c g y : ℕ) (u : Places) → pay c g (λ k. came y u k) ≡ too_small → g < c
pay_small c g y u e =
    ⊎_elim (λ (l : g < c). l)
    (λ (l : c ≤ g). let z : came y u (g - c) ≡ too_small = sym (paid c g _ l) ∙ e in absurd (let w : ◌≡◌ {A = ℕ} 0 1 = cc in omega arith))
    (cases_lt g c)

-- a place that is put, and the others
pub put_same : (s : Places) (i x : ℕ) → with_place s i x i ≡ x
unfolding with_place
put_same s i x = cond-true (eqb i i) _ _ (eq-eqb i i refl)

pub put_other : (s : Places) (i x j : ℕ) → (j ≡ i → ⊥) → with_place s i x j ≡ s j
unfolding with_place
put_other s i x j ne = cond-false (eqb j i) _ _ (ne_eqb j i ne)

-- places that are the same at j stay so
pub put_both : (s u : Places) (i x j : ℕ) → s j ≡ u j → with_place s i x j ≡ with_place u i x j
unfolding with_place
put_both s u i x j e = ap (λ y. cond (eqb j i) x y) e
