-- The lowest number that passes a test. Assumes nothing.
use Rattle.std.proofs.Common.{◌≡◌, ℕ, zero, suc, ◌<◌, ◌≤◌, Bool, true, false, refl, ap, ◌∙◌, ⊎_elim, arith}
use Rattle.std.proofs.lemmas.Bool.{cond-true, cond-false, cases_Bool}
use Rattle.pricing.specs.Refusals.{lowest}

-- 0 passes, or it doesn't
at_once : (f : ℕ → Bool) (n : ℕ) → f 0 ≡ true → lowest f (suc n) ≡ 0
unfolding lowest
at_once f n e = cond-true (f 0) 0 _ e

later : (f : ℕ → Bool) (n : ℕ) → f 0 ≡ false → lowest f (suc n) ≡ suc (lowest (λ i. f (suc i)) n)
unfolding lowest
later f n e = cond-false (f 0) 0 _ e

-- it is k, if nothing below k passes, and k does or is the end
pub lowest_is : (f : ℕ → Bool) (n k : ℕ) → k ≤ n → ((j : ℕ) → j < k → f j ≡ false) → (k < n → f k ≡ true) → lowest f n ≡ k
unfolding lowest
lowest_is f zero zero l none here = refl
lowest_is f zero (suc k) l none here = absurd (omega arith)
lowest_is f (suc n) zero l none here = at_once f n (here (omega arith))
lowest_is f (suc n) (suc k) l none here =
    later f n (none 0 (omega arith)) ∙ ap suc (lowest_is (λ i. f (suc i)) n k (omega arith) (λ j m. none (suc j) (omega arith)) (λ m. here (omega arith)))

-- it passes, if the end does
pub lowest_passes : (f : ℕ → Bool) (n : ℕ) → f n ≡ true → f (lowest f n) ≡ true
unfolding lowest
lowest_passes f zero h = h
lowest_passes f (suc n) h = ⊎_elim (λ e. ap f (at_once f n e) ∙ e) (λ e. ap f (later f n e) ∙ lowest_passes (λ i. f (suc i)) n h) (cases_Bool (f 0))

-- nothing below it does
pub lowest_before : (f : ℕ → Bool) (n j : ℕ) → j < lowest f n → f j ≡ false
unfolding lowest
lowest_before f zero j l = absurd (omega arith)
lowest_before f (suc n) zero l = ⊎_elim (λ e. absurd (omega (arith, at_once f n e))) (λ e. e) (cases_Bool (f 0))
lowest_before f (suc n) (suc j) l =
    lowest_before (λ i. f (suc i)) n j (⊎_elim (λ e. absurd (omega (arith, at_once f n e))) (λ e. omega (arith, later f n e)) (cases_Bool (f 0)))
