-- From the first refusal and the end of a run to what the entries answer. Assumes nothing.
use Rattle.std.proofs.Common.{◌≡◌, ℕ, zero, suc, ◌≤◌, Bool, true, false, cond, eqb, List, length, Some, None, Option, Result, IsSome, ok_or, sym, rules, refl, ap, ◌∙◌, inl, inr, arith}
use Rattle.std.proofs.lemmas.Bool.{cond-false, ne_eqb}
use Rattle.std.specs.Option.{option_or}
use Rattle.semantics.specs.Program.{Program, Places}
use Rattle.semantics.specs.Price.{at_most}
use Rattle.semantics.specs.Run.{Run, came, too_small, run}
use Rattle.semantics.proofs.Promised.{enough}
use Rattle.program.specs.Refusal.{number_of}
use Rattle.program.specs.Rows.{program_in}
use Rattle.program.specs.Validation.{answered}
use Rattle.program.specs.declared.refusal.Refusal.{Refusal}
use Rattle.program.specs.declared.refusal.Refusal.TheVariants.{RoomLength}
use Rattle.pricing.specs.Refusals.{first_refusal}
use Rattle.pricing.specs.Answers.{refused_by, values}
use Rattle.pricing.specs.declared.done.Done.{Done}
use Rattle.pricing.specs.declared.done.Done.TheVariants as done
use Rattle.pricing.proofs.Numbering.{above_nought, first_by_number}
use Rattle.interpreter.specs.Runner.{places_in}
use Rattle.interpreter.specs.Refusals.{run_refusal, first_run_refusal}
use Rattle.interpreter.specs.Answers.{Ends, Executes, run_answer_by, SameTo, RunSays, RunNumbers}
use Rattle.interpreter.specs.declared.ran.Ran.{Ran}
use Rattle.interpreter.specs.declared.ran.RunError.{RunError}
use Rattle.interpreter.specs.declared.ran.RunError.TheVariants.{TooSmall}

-- a purse of the price or more isn't too small
pub not_small : (p : Program) (t : Places) (g : ℕ) (s : List ℕ) (d : Option Ran) (s₁ : List ℕ) → at_most p ≤ g → Ends (run p t g) s (ok_or d TooSmall) s₁ → IsSome d
not_small p t g s (Some d) s₁ price ends = search rules
not_small p t g s None s₁ price ends =
    let (x, u, k, is, _) = enough p t g price in
    let came_to = (rw is at ends).0 in
    cc

-- one refusal or else another, by their numbers
either_number : (f p : Option Refusal) → answered (option_or f p) ≡ cond (eqb (answered f) 0) (answered p) (answered f)
either_number None p = refl
either_number (Some r) p = let (k, is) = above_nought r in sym (cond-false _ _ _ (ne_eqb (number_of r) 0 (λ z. omega arith)))

-- number 4, or none
room_number : (t : Bool) (m n : ℕ) → answered (cond t None (Some (RoomLength m n))) ≡ cond t 0 4
room_number true m n = refl
room_number false m n = refl

-- the first refusal of a run has the number that the rules give
pub run_first_by_number : (xs s o : List ℕ) → answered (first_run_refusal xs (length s) (length o)) ≡ run_refusal xs s o
unfolding run_refusal
run_first_by_number xs s o = rw (← first_by_number xs s, ← room_number _ (length o) (length s)) (either_number (first_refusal xs (length s)) _)

-- how a run ends says what the rules say
ends_say : (xs s o : List ℕ) (g : ℕ) (r : Result Ran RunError) (s₁ o₁ : List ℕ) (q : Run) → run (program_in xs) (places_in s) g ≡ q → Ends q s r s₁ → length o₁ ≡ length o → RunSays 0 xs s o g (run_answer_by r) s₁ o₁
unfolding RunSays SameTo
ends_say xs s o g r s₁ o₁ (came x t h) is ends room = (room, inl (x, t, h, is, ap run_answer_by ends.0, ends.1, λ i _. ap (λ p. p i) ends.2))
ends_say xs s o g r s₁ o₁ too_small is ends room = (room, inr (is, ap run_answer_by ends.0, ends.1))

-- and so does what is executed
pub executed_says : (f : Option Refusal) (xs s o : List ℕ) (g : ℕ) (r : Result Ran RunError) (s₁ o₁ : List ℕ) → Executes f xs s o g r s₁ o₁ → RunSays (answered f) xs s o g (run_answer_by r) s₁ o₁
unfolding RunSays
executed_says None xs s o g r s₁ o₁ (ends, room) = ends_say xs s o g r s₁ o₁ _ refl ends room
executed_says (Some e) xs s o g r s₁ o₁ (is, same, room) = let (k, number) = above_nought e in rw number (ap run_answer_by is ∙ ap done.Refused number, same, room)

-- and its answer as an entry gives it
pub answer_says : (xs s o : List ℕ) (g : ℕ) (r : Result Ran RunError) (d : Done) (s₁ o₁ : List ℕ) → Executes (first_run_refusal xs (length s) (length o)) xs s o g r s₁ o₁ → d ≡ run_answer_by r → RunSays (run_refusal xs s o) xs s o g d s₁ o₁
answer_says xs s o g r d s₁ o₁ h is = rw (is, ← run_first_by_number xs s o) (executed_says _ xs s o g r s₁ o₁ h)

-- and by its number and its values
pub says_numbers : (f : ℕ) (xs s o : List ℕ) (g : ℕ) (d : Done) (s₁ o₁ : List ℕ) → RunSays f xs s o g d s₁ o₁ → RunNumbers f xs s o g d s₁ o₁
unfolding RunSays
says_numbers zero xs s o g d s₁ o₁ (room, inl (x, t, h, is, e, long, same)) = record { number = ap refused_by e; value = rw is (ap values e); leaves = rw is (room, long, same) }
says_numbers zero xs s o g d s₁ o₁ (room, inr (is, e, same)) = record { number = ap refused_by e; value = rw is (ap values e); leaves = rw is (room, same) }
says_numbers (suc f) xs s o g d s₁ o₁ (e, same, room) = record { number = ap refused_by e; value = ap values e; leaves = (same, room) }
