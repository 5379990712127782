-- The number that a price is refused by, and the entry's answer by it. Assumes nothing.
use Rattle.std.proofs.Common.{◌≡◌, ℕ, zero, suc, ◌≤◌, Bool, true, false, cond, leb, List, length, Some, None, Ok, Option, Result, sym, refl, ap, ◌∙◌, subst, ⊎_elim, arith}
use Rattle.std.proofs.lemmas.Bool.{leb-true, cases_Bool, cond-false}
use Rattle.std.specs.Option.{option_or}
use Rattle.semantics.specs.Price.{at_most}
use Rattle.semantics.proofs.Pricing.{price_above_nothing}
use Rattle.program.specs.Refusal.{number_of}
use Rattle.program.specs.Rows.{program_in}
use Rattle.program.specs.Validation.{answered, refusal_number, rows_taken, places_taken, unless, program_refusal}
use Rattle.program.specs.declared.refusal.Refusal.{Refusal}
use Rattle.program.specs.declared.refusal.Refusal.TheVariants.{CutShort, NoRows, TooManyRows, UnknownKind, NotEarlier, NoSuchPlace, TooManyPlaces, TooDear, RoomLength, Unreadable}
use Rattle.program.proofs.Options.{none_some, or_none}
use Rattle.program.proofs.Numbering.{answered_by_number}
use Rattle.program.proofs.Unless.{unless_ok}
use Rattle.pricing.specs.Table.{max_price}
use Rattle.pricing.specs.Refusals.{refusal, dear_row, price_refusal, first_refusal, quoted}
use Rattle.pricing.specs.Answers.{refused_by, values, answer_by, PriceSays, PriceNumbers}
use Rattle.pricing.specs.declared.done.Done.{Done}
use Rattle.pricing.specs.declared.done.Done.TheVariants.{Costs, Came, Small, Refused}

-- a refusal's number isn't 0
pub above_nought : (r : Refusal) → (n : ℕ) × (number_of r ≡ suc n)
above_nought (CutShort row count) = (0, refl)
above_nought NoRows = (0, refl)
above_nought (TooManyRows count limit) = (0, refl)
above_nought (UnknownKind row kind limit) = (0, refl)
above_nought (NotEarlier row named) = (0, refl)
above_nought (NoSuchPlace row place count) = (1, refl)
above_nought (TooManyPlaces count limit) = (1, refl)
above_nought (TooDear row limit) = (2, refl)
above_nought (RoomLength length places) = (3, refl)
above_nought (Unreadable line) = (4, refl)

-- number 3, or none
dear_number : (t : Bool) (i : ℕ) → answered (cond t None (Some (TooDear i max_price))) ≡ cond t 0 3
dear_number true i = refl
dear_number false i = refl

-- two refusals one after the other: by the tests of the first, and the number of the second
either_number : (rows places : Bool) (o p : Option Refusal) (n : ℕ) → answered o ≡ cond rows (cond places 0 2) 1 → answered p ≡ n → answered (option_or o p) ≡ cond rows (cond places n 2) 1
either_number true true None p n h k = k
either_number true false None p n h k = absurd (omega arith)
either_number false places None p n h k = absurd (omega arith)
either_number true true (Some r) p n h k = let (m, e) = above_nought r in absurd (omega arith)
either_number true false (Some r) p n h k = h
either_number false places (Some r) p n h k = h

-- the first refusal of a price has the number that the rules give
pub first_by_number : (xs s : List ℕ) → answered (first_refusal xs (length s)) ≡ refusal xs s
unfolding refusal refusal_number
first_by_number xs s =
    either_number (rows_taken xs) (places_taken xs (length s)) (program_refusal xs (length s)) (price_refusal xs) (cond (leb (at_most (program_in xs)) max_price) 0 3)
    (answered_by_number xs (length s)) (dear_number (leb (at_most (program_in xs)) max_price) (dear_row xs))

-- the answer to what is quoted says what the rules say
says : (xs : List ℕ) (o : Option Refusal) → PriceSays (answered o) xs (answer_by (unless o (at_most (program_in xs))))
unfolding PriceSays
says xs None = refl
says xs (Some r) = let (m, e) = above_nought r in subst (λ (n : ℕ). PriceSays n xs (Refused n)) (sym e) refl

pub price_says : (xs s : List ℕ) (q : Result ℕ Refusal) (d : Done) → q ≡ quoted xs (length s) → d ≡ answer_by q → PriceSays (refusal xs s) xs d
price_says xs s q d e is =
    subst (PriceSays (refusal xs s) xs) (sym (is ∙ ap answer_by e))
    (subst (λ (f : ℕ). PriceSays f xs (answer_by (quoted xs (length s)))) (first_by_number xs s) (says xs (first_refusal xs (length s))))

-- by number and values, and back
pub says_numbers : (f : ℕ) (xs : List ℕ) (d : Done) → PriceSays f xs d → PriceNumbers f xs d
unfolding PriceSays
says_numbers zero xs d e = subst (PriceNumbers 0 xs) (sym e) (record { number = refl; value = refl })
says_numbers (suc f) xs d e = subst (PriceNumbers (suc f) xs) (sym e) (record { number = refl; value = refl })

numbers_say : (f : ℕ) (xs : List ℕ) (d : Done) → PriceNumbers f xs d → PriceSays f xs d
unfolding PriceSays
numbers_say zero xs (Costs price) h = cc
numbers_say zero xs (Came value left) h = cc
numbers_say zero xs Small h = cc
numbers_say zero xs (Refused n) h = cc
numbers_say (suc f) xs (Costs price) h = absurd (omega (arith, h.number))
numbers_say (suc f) xs (Came value left) h = absurd (omega (arith, h.number))
numbers_say (suc f) xs Small h = absurd (omega (arith, h.number))
numbers_say (suc f) xs (Refused n) h = ap Refused h.number

pub price_by_numbers : (f : ℕ) (xs : List ℕ) (d : Done) → (PriceSays f xs d → PriceNumbers f xs d) × (PriceNumbers f xs d → PriceSays f xs d)
price_by_numbers f xs d = (says_numbers f xs d, numbers_say f xs d)

pub numbers_tell_apart : (d e : Done) → (d ≡ Refused 0 → ⊥) → (e ≡ Refused 0 → ⊥) → refused_by d ≡ refused_by e → values d ≡ values e → d ≡ e
numbers_tell_apart (Costs a) (Costs b) f g h k = cc
numbers_tell_apart (Costs a) (Came x l) f g h k = cc
numbers_tell_apart (Costs a) Small f g h k = cc
numbers_tell_apart (Costs a) (Refused n) f g h k = cc
numbers_tell_apart (Came x l) (Costs b) f g h k = cc
numbers_tell_apart (Came x l) (Came y m) f g h k = cc
numbers_tell_apart (Came x l) Small f g h k = cc
numbers_tell_apart (Came x l) (Refused n) f g h k = cc
numbers_tell_apart Small (Costs b) f g h k = cc
numbers_tell_apart Small (Came y m) f g h k = cc
numbers_tell_apart Small Small f g h k = refl
numbers_tell_apart Small (Refused n) f g h k = absurd (g (ap Refused (sym h)))
numbers_tell_apart (Refused n) (Costs b) f g h k = cc
numbers_tell_apart (Refused n) (Came y m) f g h k = cc
numbers_tell_apart (Refused n) Small f g h k = absurd (f (ap Refused h))
numbers_tell_apart (Refused n) (Refused m) f g h k = ap Refused h

pub quoted_within_limits : (xs : List ℕ) (n price : ℕ) → quoted xs n ≡ Ok price → (1 ≤ price) × (price ≤ max_price)
quoted_within_limits xs n price e =
    let (none, is) = unless_ok (first_refusal xs n) (at_most (program_in xs)) price e in
    let (_, cheap) = or_none (program_refusal xs n) (price_refusal xs) none in
    (subst (λ (p : ℕ). 1 ≤ p) is (price_above_nothing (program_in xs)), subst (λ (p : ℕ). p ≤ max_price) is (unrefused_price (at_most (program_in xs)) (dear_row xs) cheap))
  where
    unrefused_price : (p i : ℕ) → cond (leb p max_price) None (Some (TooDear i max_price)) ≡ None → p ≤ max_price
    unrefused_price p i h = ⊎_elim (leb-true p max_price) (λ f. absurd (none_some (TooDear i max_price) (sym h ∙ cond-false (leb p max_price) None (Some (TooDear i max_price)) f))) (cases_Bool (leb p max_price))
