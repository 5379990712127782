-- What one word of a text does. Assumes nothing.
use Rattle.std.specs.Prelude.{◌≡◌, ℕ, ◌^◌, ◌<◌, Bool, true, false, List, [], ◌∷◌, ◌++◌, length, vec_items, vec_len, codes, ◌≢◌}
use Rattle.std.specs.Str.Parse.{AllDigits, digits_value}
use Rattle.program.specs.Refusal.{number_of}
use Rattle.program.specs.declared.refusal.Refusal.TheVariants.{Unreadable}
use Rattle.purse.specs.Answers.{answer_to}
use Rattle.purse.specs.declared.errors.ReadError.{ReadError}
use Rattle.purse.specs.declared.errors.ReadError.TheVariants.{Refused, OutOfMemory}
use Rattle.purse.specs.declared.reader.Section.TheVariants.{Start, Places, Rows}
use Rattle.purse.specs.declared.reader.Text.{Text}

-- decimal digits, one at least, that write a number below 2^32
abbrev pub Number : List ℕ → Type 0
Number bs = AllDigits 10 bs × (0 < length bs) × (digits_value 10 bs < 2 ^ 32)

-- a word turns the text s into t, and whether it fits: the name of a statement that starts its numbers anew; `price`, which is answered
-- for the rows and the places so far, and takes no number; a number of the statement that stands open; or, with nothing changed, a number where none
-- stands open, or any other word
pub data Takes (bs : List ℕ) (s t : Text) : Bool → Type 0 where
  starts_places : bs ≡ codes "places" → t.section ≡ Places → vec_items t.places ≡ [] → vec_items t.rows ≡ vec_items s.rows → vec_items t.answers ≡ vec_items s.answers → Takes bs s t true
  starts_rows : bs ≡ codes "rows" → t.section ≡ Rows → vec_items t.rows ≡ [] → vec_items t.places ≡ vec_items s.places → vec_items t.answers ≡ vec_items s.answers → Takes bs s t true
  asks_price : bs ≡ codes "price" → t.section ≡ Start → vec_items t.answers ≡ vec_items s.answers ++ answer_to (vec_items s.rows) (vec_len s.places) ∷ [] → vec_items t.places ≡ vec_items s.places → vec_items t.rows ≡ vec_items s.rows → Takes bs s t true
  adds_place : Number bs → s.section ≡ Places → t.section ≡ Places → vec_items t.places ≡ vec_items s.places ++ digits_value 10 bs ∷ [] → vec_items t.rows ≡ vec_items s.rows → vec_items t.answers ≡ vec_items s.answers → Takes bs s t true
  adds_row : Number bs → s.section ≡ Rows → t.section ≡ Rows → vec_items t.rows ≡ vec_items s.rows ++ digits_value 10 bs ∷ [] → vec_items t.places ≡ vec_items s.places → vec_items t.answers ≡ vec_items s.answers → Takes bs s t true
  stands_alone : Number bs → s.section ≡ Start → t ≡ s → Takes bs s t false
  is_no_word : (bs ≢ codes "places") → (bs ≢ codes "rows") → (bs ≢ codes "price") → (Number bs → ⊥) → t ≡ s → Takes bs s t false

-- words that take the text s to t one after another; all but the last fit, and whether the last does
pub data TakesEach (s : Text) : List (List ℕ) → Text → Bool → Type 0 where
  takes_none : TakesEach s [] s true
  takes_next : (ws : List (List ℕ)) (t : Text) (w : List ℕ) (u : Text) (fits : Bool) → TakesEach s ws t true → Takes w t u fits → TakesEach s (ws ++ w ∷ []) u fits

-- some words take s to t
abbrev pub ByWords : Text → Text → Bool → Type 0
ByWords s t fits = (ws : List (List ℕ)) × TakesEach s ws t fits

-- some words make t out of a text that says nothing
pub record Read (t : Text) : Type 0 where
  pub start : Text
  pub at_start : start.section ≡ Start
  pub no_places : vec_items start.places ≡ []
  pub no_rows : vec_items start.rows ≡ []
  pub no_answers : vec_items start.answers ≡ []
  pub words : ByWords start t true

-- why a text isn't read: a line of it can't be, which is refused by number 5; or memory is wanting
abbrev pub Unread : ReadError → Type 0
Unread (Refused r) = (line : ℕ) × (r ≡ Unreadable line) × (number_of r ≡ 5)
Unread (OutOfMemory error) = Unit {0}
