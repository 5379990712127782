-- Words one after another. Assumes nothing.
use Rattle.std.proofs.Common.{◌≡◌, ℕ, Bool, true, Ok, Err, Result, OnOk, List, [], ◌∷◌, ◌++◌, append_assoc, append-nil}
use Rattle.std.proofs.lemmas.Bool.{false≢true}
use Rattle.std.specs.Result.{is_ok}
use Rattle.purse.specs.Words.{TakesEach, takes_none, takes_next, Takes, starts_places, starts_rows, asks_price, adds_place, adds_row, stands_alone, is_no_word, ByWords}
use Rattle.purse.specs.declared.reader.Text.{Text}

-- what some words take to t, and more words on from there
takes_on : {s t : Text} (ws : List (List ℕ)) → TakesEach s ws t true → {vs : List (List ℕ)} {u : Text} {fits : Bool} → TakesEach t vs u fits → TakesEach s (ws ++ vs) u fits
takes_on ws h takes_none = rw append-nil h
takes_on ws h (takes_next vs v w u fits before last) = rw (← append_assoc ws vs (w ∷ [])) (takes_next (ws ++ vs) v w u fits (takes_on ws h before) last)

pub by_no_words : (s : Text) → ByWords s s true
by_no_words s = ([], takes_none)

pub by_more_words : {s t u : Text} {fits : Bool} → ByWords s t true → ByWords t u fits → ByWords s u fits
by_more_words h k = (h.0 ++ k.0, takes_on h.0 h.1 k.1)

pub by_one_more : {s t u : Text} {w : List ℕ} {fits : Bool} → ByWords s t true → Takes w t u fits → ByWords s u fits
by_one_more {t = t} {u} {w} {fits} h k = (h.0 ++ w ∷ [], takes_next h.0 t w u fits h.1 k)

-- what holds where a call succeeds, of one that did
pub of_ok : {T E P : Type 0} (r : Result T E) → is_ok r ≡ true → OnOk r P → P
of_ok (Ok x) e p = p
of_ok (Err x) e p = absurd (false≢true e)

-- what a word does
pub ruleset doings = (starts_places, starts_rows, asks_price, adds_place, adds_row, stands_alone, is_no_word)
