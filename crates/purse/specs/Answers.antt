-- What is answered, and the words of it, byte for byte. Assumes nothing.
use Rattle.std.specs.Prelude.{ℕ, ◌+◌, List, ◌++◌, Ok, Err, codes, decimal, Result}
use Rattle.program.specs.Refusal.{number_of, place_of}
use Rattle.program.specs.declared.refusal.Refusal.{Refusal}
use Rattle.program.specs.declared.refusal.Refusal.TheVariants.{CutShort, NoRows, TooManyRows, UnknownKind, NotEarlier, NoSuchPlace, TooManyPlaces, TooDear, RoomLength, Unreadable}
use Rattle.pricing.specs.Refusals.{quoted}
use Rattle.purse.specs.declared.answer.Answer.{Answer}

-- the answer to `price`, for rows and a count of places: what is quoted
abbrev pub answer_to : (rows : List ℕ) → (places : ℕ) → Answer
answer_to xs n = record { 0 = quoted xs n }

-- why, in one line with the actual numbers
abbrev pub reason : Refusal → List ℕ
reason (CutShort row count) = codes "row " ++ (decimal row ++ (codes " is cut short, " ++ (decimal count ++ codes " numbers are not rows of four")))
reason NoRows = codes "there is no row"
reason (TooManyRows count limit) = decimal count ++ (codes " rows, and a program has " ++ (decimal limit ++ codes " at most"))
reason (UnknownKind row kind limit) = codes "row " ++ (decimal row ++ (codes " is of kind " ++ (decimal kind ++ (codes ", and the kinds end at " ++ decimal limit))))
reason (NotEarlier row named) = codes "row " ++ (decimal row ++ (codes " names row " ++ (decimal named ++ codes ", which is not earlier")))
reason (NoSuchPlace row place count) = codes "row " ++ (decimal row ++ (codes " names place " ++ (decimal place ++ (codes ", and the count of places is " ++ decimal count))))
reason (TooManyPlaces count limit) = decimal count ++ (codes " places, and a program works on " ++ (decimal limit ++ codes " at most"))
reason (TooDear row limit) = codes "the price is above " ++ (decimal limit ++ (codes ", and row " ++ (decimal row ++ codes " is the first to pass it")))
reason (RoomLength length places) = codes "the room is " ++ (decimal length ++ (codes " long, and the count of places is " ++ decimal places))
reason (Unreadable line) = codes "line " ++ (decimal (line + 1) ++ codes " has a word that is not places, rows, price or a number of places or rows below 4294967296")

-- a refusal with its number and its place
abbrev pub turned_away : (number place : ℕ) → Refusal → List ℕ
turned_away number place r = codes "turned away " ++ (decimal number ++ (codes " at " ++ (decimal place ++ (codes ": " ++ reason r))))

-- the line that is printed
abbrev pub shown_answer : Result ℕ Refusal → List ℕ
shown_answer (Ok price) = codes "costs " ++ decimal price
shown_answer (Err r) = turned_away (number_of r) (place_of r) r
