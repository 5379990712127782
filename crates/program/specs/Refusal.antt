-- The numbers and the places that refusals are said by. Assumes nothing.
use Rattle.std.specs.Prelude.{ℕ}
use Rattle.program.specs.declared.refusal.Refusal.{Refusal}
use Rattle.program.specs.declared.refusal.Refusal.TheVariants.{CutShort, NoRows, TooManyRows, UnknownKind, NotEarlier, NoSuchPlace, TooManyPlaces, TooDear, RoomLength, Unreadable}

-- 1 the rows, 2 the places, 3 the price, 4 the room, 5 the text
abbrev pub number_of : Refusal → ℕ
number_of (CutShort row count) = 1
number_of NoRows = 1
number_of (TooManyRows count limit) = 1
number_of (UnknownKind row kind limit) = 1
number_of (NotEarlier row named) = 1
number_of (NoSuchPlace row place count) = 2
number_of (TooManyPlaces count limit) = 2
number_of (TooDear row limit) = 3
number_of (RoomLength length places) = 4
number_of (Unreadable line) = 5

-- of 1 the row, of 2 the place, of 3 always 0, of 4 the room's length, of 5 the line; where there are too many, the first one too many
abbrev pub place_of : Refusal → ℕ
place_of (CutShort row count) = row
place_of NoRows = 0
place_of (TooManyRows count limit) = limit
place_of (UnknownKind row kind limit) = row
place_of (NotEarlier row named) = row
place_of (NoSuchPlace row place count) = place
place_of (TooManyPlaces count limit) = limit
place_of (TooDear row limit) = 0
place_of (RoomLength length places) = length
place_of (Unreadable line) = line
