-- Which refusal a run gets: the first that applies, 1 the rows, 2 the places, 3 the price, 4 the room. Assumes nothing.
use Rattle.std.specs.Prelude.{ℕ, cond, List, length, Some, None, Option, ◌==◌}
use Rattle.std.specs.Option.{option_or}
use Rattle.program.specs.declared.refusal.Refusal.{Refusal}
use Rattle.program.specs.declared.refusal.Refusal.TheVariants.{RoomLength}
use Rattle.pricing.specs.Refusals.{refusal, first_refusal}

-- the number of the first refusal that applies: that of a price, or else 4 for a room of another length than the places; 0 where none applies
unfoldable pub run_refusal : (program places room : List ℕ) → ℕ
run_refusal xs s o = cond (refusal xs s == 0) (cond (length o == length s) 0 4) (refusal xs s)

-- number 4, of a room and of places so long
abbrev pub room_refusal : (room places : ℕ) → Option Refusal
room_refusal m n = cond (m == n) None (Some (RoomLength m n))

-- the first refusal of a program in rows, so many places and a room so long
abbrev pub first_run_refusal : List ℕ → (places room : ℕ) → Option Refusal
first_run_refusal xs n m = option_or (first_refusal xs n) (room_refusal m n)
