use Rattle.std.proofs.Common.{◌≡◌, None}
use Rattle.program.specs.Validation.{first_said, row_place_refusal}
use Rattle.program.proofs.validation.check_reached.Given as goal

-- nothing is said of the rows so far
abbrev pub invariant-loop-row : goal.invariant-loop-row
invariant-loop-row l = first_said (row_place_refusal l.program.numbers.now l.places) l.row ≡ None
