use Rattle.std.proofs.Common.{◌≡◌, None}
use Rattle.program.specs.Validation.{first_said, row_refusal}
use Rattle.program.proofs.validation.check_rows.Given as goal

-- nothing is said of the rows so far
abbrev pub invariant-loop-row : goal.invariant-loop-row
invariant-loop-row l = first_said (row_refusal l.numbers) l.row ≡ None
