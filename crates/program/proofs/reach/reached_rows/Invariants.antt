use Rattle.program.proofs.Marking.{Passed}
use Rattle.program.proofs.reach.reached_rows.Given as goal

-- the rows from this one up are passed
abbrev pub invariant-loop-row : goal.invariant-loop-row
invariant-loop-row l = Passed l.program.numbers.now l.row l.table
