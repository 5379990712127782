use Rattle.std.proofs.Common.{◌≡◌, ◌+◌, ◌-◌, ◌*◌, max}
use Rattle.semantics.specs.Run.{run, run_times}
use Rattle.program.specs.Rows.{at_row}
use Rattle.interpreter.specs.Runner.{places_in}
use Rattle.interpreter.proofs.runner.Runner.+rows.Given as goal

-- what a row names is earlier, and a row that is run so many times is run by its own number
abbrev pub decreases-run_row : goal.decreases-run_row
decreases-run_row l = 2 * l.row

abbrev pub decreases-run_pair : goal.decreases-run_pair
decreases-run_pair l = 2 * max l.left l.right + 1

abbrev pub decreases-run_times : goal.decreases-run_times
decreases-run_times l = 2 * l.body + 1

-- the times that are left, from where the run stands, come to what all of them come to from the start
abbrev pub invariant-run_times-loop : goal.invariant-run_times-loop
invariant-run_times-loop l =
    (l.self.places.ghost_name ≡ l.fn.self.places.ghost_name) × (l.self.program ≡ l.fn.self.program) ×
    (run_times (run (at_row l.fn.self.program.program.numbers.now l.body)) l.times 0 (places_in l.fn.self.places.now) l.fn.self.purse
    ≡ run_times (run (at_row l.fn.self.program.program.numbers.now l.body)) (l.times - l.counter) l.last (places_in l.self.places.now) l.self.purse)
