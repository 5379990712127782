use Rattle.std.proofs.Common.{◌-◌, sym, ap, ◌∙◌, arith}
use Rattle.program.specs.Rows.{at_row}
use Rattle.program.proofs.Programs.{program_in_is}
use Rattle.program.proofs.Validated.{valid_of}
use Rattle.program.proofs.valid.ValidProgram.last_row.Goals as goal

pub returns : goal.returns
returns c =
    record {
      number = omega arith;
      few = omega arith;
      program = program_in_is c.args.self.numbers.now (valid_of c.args.self) ∙ ap (λ n. at_row c.args.self.numbers.now (n - 1)) (sym c.row_count.ensures.count);
    }
