use Rattle.program.proofs.Reaching.{read_fitting}
use Rattle.program.proofs.Validated.{valid_of}
use Rattle.program.proofs.fitting.FittingProgram.row_at.Goals as goal

pub returns : goal.returns
returns c =
    read_fitting c.args.self.program.numbers.now c.args.self.places c.args.row c.row_at.result (valid_of c.args.self.program) c.requires.within c.requires.fit c.row_at.ensures
