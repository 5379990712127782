use Rattle.std.proofs.Common.{arith}
use Rattle.program.proofs.Shape.{Shape, shape_of}
use Rattle.program.proofs.valid.ValidProgram.row_count.Goals as goal

pub returns-clause-some : goal.returns-clause-some
returns-clause-some c = let s : Shape c.args.self.numbers.now = shape_of _ c.args.self.shape in omega arith

pub returns-clause-few : goal.returns-clause-few
returns-clause-few c = let s : Shape c.args.self.numbers.now = shape_of _ c.args.self.shape in omega arith
