use Rattle.std.proofs.Common.{arith}
use Rattle.program.proofs.Earlier.{known_kind}
use Rattle.program.proofs.Programs.{read_row}
use Rattle.program.proofs.Shape.{Shape, shape_of}
use Rattle.program.proofs.valid.ValidProgram.row_at.Goals as goal

pub decode-requires : goal.decode-requires
decode-requires c =
    let s : Shape c.args.self.numbers.now = shape_of _ c.args.self.shape in
    record { there = omega arith; known = known_kind c.args.self.numbers.now _ c.args.row c.args.self.order c.requires }

pub returns : goal.returns
returns c = read_row c.args.self.numbers.now c.args.row c.decode.result c.args.self.order c.requires c.decode.ensures
