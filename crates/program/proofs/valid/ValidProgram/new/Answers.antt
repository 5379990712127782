use Rattle.program.proofs.Refusing.{unrefused_valid}
use Rattle.program.proofs.valid.ValidProgram.new.Goals as goal

pub invariant_of-result : goal.invariant_of-result
invariant_of-result c = let v = unrefused_valid c.args.numbers.now c.requires in record { shape = v.shape; order = v.order }
