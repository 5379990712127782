use Rattle.std.proofs.Common.{◌≡◌, true, sym, subst}
use Rattle.semantics.specs.Program.{fits}
use Rattle.program.specs.Rows.{program_in}
use Rattle.program.specs.Validation.{rows_refusal, places_refusal}
use Rattle.program.proofs.Options.{or_none}
use Rattle.program.proofs.Placing.{unrefused_fits}
use Rattle.program.proofs.Refusing.{unrefused_valid}
use Rattle.program.proofs.fitting.FittingProgram.new.Goals as goal

pub invariant_of-result : goal.invariant_of-result
invariant_of-result c =
    let p = or_none (rows_refusal c.args.numbers.now) (places_refusal c.args.numbers.now c.args.places) c.requires in
    let f = unrefused_fits c.args.numbers.now c.args.places (unrefused_valid c.args.numbers.now p.0) p.1 in
    record { fit = subst (λ xs. fits c.args.places (program_in xs) ≡ true) (sym c.new-program.ensures) f.0; few = f.1 }
