use Rattle.std.proofs.Common.{sym, ap, ◌∙◌}
use Rattle.std.specs.Option.{option_or}
use Rattle.program.specs.Validation.{places_refusal, count_refusal}
use Rattle.program.proofs.Refusing.{valid_unrefused}
use Rattle.program.proofs.Unless.{unless_ok}
use Rattle.program.proofs.Validated.{valid_of}
use Rattle.program.proofs.valid.ValidProgram.fit.Goals as goal

pub new-requires : goal.new-requires
new-requires c =
    let there = (unless_ok _ _ _ (sym c.check_reached.ensures ∙ c.in_ok-check_reached.was)).0 in
    let few = (unless_ok _ _ _ (sym c.check_count.ensures ∙ c.in_ok-check_count.was)).0 in
    ap (λ o. option_or o (places_refusal c.args.self.numbers.now c.args.places)) (valid_unrefused c.args.self.numbers.now (valid_of c.args.self))
    ∙ ap (λ o. option_or o (count_refusal c.args.places)) there ∙ few
