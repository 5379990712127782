use Rattle.std.proofs.Common.{◌≡◌, false, sym, ap, ◌∙◌, arith, rules}
use Rattle.std.proofs.lemmas.List.{length-take-le, get_or-take}
use Rattle.program.specs.Rows.{row_count}
use Rattle.program.specs.Validation.{unless, row_place_refusal}
use Rattle.program.proofs.Placing.{said_by_flag}
use Rattle.program.proofs.Refusing.{refused_here, taken_here}
use Rattle.program.proofs.validation.check_reached.Goals as goal
use Rattle.program.proofs.validation.check_reached.Goals.{After-check_marked}

-- what is said of the row
said : (c : After-check_marked) → unless (row_place_refusal c.args.program.numbers.now c.args.places c.loop-row.row) (tt {0}) ≡ c.check_marked.result
said c =
    let long = length-take-le c.row_count.result c.reached_rows-reached.result (omega arith) in
    let flag = get_or-take c.row_count.result c.reached_rows-reached.result c.loop-row.row false (omega (arith, long)) ∙ c.reached_rows-reached.ensures c.loop-row.row in
    ap (λ o. unless o (tt {0})) (sym (said_by_flag c.args.program.numbers.now c.args.places c.loop-row.row _ flag)) ∙ sym c.check_marked.ensures

pub returns-in_err-check_marked : goal.returns-in_err-check_marked
returns-in_err-check_marked c =
    let long = length-take-le c.row_count.result c.reached_rows-reached.result (omega arith) in
    let e = refused_here (row_place_refusal c.args.program.numbers.now c.args.places) c.loop-row.row (row_count c.args.program.numbers.now) c.in_err-check_marked.field-0.0 c.loop-row.invariant
    (said (goal.at.returns-in_err-check_marked c).After-check_marked ∙ c.in_err-check_marked.was) (omega (arith, long)) in
    rw e (search rules)

pub loop-row-preserved : goal.loop-row-preserved
loop-row-preserved c =
    taken_here (row_place_refusal c.args.program.numbers.now c.args.places) c.loop-row.row c.loop-row.invariant
    (said (goal.at.loop-row-preserved c).After-check_marked ∙ c.in_ok-check_marked.was)
