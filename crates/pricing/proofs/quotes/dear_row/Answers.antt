use Rattle.std.proofs.Common.{◌≡◌, ◌-◌, position, unwrap_or, zip, ap, ◌∙◌, arith, rules}
use Rattle.program.specs.Rows.{row_count}
use Rattle.program.proofs.Shape.{Shape, shape_of}
use Rattle.pricing.specs.Refusals.{dear_pair}
use Rattle.pricing.proofs.Dearness.{found_dear}
use Rattle.pricing.proofs.quotes.dear_row.Goals as goal

pub returns : goal.returns
returns c =
    let xs = c.args.program.numbers.now in
    let s : Shape xs = shape_of xs c.args.program.shape in
    let last : c.last_row.result ≡ row_count xs - 1 = omega arith in
    let found = found_dear xs s c.reached_rows.result c.args.prices.now c.reached_rows.ensures c.requires (search rules) (search rules) in
    c.unwrap_or.ensures ∙ ap (λ o. unwrap_or o c.last_row.result) c.first_dear.ensures ∙ ap (unwrap_or (position dear_pair (zip c.reached_rows.result c.args.prices.now))) last ∙ found
