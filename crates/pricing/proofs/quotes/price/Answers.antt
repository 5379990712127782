use Rattle.pricing.specs.Refusals.{refusal}
use Rattle.pricing.proofs.Numbering.{price_says, says_numbers}
use Rattle.pricing.proofs.quotes.price.Goals as goal

pub returns : goal.returns
returns c =
    let xs = c.args.program.now in
    let s = c.args.places.now in
    let says = price_says xs s c.quote.result c.into.result c.quote.ensures c.into.ensures in
    record { says = says; numbers = says_numbers (refusal xs s) xs c.into.result says }
