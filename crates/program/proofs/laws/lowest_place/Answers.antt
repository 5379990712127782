use Rattle.program.proofs.Placing.{places_unfit, places_fit}
use Rattle.program.proofs.laws.lowest_place.Goals as goal

pub returns : goal.returns
returns c xs n v = (places_unfit xs n v, places_fit xs n v)
