use Rattle.program.proofs.Reaching.{fits_reached, reached_fits}
use Rattle.program.proofs.laws.fits_what_is_reached.Goals as goal

pub returns : goal.returns
returns c xs n v = (fits_reached xs v n, reached_fits xs v n)
