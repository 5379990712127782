use Rattle.semantics.proofs.Naming.{fits_within}
use Rattle.semantics.proofs.fits_within.Goals as goal

pub returns : goal.returns
returns c n p q w f = fits_within n w f
