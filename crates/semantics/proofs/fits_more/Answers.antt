use Rattle.semantics.proofs.Naming.{fits_more}
use Rattle.semantics.proofs.fits_more.Goals as goal

pub returns : goal.returns
returns c = fits_more
