use Rattle.semantics.proofs.Naming.{fits_below, fits_from_names}
use Rattle.semantics.proofs.fits_what_it_names.Goals as goal

pub returns : goal.returns
returns c n p = (λ f i m. fits_below n i p f m, fits_from_names n p)
