use Rattle.program.specs.Rows.{row_count}
use Rattle.program.proofs.Reaching.{fits_row}
use Rattle.program.proofs.laws.fits_row_by_row.Goals as goal

pub returns : goal.returns
returns c xs n i v l f = fits_row xs (row_count xs) v.order n i l f
