use Rattle.planning.proofs.Stepping.{fits_agrees, fits_conditions}
use Rattle.planning.proofs.laws.fits_decided.Goals as goal

pub returns : goal.returns
returns c = record { test = fits_agrees; conditions = fits_conditions }
