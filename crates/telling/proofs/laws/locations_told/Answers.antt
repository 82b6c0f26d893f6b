use Rattle.telling.proofs.Locating.{locations_told}
use Rattle.telling.proofs.laws.locations_told.Goals as goal

pub returns : goal.returns
returns c = locations_told
