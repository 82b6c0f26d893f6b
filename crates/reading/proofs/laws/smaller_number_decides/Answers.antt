use Rattle.reading.proofs.Smallest.{smaller_number_decides}
use Rattle.reading.proofs.laws.smaller_number_decides.Goals as goal

pub returns : goal.returns
returns c = smaller_number_decides
