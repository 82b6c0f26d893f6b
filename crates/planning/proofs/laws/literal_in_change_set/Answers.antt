use Rattle.planning.proofs.Stepping.{literal_in_change_set}
use Rattle.planning.proofs.laws.literal_in_change_set.Goals as goal

pub returns : goal.returns
returns c = literal_in_change_set
