use Rattle.outcomes.proofs.Stepping.{finish_decided}
use Rattle.outcomes.proofs.laws.finish_decided.Goals as goal

pub returns : goal.returns
returns c = finish_decided
