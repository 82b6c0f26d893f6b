use Rattle.outcomes.proofs.Stepping.{step_decided}
use Rattle.outcomes.proofs.laws.step_decided.Goals as goal

pub returns : goal.returns
returns c = step_decided
