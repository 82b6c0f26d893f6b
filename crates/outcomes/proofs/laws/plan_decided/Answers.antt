use Rattle.outcomes.proofs.Deciding.{plan_decided}
use Rattle.outcomes.proofs.laws.plan_decided.Goals as goal

pub returns : goal.returns
returns c = plan_decided
