use Rattle.outcomes.proofs.Accepting.{faults_in_order}
use Rattle.outcomes.proofs.laws.faults_in_order.Goals as goal

pub returns : goal.returns
returns c = faults_in_order
