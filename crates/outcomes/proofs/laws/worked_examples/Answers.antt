use Rattle.outcomes.proofs.Examples.{worked_examples}
use Rattle.outcomes.proofs.laws.worked_examples.Goals as goal

pub returns : goal.returns
returns c = worked_examples
