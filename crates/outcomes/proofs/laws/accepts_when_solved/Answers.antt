use Rattle.outcomes.proofs.Accepting.{accepts_when_solved}
use Rattle.outcomes.proofs.laws.accepts_when_solved.Goals as goal

pub returns : goal.returns
returns c = accepts_when_solved
