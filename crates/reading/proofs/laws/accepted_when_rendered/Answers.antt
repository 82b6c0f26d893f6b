use Rattle.reading.proofs.Theorem.{accepted_when_rendered}
use Rattle.reading.proofs.laws.accepted_when_rendered.Goals as goal

pub returns : goal.returns
returns c = accepted_when_rendered
