use Rattle.reading.proofs.First.{first_fault_decides}
use Rattle.reading.proofs.laws.first_fault_decides.Goals as goal

pub returns : goal.returns
returns c = first_fault_decides
