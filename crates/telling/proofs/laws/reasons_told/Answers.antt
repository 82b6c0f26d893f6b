use Rattle.telling.proofs.Reasoning.{reasons_told}
use Rattle.telling.proofs.laws.reasons_told.Goals as goal

pub returns : goal.returns
returns c = reasons_told
