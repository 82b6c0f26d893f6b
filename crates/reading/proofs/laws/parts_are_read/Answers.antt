use Rattle.reading.proofs.PartsRead.{parts_are_read}
use Rattle.reading.proofs.laws.parts_are_read.Goals as goal

pub returns : goal.returns
returns c = parts_are_read
