use Rattle.planning.proofs.Counting.{trailing_smallest}
use Rattle.planning.proofs.laws.trailing_zeros_smallest.Goals as goal

pub returns : goal.returns
returns c = trailing_smallest 64
