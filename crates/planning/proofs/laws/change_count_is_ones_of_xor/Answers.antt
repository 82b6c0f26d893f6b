use Rattle.planning.proofs.Counting.{change_count_ones, change_count_wider}
use Rattle.planning.proofs.laws.change_count_is_ones_of_xor.Goals as goal

pub returns : goal.returns
returns c = record { ones = change_count_ones; wider = change_count_wider }
