use Rattle.planning.proofs.Stepping.{result_below, result_exact}
use Rattle.planning.proofs.Regressing.{value_after_step}
use Rattle.planning.proofs.laws.value_after_step.Goals as goal

pub returns : goal.returns
returns c = record { formula = value_after_step; below = result_below; exact = result_exact }
