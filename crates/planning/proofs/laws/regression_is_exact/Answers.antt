use Rattle.planning.proofs.Regressing.{regression_exact, regression_value}
use Rattle.planning.proofs.laws.regression_is_exact.Goals as goal

pub returns : goal.returns
returns c = record { exact = regression_exact; value = regression_value }
