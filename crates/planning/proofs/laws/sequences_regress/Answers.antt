use Rattle.planning.proofs.Leading.{leads_into_exact, regress_all_value, leads_into_after, reaches_exact}
use Rattle.planning.proofs.laws.sequences_regress.Goals as goal

pub returns : goal.returns
returns c = record { into = leads_into_exact; regressed = regress_all_value; after = leads_into_after; goal = reaches_exact }
