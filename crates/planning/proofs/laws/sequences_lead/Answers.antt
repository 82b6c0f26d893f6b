use Rattle.planning.proofs.Leading.{leads_one, leads_first, leads_below, leads_joined}
use Rattle.planning.proofs.laws.sequences_lead.Goals as goal

pub returns : goal.returns
returns c = record { one = leads_one; first = leads_first; below = leads_below; joined = leads_joined }
