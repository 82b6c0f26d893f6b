use Rattle.valuing.proofs.Truths.{truth_told}
use Rattle.valuing.proofs.truth.is_true.Goals as goal

pub returns : goal.returns
returns c = let w = c.in_ok-value.ensures in rw c.is_one.ensures (truth_told _ _ _ _ _ _ _ _ w.0 w.1)
