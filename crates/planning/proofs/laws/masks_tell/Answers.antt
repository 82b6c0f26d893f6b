use Rattle.planning.proofs.Masking.{clash_mask_none, clash_mask_first, result_masked, masked_wider}
use Rattle.planning.proofs.laws.masks_tell.Goals as goal

pub returns : goal.returns
returns c = record { free = clash_mask_none; first = clash_mask_first; stepped = result_masked; wider = masked_wider }
