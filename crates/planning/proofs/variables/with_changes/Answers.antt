use Rattle.std.proofs.Common.{◌∙◌, arith}
use Rattle.planning.proofs.Masking.{masked_bits}
use Rattle.planning.proofs.variables.with_changes.Goals as goal

pub returns : goal.returns
returns c = c.joined.ensures ∙ masked_bits 64 c.args.state c.args.made_true c.args.made_false (omega arith) (omega arith) (omega arith)
