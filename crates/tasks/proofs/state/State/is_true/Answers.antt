use Rattle.std.proofs.Common.{sym, ◌∙◌}
use Rattle.planning.proofs.Bits.{bit_above}
use Rattle.std.proofs.lemmas.Bool.{le-ltb}
use Rattle.tasks.proofs.state.State.is_true.Goals as goal

pub returns-else-variable-self : goal.returns-else-variable-self
returns-else-variable-self c = le-ltb c.args.variable c.args.self.now.width c.if-variable-self.false ∙ sym (bit_above c.args.self.now.bits c.args.self.now.width c.args.variable c.args.self.now.within c.if-variable-self.false)
