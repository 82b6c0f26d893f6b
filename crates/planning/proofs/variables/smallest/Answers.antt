use Rattle.std.proofs.Common.{◌<◌, sym, subst, arith}
use Rattle.planning.specs.Changes.{Smallest}
use Rattle.planning.proofs.Counting.{trailing_smallest}
use Rattle.planning.proofs.variables.smallest.Goals as goal

pub returns-else-set-eq0 : goal.returns-else-set-eq0
returns-else-set-eq0 c = subst (λ v. (v < 64) × Smallest c.args.set v) (sym c.lowest.ensures) (trailing_smallest 64 c.args.set (omega arith) (omega arith))
