use Rattle.std.proofs.Common.{◌≤◌, sym, ap, ◌∙◌, subst, arith}
use lib.Count.{ones}
use Rattle.std.proofs.lemmas.Nat.{ones-le, xor_lt}
use Rattle.planning.proofs.Counting.{change_count_ones}
use Rattle.planning.proofs.variables.changed.Goals as goal

pub returns : goal.returns
returns c = record {
  count = ap ones c.difference.ensures ∙ sym (change_count_ones 64 c.args.old c.args.new (omega arith) (omega arith));
  bound = subst (λ x. ones x ≤ 64) (sym c.difference.ensures) (ones-le 64 _ (xor_lt 64 c.args.old c.args.new (omega arith) (omega arith)));
}
