use Rattle.std.proofs.Common.{◌≡◌, ◌+◌, ◌%◌, ◌^◌}
use Rattle.samples.proofs.table.Table.all.Given as goal

-- each example so far is counted
abbrev pub invariant-loop-example : goal.invariant-loop-example
invariant-loop-example g l = l.self.tried ≡ (l.initial.self.tried + l.example-index) % 2 ^ 32
