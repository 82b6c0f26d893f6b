use Rattle.std.proofs.Common.{◌^◌, ◌<◌, arith}
use Rattle.tasks.proofs.Walking.{state_facts}
use Rattle.tasks.proofs.task.Task.initial.Goals as goal

pub invariant_of-result : goal.invariant_of-result
invariant_of-result c =
    let s = c.args.self.now in
    let f = state_facts s.words.now s.faultless s.width s.wide s.initial s.begun in
    let w : s.initial < 2 ^ s.width = f.1.1.0 in
    record { some = f.0; narrow = f.1.0; within = omega arith }
