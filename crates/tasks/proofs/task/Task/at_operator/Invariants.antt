use Rattle.tasks.proofs.Walking.{Walk}
use Rattle.tasks.proofs.task.Task.at_operator.Given as goal

abbrev pub invariant-loop-passed : goal.invariant-loop-passed
invariant-loop-passed l = Walk l.self.words.now l.reader.words.now l.reader.at l.passed
