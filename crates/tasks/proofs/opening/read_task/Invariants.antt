use Rattle.tasks.specs.Progress.{turn_now}
use Rattle.tasks.proofs.Opened.{Reading}
use Rattle.tasks.proofs.opening.read_task.Given as goal

abbrev pub invariant-loop-at : goal.invariant-loop-at
invariant-loop-at l = Reading l.words l.at (turn_now l.progress)
