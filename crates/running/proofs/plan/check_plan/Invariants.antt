-- The run has the task's width, and the outcome of the numbers that are left, from here, is that of the plan.
use Rattle.std.proofs.Common.{◌≡◌, drop}
use Rattle.reading.specs.Trees.{task_tree}
use Rattle.outcomes.specs.Runs.{run_outcome, plan_outcome}
use Rattle.running.proofs.plan.check_plan.Given as goal

abbrev pub invariant-loop-number : goal.invariant-loop-number
invariant-loop-number l =
    (l.run.state.width ≡ (task_tree l.task.words.now).width)
    × (run_outcome (task_tree l.task.words.now) l.run.steps l.run.changes l.run.state.bits (drop l.number-index l.plan) ≡ plan_outcome (task_tree l.task.words.now) l.plan)
