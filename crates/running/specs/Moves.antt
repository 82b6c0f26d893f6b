-- What a run is after its next step.
-- Assumes nothing.
use Rattle.std.specs.Prelude.{◌≡◌, ℕ, ◌+◌, Some, None, Ok, Err, Result}
use Rattle.planning.specs.Tree.{TaskTree}
use Rattle.outcomes.specs.Runs.{step_refusal, state_after, changes_by}
use Rattle.running.specs.declared.run.Running.{Running}
use Rattle.running.specs.declared.run.Stopped.{Stopped}

-- a run that has made its next step by operator k
pub record Moved (t : TaskTree) (k : ℕ) (run next : Running) : Type 0 where
  pub fits : step_refusal t run.state.width run.state.bits run.steps k ≡ None
  pub wide : next.state.width ≡ run.state.width
  pub after : next.state.bits ≡ state_after t k run.state.bits
  pub one : next.steps ≡ run.steps + 1
  pub sum : next.changes ≡ run.changes + changes_by t k run.state.bits

-- a run goes on by operator k, or stops at the fault of that step
abbrev pub RunAnswer : TaskTree → ℕ → Running → Result Running Stopped → Type 0
RunAnswer t k run (Ok next) = Moved t k run next
RunAnswer t k run (Err stopped) = step_refusal t run.state.width run.state.bits run.steps k ≡ Some stopped.fault
