-- What a step answers: by an operator that is handed out, and by a number of the task.
-- Assumes nothing.
use Rattle.std.specs.Prelude.{◌≡◌, ℕ, ◌+◌, ◌≤◌, Bool, true, false, cond, ◌&&◌, Some, None, Ok, Err, Option, Result, ◌==◌}
use Rattle.words.specs.declared.fault.Fault.{Fault}
use Rattle.words.specs.declared.fault.Refusal.TheVariants.{WrongWidth, PreconditionFalse, SetAndCleared}
use Rattle.words.specs.Refusals.{run_fault}
use Rattle.planning.specs.Tree.{OperatorTree, TaskTree}
use Rattle.planning.specs.Changes.{change_count}
use Rattle.planning.specs.Steps.{result}
use Rattle.reading.specs.Parts.{formula_of, effect_of}
use Rattle.tasks.specs.declared.part.Operator.{Operator}
use Rattle.outcomes.specs.Runs.{operator_refusal, step_refusal, state_after, changes_by}
use Rattle.outcomes.specs.declared.reached.Stepped.{Stepped}

-- the operator whose words these are
abbrev pub tree_of : Operator → OperatorTree
tree_of o = record { precondition = formula_of o.precondition.words.now; effect = effect_of o.effect.words.now }

-- both parts are over n variables
abbrev pub has_width : Operator → ℕ → Bool
has_width o n = o.precondition.width == n && o.effect.width == n

-- why the operator is no step from state s of that width, after so many steps: it is one of another width, or does not fit
abbrev pub refusal_in : Operator → (width s made : ℕ) → Option Fault
refusal_in o n s made =
    cond (has_width o n)
    (operator_refusal n (tree_of o) o.precondition.place o.effect.place s made)
    (Some (run_fault WrongWidth made 0))

-- why an operator with parts at these places does not fit, after so many steps: its precondition does not hold, or a variable
-- clashes
abbrev pub misfit_of : (holds : Bool) (clash : Option ℕ) (needs_at does_at made : ℕ) → Option Fault
misfit_of true None needs_at does_at made = None
misfit_of true (Some v) needs_at does_at made = Some (run_fault SetAndCleared made (does_at + v))
misfit_of false clash needs_at does_at made = Some (run_fault PreconditionFalse made needs_at)

-- an accepted step: the state after the operator, and how many variables it changed
pub record Steps (o : Operator) (width s made : ℕ) (r : Stepped) : Type 0 where
  pub fits : refusal_in o width s made ≡ None
  pub wide : r.state.width ≡ width
  pub after : r.state.bits ≡ result width (tree_of o).effect s
  pub count : r.changes ≡ change_count width s (result width (tree_of o).effect s)
  pub few : r.changes ≤ 64

abbrev pub StepAnswer : Operator → (width s made : ℕ) → Result Stepped Fault → Type 0
StepAnswer o n s made (Ok r) = Steps o n s made r
StepAnswer o n s made (Err f) = refusal_in o n s made ≡ Some f

-- the next step of a run, by the operator of that number
pub record Follows (t : TaskTree) (width s made k : ℕ) (r : Stepped) : Type 0 where
  pub fits : step_refusal t width s made k ≡ None
  pub wide : r.state.width ≡ width
  pub after : r.state.bits ≡ state_after t k s
  pub count : r.changes ≡ changes_by t k s
  pub few : r.changes ≤ 64

abbrev pub NextAnswer : TaskTree → (width s made k : ℕ) → Result Stepped Fault → Type 0
NextAnswer t n s made k (Ok r) = Follows t n s made k r
NextAnswer t n s made k (Err f) = step_refusal t n s made k ≡ Some f
