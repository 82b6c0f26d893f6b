-- How a run goes on and ends: when a step is refused and with which fault, and the outcome of a plan.
-- Assumes nothing.
use Rattle.std.specs.Prelude.{ℕ, zero, suc, ◌+◌, cond, List, [], ◌∷◌, length, Some, None, Option, ◌==◌, nat_lt}
use Rattle.words.specs.declared.fault.Fault.{Fault}
use Rattle.words.specs.declared.fault.Refusal.TheVariants.{TooLong, WrongWidth, NoSuchOperator, PreconditionFalse, SetAndCleared, GoalMissed}
use Rattle.words.specs.Refusals.{run_fault}
use Rattle.planning.specs.Tree.{Effect, OperatorTree, TaskTree}
use Rattle.planning.specs.Truth.{truth}
use Rattle.planning.specs.Steps.{clash, clash_free, result}
use Rattle.planning.specs.Changes.{change_count}
use Rattle.tasks.specs.Places.{operator_of, goal_place, precondition_place, effect_place}

-- the first of k variables from v on that e sets and clears together in s; v + k if there is none
unfoldable pub first_clash_from : Effect → (s v k : ℕ) → ℕ
first_clash_from e s v zero = v
first_clash_from e s v (suc k) = cond (clash s e v) v (first_clash_from e s (v + 1) k)

-- the smallest variable below n that e sets and clears together in s
abbrev pub first_clash : (n : ℕ) → Effect → (s : ℕ) → ℕ
first_clash n e s = first_clash_from e s 0 n

-- why an operator does not fit state s, after so many steps: its precondition is false, or it sets and clears a variable
-- together; the places are those of the first words of its precondition and of its effect
abbrev pub operator_refusal : (n : ℕ) → OperatorTree → (needs_at does_at s made : ℕ) → Option Fault
operator_refusal n o needs_at does_at s made =
    cond (truth s o.precondition)
    (cond (clash_free n o.effect s) None (Some (run_fault SetAndCleared made (does_at + first_clash n o.effect s))))
    (Some (run_fault PreconditionFalse made needs_at))

-- why operator k of the task is no step from state s
abbrev pub numbered_refusal : TaskTree → (k s made : ℕ) → Option Fault
numbered_refusal t k s made =
    cond (nat_lt k (length t.operators))
    (operator_refusal t.width (operator_of t k) (precondition_place t k) (effect_place t k) s made)
    (Some (run_fault NoSuchOperator made 0))

-- why a run of that width, in state s after so many steps, cannot make operator k of the task its next step: it is the run of
-- a task of another width, 4,096 steps are made, or the operator is no step
abbrev pub step_refusal : TaskTree → (width s made k : ℕ) → Option Fault
step_refusal t width s made k =
    cond (width == t.width)
    (cond (nat_lt made 4096) (numbered_refusal t k s made) (Some (run_fault TooLong made 0)))
    (Some (run_fault WrongWidth made 0))

-- the state after operator k of the task, and how many variables it changes
abbrev pub state_after : TaskTree → (k s : ℕ) → ℕ
state_after t k s = result t.width (operator_of t k).effect s

abbrev pub changes_by : TaskTree → (k s : ℕ) → ℕ
changes_by t k s = change_count t.width s (state_after t k s)

-- why such a run cannot be finished: another width, or the goal is false
abbrev pub finish_refusal : TaskTree → (width s made : ℕ) → Option Fault
finish_refusal t width s made =
    cond (width == t.width)
    (cond (truth s t.goal) None (Some (run_fault GoalMissed made (goal_place t))))
    (Some (run_fault WrongWidth made 0))

-- how a plan ends
pub data Outcome : Type 0 where
  accepted : (steps changes end : ℕ) → Outcome
  refused : Fault → Outcome

-- the refusal, if there is one
abbrev pub refused_or : Option Fault → Outcome → Outcome
refused_or None outcome = outcome
refused_or (Some f) outcome = refused f

-- the outcome of the numbers that are left, from state s after so many steps with so many changes
abbrev pub run_outcome : TaskTree → (made changes s : ℕ) → List ℕ → Outcome
run_outcome t made c s [] = refused_or (finish_refusal t t.width s made) (accepted made c s)
run_outcome t made c s (k ∷ ks) = refused_or (step_refusal t t.width s made k) (run_outcome t (made + 1) (c + changes_by t k s) (state_after t k s) ks)

abbrev pub plan_outcome : TaskTree → List ℕ → Outcome
plan_outcome t plan = run_outcome t 0 0 t.initial plan
