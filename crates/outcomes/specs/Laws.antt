-- The laws of outcomes and verdicts, in terms of whole plans and files.
-- Assumes nothing.
use Rattle.std.specs.Prelude.{◌≡◌, ℕ, ◌+◌, ◌^◌, ◌<◌, ◌≤◌, true, false, ◌⊎◌, ◌↔◌, List, [], ◌∷◌, ◌++◌, length, take, Some, None, codes, ◌≢◌}
use Rattle.std.specs.List.{AllByRecursion}
use Rattle.words.specs.declared.fault.Fault.{Fault}
use Rattle.words.specs.declared.fault.Refusal.TheVariants.{TooLong, WrongWidth, NoSuchOperator, PreconditionFalse, SetAndCleared, GoalMissed}
use Rattle.words.specs.Files.{task_limit, plan_limit, file_refusal, words_of, bytes_of}
use Rattle.words.specs.Refusals.{run_fault}
use Rattle.planning.specs.Tree.{OperatorTree, TaskTree}
use Rattle.planning.specs.Render.{task_words}
use Rattle.planning.specs.Limits.{TaskWithin}
use Rattle.planning.specs.Truth.{truth}
use Rattle.planning.specs.Changes.{change_count}
use Rattle.planning.specs.Steps.{Fits, result, FirstClash}
use Rattle.planning.specs.Sequences.{StepTo, Leads, NumbersBelow, named, Solves}
use Rattle.reading.specs.Faults.{task_fault_of}
use Rattle.reading.specs.Trees.{task_tree}
use Rattle.tasks.specs.Places.{operator_of, goal_place, precondition_place, effect_place}
use Rattle.lines.specs.Lines.{accept_bytes, refuse_bytes}
use Rattle.outcomes.specs.Runs.{accepted, refused, step_refusal, state_after, finish_refusal, plan_outcome}
use Rattle.outcomes.specs.Verdicts.{files_outcome, verdict_bytes}

-- the changes of all steps together, where the operators are run from s
abbrev pub total_changes : ℕ → List OperatorTree → ℕ → ℕ
total_changes n [] s = 0
total_changes n (o ∷ os) s = change_count n s (result n o.effect s) + total_changes n os (result n o.effect s)

-- a plan that is accepted: it solves the task in at most 4,096 steps; all its steps lead to the end state, in which the goal
-- is true, and the changes are those of all steps
pub record Accepted (t : TaskTree) (plan : List ℕ) (steps changes end : ℕ) : Type 0 where
  pub solves : Solves t plan
  pub few : length plan ≤ 4096
  pub all : steps ≡ length plan
  pub leads : Leads t.width (named t.operators plan) t.initial end
  pub goal : truth end t.goal ≡ true
  pub sum : changes ≡ total_changes t.width (named t.operators plan) t.initial

-- why operator k is no step from s after so many steps: there is none, its precondition is false, or v is the smallest
-- variable that it sets and clears together
abbrev pub NoStep : TaskTree → (made s k : ℕ) → Fault → Type 0
NoStep t made s k f =
    ((length t.operators ≤ k) × (f ≡ run_fault NoSuchOperator made 0))
    ⊎ ((k < length t.operators)
    × (((truth s (operator_of t k).precondition ≡ false) × (f ≡ run_fault PreconditionFalse made (precondition_place t k)))
    ⊎ ((truth s (operator_of t k).precondition ≡ true)
    × ((v : ℕ) × FirstClash t.width (operator_of t k).effect s v × (f ≡ run_fault SetAndCleared made (effect_place t k + v))))))

-- why a run of that width, in state s after so many steps, cannot make operator k its next step: it is the run of a task of
-- another width, 4,096 steps are made, or the operator is no step
abbrev pub NoNext : TaskTree → (width s made k : ℕ) → Fault → Type 0
NoNext t width s made k f =
    ((width ≢ t.width) × (f ≡ run_fault WrongWidth made 0))
    ⊎ ((width ≡ t.width)
    × (((4096 ≤ made) × (f ≡ run_fault TooLong made 0)) ⊎ ((made < 4096) × NoStep t made s k f)))

pub record StepDecided (t : TaskTree) (width s made k : ℕ) : Type 0 where
  -- the step is made exactly if the run has the task's width and fewer than 4,096 steps, and operator k is there and fits
  pub exactly : (step_refusal t width s made k ≡ None) ↔ ((width ≡ t.width) × (made < 4096) × (k < length t.operators) × Fits t.width (operator_of t k) s)
  pub leads : step_refusal t width s made k ≡ None → StepTo t.width (operator_of t k) s (state_after t k s)
  pub refuses : (f : Fault) → step_refusal t width s made k ≡ Some f → NoNext t width s made k f

-- why such a run cannot be finished: another width, or the goal is false
abbrev pub NoFinish : TaskTree → (width s made : ℕ) → Fault → Type 0
NoFinish t width s made f =
    ((width ≢ t.width) × (f ≡ run_fault WrongWidth made 0))
    ⊎ ((width ≡ t.width) × (truth s t.goal ≡ false) × (f ≡ run_fault GoalMissed made (goal_place t)))

pub record FinishDecided (t : TaskTree) (width s made : ℕ) : Type 0 where
  -- the run is finished exactly if it has the task's width and the goal is true in its state
  pub exactly : (finish_refusal t width s made ≡ None) ↔ ((width ≡ t.width) × (truth s t.goal ≡ true))
  pub refuses : (f : Fault) → finish_refusal t width s made ≡ Some f → NoFinish t width s made f

-- why the run stops in state s after so many steps, where these numbers are left: the goal is false at the end, 4,096 steps are
-- made, or the next number is no step
abbrev pub Stops : TaskTree → (made s : ℕ) → (left : List ℕ) → Fault → Type 0
Stops t made s [] f = (truth s t.goal ≡ false) × (f ≡ run_fault GoalMissed made (goal_place t))
Stops t made s (k ∷ ks) f = ((made ≡ 4096) × (f ≡ run_fault TooLong made 0)) ⊎ ((made < 4096) × NoStep t made s k f)

-- a plan that is refused: its first steps lead to a state in which the run stops
pub record Refused (t : TaskTree) (plan : List ℕ) (f : Fault) : Type 0 where
  pub done : List ℕ
  pub left : List ℕ
  pub split : done ++ left ≡ plan
  pub few : length done ≤ 4096
  pub numbers : NumbersBelow (length t.operators) done
  pub state : ℕ
  pub leads : Leads t.width (named t.operators done) t.initial state
  pub stops : Stops t (length done) state left f

pub record PlanDecided (t : TaskTree) (plan : List ℕ) : Type 0 where
  -- a plan that solves the task in at most 4,096 steps is accepted, and no other one
  pub solved : Solves t plan → length plan ≤ 4096 → (steps : ℕ) × (changes : ℕ) × (end : ℕ) × (plan_outcome t plan ≡ accepted steps changes end)
  pub accepts : (steps changes end : ℕ) → plan_outcome t plan ≡ accepted steps changes end → Accepted t plan steps changes end
  pub refuses : (f : Fault) → plan_outcome t plan ≡ refused f → Refused t plan f

-- the fault of the task's file comes first, then that of the task, then that of the plan's file; with none of them the plan is run
pub record FaultsInOrder (task_bytes plan_bytes : List ℕ) : Type 0 where
  pub task_file : (f : Fault) → file_refusal task_limit task_bytes ≡ Some f → files_outcome task_bytes plan_bytes ≡ refused f
  pub task : (f : Fault) → file_refusal task_limit task_bytes ≡ None → task_fault_of (words_of task_bytes) ≡ Some f → files_outcome task_bytes plan_bytes ≡ refused f
  pub plan_file : (f : Fault) → file_refusal task_limit task_bytes ≡ None → task_fault_of (words_of task_bytes) ≡ None
      → file_refusal plan_limit plan_bytes ≡ Some f → files_outcome task_bytes plan_bytes ≡ refused f
  pub run : file_refusal task_limit task_bytes ≡ None → task_fault_of (words_of task_bytes) ≡ None
      → file_refusal plan_limit plan_bytes ≡ None → files_outcome task_bytes plan_bytes ≡ plan_outcome (task_tree (words_of task_bytes)) (words_of plan_bytes)

-- the bytes of the two files are those of this task, which is within the limits, and of this plan of at most 4,096 numbers
pub record FilesHold (task_bytes plan_bytes : List ℕ) (task : TaskTree) (plan : List ℕ) : Type 0 where
  pub within : TaskWithin task
  pub renders : bytes_of (task_words task) ≡ task_bytes
  pub small : AllByRecursion (λ k. k < 2 ^ 32) plan
  pub holds : bytes_of plan ≡ plan_bytes
  pub few : length plan ≤ 4096

-- they are those of a task and of a plan that solves it
pub record SolvedFiles (task_bytes plan_bytes : List ℕ) : Type 0 where
  pub task : TaskTree
  pub plan : List ℕ
  pub hold : FilesHold task_bytes plan_bytes task plan
  pub solves : Solves task plan

-- the line begins ACCEPT exactly if the files are those of a task and of a plan that solves it
abbrev pub AcceptsWhenSolved : (task_bytes plan_bytes : List ℕ) → Type 0
AcceptsWhenSolved t p = AllByRecursion (λ b. b < 256) t → AllByRecursion (λ b. b < 256) p → (take 6 (verdict_bytes t p) ≡ codes "ACCEPT") ↔ SolvedFiles t p

-- the line of files whose plan is accepted: it has the steps, the changes and the end state of that plan
pub record LineAccepts (task_bytes plan_bytes line : List ℕ) : Type 0 where
  pub task : TaskTree
  pub plan : List ℕ
  pub hold : FilesHold task_bytes plan_bytes task plan
  pub steps : ℕ
  pub changes : ℕ
  pub end : ℕ
  pub run : Accepted task plan steps changes end
  pub same : line ≡ accept_bytes steps changes end

-- why files are refused, the first of these that is so: the task's file has a fault, or its task has, or the plan's file has,
-- or they are those of a task and of a plan that is refused
abbrev pub FilesRefused : (task_bytes plan_bytes : List ℕ) → Fault → Type 0
FilesRefused t p f =
    (file_refusal task_limit t ≡ Some f)
    ⊎ (((file_refusal task_limit t ≡ None) × (task_fault_of (words_of t) ≡ Some f))
    ⊎ (((file_refusal task_limit t ≡ None) × (task_fault_of (words_of t) ≡ None) × (file_refusal plan_limit p ≡ Some f))
    ⊎ ((task : TaskTree) × (plan : List ℕ) × FilesHold t p task plan × Refused task plan f)))

-- the line of files that are refused: it has the number, the step and the place of that fault
pub record LineRefuses (task_bytes plan_bytes line : List ℕ) : Type 0 where
  pub fault : Fault
  pub reason : FilesRefused task_bytes plan_bytes fault
  pub same : line ≡ refuse_bytes fault

-- a line of the verdict: it tells one of the two
pub data VerdictTells (task_bytes plan_bytes line : List ℕ) : Type 0 where
  of_accepted : LineAccepts task_bytes plan_bytes line → VerdictTells task_bytes plan_bytes line
  of_refused : LineRefuses task_bytes plan_bytes line → VerdictTells task_bytes plan_bytes line
