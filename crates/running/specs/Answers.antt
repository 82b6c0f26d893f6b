-- What the check of a plan and of two files answers.
-- Assumes nothing.
use Rattle.std.specs.Prelude.{◌≡◌, ℕ, ◌≤◌, true, ◌↔◌, List, length, is_ok, Some, None, Ok, Err, Result}
use Rattle.words.specs.declared.fault.Fault.{Fault}
use Rattle.words.specs.declared.file.FileError.{FileError}
use Rattle.words.specs.declared.file.FileError.TheVariants.{Refused, NoMemory}
use Rattle.words.specs.Files.{task_limit, file_refusal, words_of}
use Rattle.planning.specs.Tree.{TaskTree}
use Rattle.planning.specs.Sequences.{Solves}
use Rattle.reading.specs.Trees.{task_tree}
use Rattle.tasks.specs.declared.state.State.{State}
use Rattle.outcomes.specs.Runs.{Outcome, accepted, refused, finish_refusal}
use Rattle.outcomes.specs.Laws.{Accepted as AcceptedPlan, Refused as RefusedPlan, SolvedFiles}
use Rattle.outcomes.specs.Verdicts.{files_outcome}
use Rattle.outcomes.specs.declared.reached.Accepted.{Accepted}

-- a run in that state, after so many steps with so many changes, is finished
abbrev pub FinishAnswer : TaskTree → State → (made changes : ℕ) → Result Accepted Fault → Type 0
FinishAnswer t s made changes (Ok a) = (finish_refusal t s.width s.bits made ≡ None) × (a ≡ record { steps = made; changes = changes; end = s })
FinishAnswer t s made changes (Err f) = finish_refusal t s.width s.bits made ≡ Some f

-- the outcome that an answer tells
abbrev pub outcome_of : Result Accepted Fault → Outcome
outcome_of (Ok a) = accepted a.steps a.changes a.end.bits
outcome_of (Err f) = refused f

-- the same in terms of the task and the plan: an accepted plan leads from the initial state to a state in which the goal is
-- true, a refused one stops where its first step fails or at the end, and the plans that solve the task are accepted
pub record Judged (t : TaskTree) (plan : List ℕ) (r : Result Accepted Fault) : Type 0 where
  pub accepts : (a : Accepted) → r ≡ Ok a → AcceptedPlan t plan a.steps a.changes a.end.bits
  -- the end state is one of the task's variables
  pub wide : (a : Accepted) → r ≡ Ok a → a.end.width ≡ t.width
  pub refuses : (f : Fault) → r ≡ Err f → RefusedPlan t plan f
  pub exactly : (is_ok r ≡ true) ↔ (Solves t plan × (length plan ≤ 4096))

-- the check of both files tells their outcome, and the end state is one of the task's variables; memory is wanted only where the task's file has no fault of its length
abbrev pub FilesAnswer : (task_bytes plan_bytes : List ℕ) → Result Accepted FileError → Type 0
FilesAnswer t p (Ok a) = (files_outcome t p ≡ accepted a.steps a.changes a.end.bits) × (a.end.width ≡ (task_tree (words_of t)).width)
FilesAnswer t p (Err (Refused f)) = files_outcome t p ≡ refused f
FilesAnswer t p (Err NoMemory) = file_refusal task_limit t ≡ None

-- where memory is not wanted, the files are accepted exactly if they are those of a task and of a plan that solves it
abbrev pub OkWhenSolved : (task_bytes plan_bytes : List ℕ) → Result Accepted FileError → Type 0
OkWhenSolved t p (Ok a) = SolvedFiles t p
OkWhenSolved t p (Err (Refused f)) = SolvedFiles t p → ⊥
OkWhenSolved t p (Err NoMemory) = Unit {0}
