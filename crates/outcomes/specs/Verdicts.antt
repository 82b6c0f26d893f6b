-- The verdict, from the bytes of a task's file and a plan's file to the bytes of its line.
-- Assumes nothing.
use Rattle.std.specs.Prelude.{ℕ, List, Some, None, Option}
use Rattle.words.specs.declared.fault.Fault.{Fault}
use Rattle.words.specs.Files.{task_limit, plan_limit, file_refusal, words_of}
use Rattle.reading.specs.Faults.{task_fault_of}
use Rattle.reading.specs.Trees.{task_tree}
use Rattle.outcomes.specs.Runs.{Outcome, refused_or, plan_outcome}
use Rattle.outcomes.specs.Lines.{outcome_bytes}

-- the first of two faults, if there is one
abbrev pub first_of : Option Fault → Option Fault → Option Fault
first_of None later = later
first_of (Some f) later = Some f

-- the fault of both files that comes before the run: of the task's file, of its task, of the plan's file
abbrev pub files_refusal : (task_bytes plan_bytes : List ℕ) → Option Fault
files_refusal t p = first_of (file_refusal task_limit t) (first_of (task_fault_of (words_of t)) (file_refusal plan_limit p))

-- that fault if there is one; else the plan is run on the task
abbrev pub files_outcome : (task_bytes plan_bytes : List ℕ) → Outcome
files_outcome t p = refused_or (files_refusal t p) (plan_outcome (task_tree (words_of t)) (words_of p))

abbrev pub verdict_bytes : (task_bytes plan_bytes : List ℕ) → List ℕ
verdict_bytes t p = outcome_bytes (files_outcome t p)
