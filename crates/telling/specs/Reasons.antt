-- How an account names the parts of a task, and why a step is refused.
-- Assumes nothing.
use Rattle.std.specs.Prelude.{◌≡◌, ℕ, ◌-◌, ◌/◌, ◌%◌, cond, List, ◌++◌, length, Some, codes, decimal, ◌==◌, nat_lt}
use Rattle.words.specs.declared.fault.Fault.{Fault}
use Rattle.words.specs.declared.fault.Refusal.{Refusal}
use Rattle.words.specs.declared.fault.Refusal.TheVariants.{NoSuchOperator, PreconditionFalse, SetAndCleared}
use Rattle.words.specs.Texts.{refusal_text}
use Rattle.planning.specs.Tree.{TaskTree}
use Rattle.planning.specs.Steps.{FirstClash}
use Rattle.tasks.specs.Places.{operator_of, effect_place}
use Rattle.outcomes.specs.Runs.{step_refusal}
use Rattle.telling.specs.declared.location.PartName.{PartName}
use Rattle.telling.specs.declared.location.PartName.TheVariants.{Goal, Precondition, Effect}

-- the part of that number: the goal is 0, then come the precondition and the effect of each operator in turn
abbrev pub part_named : ℕ → PartName
part_named n = cond (n == 0) Goal (cond (n % 2 == 1) (Precondition ((n - 1) / 2)) (Effect ((n - 1) / 2)))

abbrev pub part_name_text : PartName → List ℕ
part_name_text Goal = codes "the goal"
part_name_text (Precondition k) = codes "the precondition of operator " ++ decimal k
part_name_text (Effect k) = codes "the effect of operator " ++ decimal k

-- the variable of a clash of operator k at that place, which is that of the effect's first word plus the variable
abbrev pub clash_at : TaskTree → (k place : ℕ) → ℕ
clash_at t k place = cond (nat_lt k (length t.operators)) (place - effect_place t k) place

-- why a step by operator k is refused at that place
abbrev pub reason_text : TaskTree → (k : ℕ) → Refusal → (place : ℕ) → List ℕ
reason_text t k NoSuchOperator place = codes "the task has " ++ (decimal (length t.operators) ++ codes " operators, numbered from 0")
reason_text t k PreconditionFalse place = codes "what it needs is false"
reason_text t k SetAndCleared place = codes "it sets and clears v" ++ (decimal (clash_at t k place) ++ codes " together")
reason_text t k refusal place = refusal_text refusal

-- where a step is refused since it would set and clear a variable together, the smallest such variable is told
pub record ReasonsTold (t : TaskTree) (width s made k : ℕ) (f : Fault) : Type 0 where
  pub clash : step_refusal t width s made k ≡ Some f → f.refusal ≡ SetAndCleared
      → (v : ℕ) × FirstClash t.width (operator_of t k).effect s v × (reason_text t k f.refusal f.place ≡ codes "it sets and clears v" ++ (decimal v ++ codes " together"))
