-- Sequences of operators: where they lead, and when a plan solves a task.
-- Assumes nothing.
use Rattle.std.specs.Prelude.{◌≡◌, ℕ, ◌<◌, Bool, true, ◌&&◌, List, [], ◌∷◌, length, slice_index_or}
use Rattle.planning.specs.Tree.{TRUE, NIL, OperatorTree, TaskTree}
use Rattle.planning.specs.Truth.{truth}
use Rattle.planning.specs.Steps.{Fits, ResultIs, fits, result}

-- one step: o fits s and its result is t
pub record StepTo (n : ℕ) (o : OperatorTree) (s t : ℕ) : Type 0 where
  pub fit : Fits n o s
  pub leads : ResultIs n o s t

-- the operators in turn, each fitting where it is run, lead from s to t
abbrev pub Leads : ℕ → List OperatorTree → ℕ → ℕ → Type 0
Leads n [] s t = s ≡ t
Leads n (o ∷ os) s t = (u : ℕ) × StepTo n o s u × Leads n os u t

-- the operators lead from s to a state in which the task's goal is true
pub record Reaches (t : TaskTree) (os : List OperatorTree) (s : ℕ) : Type 0 where
  pub end : ℕ
  pub leads : Leads t.width os s end
  pub goal : truth end t.goal ≡ true

-- every number names one of count operators
abbrev pub NumbersBelow : ℕ → List ℕ → Type 0
NumbersBelow count [] = Unit {0}
NumbersBelow count (k ∷ ks) = (k < count) × NumbersBelow count ks

-- the operators that numbers name; the idle operator stands where a number names none
abbrev pub idle : OperatorTree
idle = record { precondition = TRUE; effect = NIL }

abbrev pub named : List OperatorTree → List ℕ → List OperatorTree
named os [] = []
named os (k ∷ ks) = slice_index_or os k idle ∷ named os ks

-- a plan, a list of operator numbers, solves a task: every number names an operator, and the named operators lead
-- from the initial state into the goal
pub record Solves (t : TaskTree) (plan : List ℕ) : Type 0 where
  pub numbers : NumbersBelow (length t.operators) plan
  pub reaches : Reaches t (named t.operators plan) t.initial

-- the operators, each fitting where it is run, lead from s to a state of which P is true: worked out from the first on
abbrev pub leads_into : ℕ → List OperatorTree → (ℕ → Bool) → ℕ → Bool
leads_into n [] P s = P s
leads_into n (o ∷ os) P s = fits n o s && leads_into n os P (result n o.effect s)
