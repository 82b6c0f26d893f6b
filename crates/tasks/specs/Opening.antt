-- What opening a task says of the words.
-- Assumes nothing.
use Rattle.std.specs.Prelude.{◌≡◌, ℕ, ◌<◌, ◌≤◌, List, length, Some, None}
use Rattle.words.specs.declared.fault.Fault.{Fault}
use Rattle.words.specs.declared.fault.Refusal.TheVariants.{TooLong}
use Rattle.words.specs.Refusals.{task_fault}
use Rattle.planning.specs.Tree.{TaskTree}
use Rattle.reading.specs.Faults.{task_fault_of}
use Rattle.reading.specs.Laws.{Renders, FirstAt}
use Rattle.reading.specs.Trees.{task_tree}

-- the words render a task within the limits, and that one alone
pub record Accepts (ws : List ℕ) : Type 0 where
  pub faultless : task_fault_of ws ≡ None
  pub renders : Renders ws (task_tree ws)
  pub only : (t : TaskTree) → Renders ws t → task_tree ws ≡ t

-- the words render no task within the limits, and f is the fault of the first faulty word, by the smaller number there;
-- of more than 16,384 words it is that of the word after the last one allowed
pub record Refuses (ws : List ℕ) (f : Fault) : Type 0 where
  pub fault : task_fault_of ws ≡ Some f
  pub nothing : (t : TaskTree) → Renders ws t → ⊥
  pub long : 16384 < length ws → f ≡ task_fault TooLong 16384
  pub first : length ws ≤ 16384 → FirstAt ws f.place f.refusal × (f ≡ task_fault f.refusal f.place)
