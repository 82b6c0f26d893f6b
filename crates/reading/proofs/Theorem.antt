-- Words are accepted exactly when they render a task within the limits.
-- Assumes nothing.
use Rattle.std.proofs.Common.{◌≡◌, ℕ, ltb, List, length, Some, None, ap, ◌∙◌, subst}
use Rattle.std.proofs.lemmas.Bool.{cond-false, le-ltb}
use Rattle.words.specs.declared.fault.Refusal.TheVariants.{TooLong}
use Rattle.words.specs.Refusals.{task_fault}
use Rattle.planning.specs.Tree.{TaskTree}
use Rattle.planning.specs.Render.{task_words}
use Rattle.planning.specs.Limits.{TaskWithin}
use Rattle.reading.specs.Turns.{at_head}
use Rattle.reading.specs.Faults.{fault_from, task_fault_of}
use Rattle.reading.specs.Trees.{task_so_far, task_tree}
use Rattle.reading.specs.Laws.{AcceptedWhenRendered}
use Rattle.reading.proofs.Accepted as accepted
use Rattle.reading.proofs.Rendered.{rendered}

pub faultless : (t : TaskTree) → TaskWithin t → task_fault_of (task_words t) ≡ None
faultless t w = cond-false (ltb 16384 (length (task_words t))) (Some (task_fault TooLong 16384)) (fault_from at_head 0 (task_words t)) (le-ltb 16384 (length (task_words t)) w.short) ∙ (rendered t w).clean 0

pub same_tree : (t : TaskTree) → TaskWithin t → task_tree (task_words t) ≡ t
same_tree t w = ap task_so_far (rendered t w).tree

pub accepted_when_rendered : (ws : List ℕ) → AcceptedWhenRendered ws
accepted_when_rendered ws = record {
  accepted = accepted.accepted ws;
  rendered = λ t r. subst (λ xs. task_fault_of xs ≡ None) r.1 (faultless t r.0);
  only = λ t r. subst (λ xs. task_tree xs ≡ t) r.1 (same_tree t r.0);
}
