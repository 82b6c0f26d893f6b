use Rattle.std.proofs.Common.{ap, ◌∙◌}
use Rattle.waiting.specs.Waits.{newest, older}
use Rattle.valuing.proofs.Standing.{moved_true, moved_false, moved_variable, moved_not, moved_and, moved_or}
use Rattle.valuing.proofs.work.make.Goals as goal

pub returns-in_ok-constant-in-True : goal.returns-in_ok-constant-in-True
returns-in_ok-constant-in-True g c = rw c.in-True.is (moved_true _ _ c.in_ok-constant-in-True.field-0 _ _ c.in_ok-constant-in-True.ensures.1 c.put.ensures)

pub returns-in_ok-constant-in-False : goal.returns-in_ok-constant-in-False
returns-in_ok-constant-in-False g c = rw c.in-False.is (moved_false _ _ c.in_ok-constant-in-False.field-0 _ _ c.in_ok-constant-in-False.ensures.1 c.put-in-False.ensures)

pub returns-in_ok-variable-in-Variable : goal.returns-in_ok-variable-in-Variable
returns-in_ok-variable-in-Variable g c = rw c.in-Variable.is (moved_variable _ _ c.in_ok-variable-in-Variable.field-0 _ _ _ c.in_ok-variable-in-Variable.ensures.1 c.put-in-Variable.ensures)

pub returns-in_ok-not-in-Not : goal.returns-in_ok-not-in-Not
returns-in_ok-not-in-Not g c =
    rw c.in-Not.is (moved_not _ _ c.in_ok-not-in-Not.field-0 _ _ _ _ c.in_ok-not-in-Not.ensures.1 c.take-operand.ensures.value c.take-operand.ensures.left
    c.take-operand.ensures.few c.put-in-Not.ensures)

pub returns-in_ok-and-in-And : goal.returns-in_ok-and-in-And
returns-in_ok-and-in-And g c =
    rw c.in-And.is (moved_and _ _ c.in_ok-and-in-And.field-0 _ _ _ _ _ c.in_ok-and-in-And.ensures.1 c.take-second.ensures.value
    (c.take-first.ensures.value ∙ ap (newest 0) c.take-second.ensures.left) (c.take-first.ensures.left ∙ ap older c.take-second.ensures.left)
    c.take-second.ensures.few c.put-in-And.ensures)

pub returns-in_ok-or-in-Or : goal.returns-in_ok-or-in-Or
returns-in_ok-or-in-Or g c =
    rw c.in-Or.is (moved_or _ _ c.in_ok-or-in-Or.field-0 _ _ _ _ _ c.in_ok-or-in-Or.ensures.1 c.take-second-in-Or.ensures.value
    (c.take-first-in-Or.ensures.value ∙ ap (newest 0) c.take-second-in-Or.ensures.left) (c.take-first-in-Or.ensures.left ∙ ap older c.take-second-in-Or.ensures.left)
    c.take-second-in-Or.ensures.few c.put-in-Or.ensures)
