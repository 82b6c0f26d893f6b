-- What is told of words that open otherwise than expected.
-- Assumes nothing.
use Rattle.std.specs.Prelude.{ℕ, List, codes}
use Rattle.cases.specs.declared.opening.Difference.{Difference}
use Rattle.cases.specs.declared.opening.Difference.TheVariants.{BuiltIn, CellRefused, Refused, Width, Initial, Operators, Goal, Operator, OperatorBehind}

-- what is other than expected
abbrev pub difference_text : Difference → List ℕ
difference_text BuiltIn = codes "another built-in task"
difference_text CellRefused = codes "the cell is refused"
difference_text Refused = codes "refused"
difference_text Width = codes "another width"
difference_text Initial = codes "another initial state"
difference_text Operators = codes "another number of operators"
difference_text Goal = codes "another goal"
difference_text Operator = codes "another operator"
difference_text OperatorBehind = codes "an operator behind the last"
