-- Where the parts of a task stand in its words.
-- Assumes nothing.
use Rattle.std.specs.Prelude.{ℕ, ◌+◌, length, take, slice_index_or}
use Rattle.planning.specs.Tree.{TRUE, NIL, OperatorTree, TaskTree}
use Rattle.planning.specs.Render.{formula_words, on_words, operators_words}

-- the place of a part is that of its first word, behind its PART: the goal's follows HEAD, the ON words and its PART
abbrev pub goal_place : TaskTree → ℕ
goal_place t = 2 + length (on_words 0 t.width t.initial)

-- the operator of a number; past the last one, an operator that always fits and does nothing
abbrev pub operator_of : TaskTree → ℕ → OperatorTree
operator_of t k = slice_index_or t.operators k (record { precondition = TRUE; effect = NIL })

-- behind the goal and the operators before it, the PART of the precondition
abbrev pub precondition_place : TaskTree → ℕ → ℕ
precondition_place t k = goal_place t + length (formula_words t.goal) + length (operators_words (take k t.operators)) + 1

abbrev pub effect_place : TaskTree → ℕ → ℕ
effect_place t k = precondition_place t k + length (formula_words (operator_of t k).precondition) + 1
