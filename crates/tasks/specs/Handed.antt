-- What it means that an operator was handed out.
-- Assumes nothing.
use Rattle.std.specs.Prelude.{◌≡◌, ℕ}
use Rattle.planning.specs.Tree.{TaskTree}
use Rattle.planning.specs.Render.{formula_words, effect_words}
use Rattle.tasks.specs.Places.{operator_of, precondition_place, effect_place}
use Rattle.tasks.specs.declared.part.Operator.{Operator}

-- o holds the words of operator k of t, with their places
pub record IsOperator (t : TaskTree) (k : ℕ) (o : Operator) : Type 0 where
  pub precondition_words : o.precondition.words.now ≡ formula_words (operator_of t k).precondition
  pub precondition_at : o.precondition.place ≡ precondition_place t k
  pub precondition_width : o.precondition.width ≡ t.width
  pub effect_words_are : o.effect.words.now ≡ effect_words (operator_of t k).effect
  pub effect_at : o.effect.place ≡ effect_place t k
  pub effect_width : o.effect.width ≡ t.width
