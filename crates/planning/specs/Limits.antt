-- The limits within which a task is accepted.
-- Assumes nothing.
use Rattle.std.specs.Prelude.{ℕ, ◌+◌, ◌^◌, ◌<◌, ◌≤◌, max, List, [], ◌∷◌, length}
use Rattle.planning.specs.Tree.{Formula, TRUE, FALSE, VAR, NOT, AND, OR, Effect, NIL, SET, CLEAR, BOTH, WHEN, OperatorTree, TaskTree}
use Rattle.planning.specs.Render.{formula_words, effect_words, task_words}

-- every variable is below n
abbrev pub FormulaBelow : ℕ → Formula → Type 0
FormulaBelow n TRUE = Unit {0}
FormulaBelow n FALSE = Unit {0}
FormulaBelow n (VAR v) = v < n
FormulaBelow n (NOT f) = FormulaBelow n f
FormulaBelow n (AND f g) = FormulaBelow n f × FormulaBelow n g
FormulaBelow n (OR f g) = FormulaBelow n f × FormulaBelow n g

abbrev pub EffectBelow : ℕ → Effect → Type 0
EffectBelow n NIL = Unit {0}
EffectBelow n (SET v) = v < n
EffectBelow n (CLEAR v) = v < n
EffectBelow n (BOTH d e) = EffectBelow n d × EffectBelow n e
EffectBelow n (WHEN c e) = FormulaBelow n c × EffectBelow n e

-- how many values wait at once, at most, while the words are read: the first operand waits while the second is read
abbrev pub formula_depth : Formula → ℕ
formula_depth TRUE = 1
formula_depth FALSE = 1
formula_depth (VAR v) = 1
formula_depth (NOT f) = formula_depth f
formula_depth (AND f g) = max (formula_depth f) (1 + formula_depth g)
formula_depth (OR f g) = max (formula_depth f) (1 + formula_depth g)

abbrev pub effect_depth : Effect → ℕ
effect_depth NIL = 1
effect_depth (SET v) = 1
effect_depth (CLEAR v) = 1
effect_depth (BOTH d e) = max (effect_depth d) (1 + effect_depth e)
effect_depth (WHEN c e) = max (formula_depth c) (1 + effect_depth e)

-- a formula that a part of a task with n variables may hold
pub record FormulaWithin (n : ℕ) (f : Formula) : Type 0 where
  pub below : FormulaBelow n f
  pub shallow : formula_depth f ≤ 64
  pub short : length (formula_words f) ≤ 4096

pub record EffectWithin (n : ℕ) (e : Effect) : Type 0 where
  pub below : EffectBelow n e
  pub shallow : effect_depth e ≤ 64
  pub short : length (effect_words e) ≤ 4096

abbrev pub OperatorsWithin : ℕ → List OperatorTree → Type 0
OperatorsWithin n [] = Unit {0}
OperatorsWithin n (o ∷ os) = (FormulaWithin n o.precondition × EffectWithin n o.effect) × OperatorsWithin n os

-- a task that can be opened
pub record TaskWithin (t : TaskTree) : Type 0 where
  pub some : 1 ≤ t.width
  pub narrow : t.width ≤ 64
  pub start : t.initial < 2 ^ t.width
  pub goal : FormulaWithin t.width t.goal
  pub operators : OperatorsWithin t.width t.operators
  pub few : length t.operators ≤ 512
  pub short : length (task_words t) ≤ 16384
