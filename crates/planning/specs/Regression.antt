-- Regression: the formula that says of a state that an operator leads from it to a state in which a formula is true.
-- Assumes nothing.
use Rattle.std.specs.Prelude.{ℕ, zero, suc, List, [], ◌∷◌}
use Rattle.planning.specs.Tree.{Formula, TRUE, FALSE, VAR, NOT, AND, OR, Effect, OperatorTree}
use Rattle.planning.specs.Limits.{FormulaBelow, EffectBelow}
use Rattle.planning.specs.ChangeSet.{is, isnt, EC}

-- variable v after e: made true, or true and not made false
abbrev pub value_after : Effect → ℕ → Formula
value_after e v = OR (EC (is v) e) (AND (VAR v) (NOT (EC (isnt v) e)))

-- each variable replaced by its value after e
abbrev pub replaced : Effect → Formula → Formula
replaced e TRUE = TRUE
replaced e FALSE = FALSE
replaced e (VAR v) = value_after e v
replaced e (NOT f) = NOT (replaced e f)
replaced e (AND f g) = AND (replaced e f) (replaced e g)
replaced e (OR f g) = OR (replaced e f) (replaced e g)

-- f, and for each variable below n, that e does not set and clear it together
unfoldable pub without_clash : ℕ → Effect → Formula → Formula
without_clash zero e f = f
without_clash (suc n) e f = AND (without_clash n e f) (NOT (AND (EC (is n) e) (EC (isnt n) e)))

abbrev pub regress : ℕ → OperatorTree → Formula → Formula
regress n o f = without_clash n o.effect (AND (replaced o.effect f) o.precondition)

-- through several operators, the last of them first
abbrev pub regress_all : ℕ → List OperatorTree → Formula → Formula
regress_all n [] f = f
regress_all n (o ∷ os) f = regress n o (regress_all n os f)

-- every variable of an operator is below n
abbrev pub OperatorsBelow : ℕ → List OperatorTree → Type 0
OperatorsBelow n [] = Unit {0}
OperatorsBelow n (o ∷ os) = (FormulaBelow n o.precondition × EffectBelow n o.effect) × OperatorsBelow n os
