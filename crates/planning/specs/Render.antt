-- How trees are written as words: operands first.
-- Assumes nothing.
use Rattle.std.specs.Prelude.{ℕ, zero, suc, ◌+◌, cond, List, [], ◌∷◌, ◌++◌, length}
use Rattle.words.specs.declared.kind.Kind.TheVariants.{True, False, Var, Not, And, Or, Nil, Set, Clear, Both, When, Head, On, Part}
use Rattle.words.specs.Words.{word}
use Rattle.planning.specs.Tree.{bit, Formula, TRUE, FALSE, VAR, NOT, AND, OR, Effect, NIL, SET, CLEAR, BOTH, WHEN, OperatorTree, TaskTree}

abbrev pub formula_words : Formula → List ℕ
formula_words TRUE = word True 0 ∷ []
formula_words FALSE = word False 0 ∷ []
formula_words (VAR v) = word Var v ∷ []
formula_words (NOT f) = formula_words f ++ (word Not 0 ∷ [])
formula_words (AND f g) = formula_words f ++ (formula_words g ++ (word And 0 ∷ []))
formula_words (OR f g) = formula_words f ++ (formula_words g ++ (word Or 0 ∷ []))

abbrev pub effect_words : Effect → List ℕ
effect_words NIL = word Nil 0 ∷ []
effect_words (SET v) = word Set v ∷ []
effect_words (CLEAR v) = word Clear v ∷ []
effect_words (BOTH d e) = effect_words d ++ (effect_words e ++ (word Both 0 ∷ []))
effect_words (WHEN c e) = formula_words c ++ (effect_words e ++ (word When 0 ∷ []))

-- a part: its length, then its words
abbrev pub part_words : List ℕ → List ℕ
part_words ws = word Part (length ws) ∷ ws

abbrev pub operator_words : OperatorTree → List ℕ
operator_words o = part_words (formula_words o.precondition) ++ part_words (effect_words o.effect)

abbrev pub operators_words : List OperatorTree → List ℕ
operators_words [] = []
operators_words (o ∷ os) = operator_words o ++ operators_words os

-- an ON for each variable from v on, k of them, that is true in s
abbrev pub on_words : (v k s : ℕ) → List ℕ
on_words v zero s = []
on_words v (suc k) s = cond (bit s v) (word On v ∷ on_words (v + 1) k s) (on_words (v + 1) k s)

abbrev pub task_words : TaskTree → List ℕ
task_words t = word Head t.width ∷ (on_words 0 t.width t.initial ++ (part_words (formula_words t.goal) ++ operators_words t.operators))
