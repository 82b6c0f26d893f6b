-- The tree that words are read into. That it is the one task whose rendering the words are is a law (Laws.antt).
-- Assumes nothing.
use Rattle.std.specs.Prelude.{ℕ, ◌+◌, ◌-◌, ◌^◌, cond, List, [], ◌∷◌, ◌++◌, Some, None, Option, ◌==◌}
use Rattle.words.specs.declared.kind.Kind.{Kind}
use Rattle.words.specs.declared.kind.Kind.TheVariants.{True, False, Var, Not, And, Or, Nil, Set, Clear, Both, When, Head, On, Part}
use Rattle.words.specs.Words.{kind_of, load_of}
use Rattle.planning.specs.Tree.{Formula, TRUE, FALSE, VAR, NOT, AND, OR, Effect, NIL, SET, CLEAR, BOTH, WHEN, OperatorTree, TaskTree}
use Rattle.reading.specs.Senses.{is_kind}

-- a value that waits
pub data Value : Type 0 where
  formula : Formula → Value
  effect : Effect → Value

-- the formula or the effect in a value; where it is of the other sort, one that stands for nothing
abbrev pub as_formula : Value → Formula
as_formula (formula f) = f
as_formula (effect e) = FALSE

abbrev pub as_effect : Value → Effect
as_effect (formula f) = NIL
as_effect (effect e) = e

-- one or two values, the newest first, give one
abbrev pub one_to_one : {X : Type 0} → (X → X) → List X → List X
one_to_one make [] = []
one_to_one make (v ∷ vs) = make v ∷ vs

abbrev pub two_to_one : {X : Type 0} → (X → X → X) → List X → List X
two_to_one make [] = []
two_to_one make (v ∷ []) = []
two_to_one make (v ∷ u ∷ vs) = make u v ∷ vs

-- what waits after a word of kind j and load l
abbrev pub values_after : Kind → ℕ → List Value → List Value
values_after True l vs = formula TRUE ∷ vs
values_after False l vs = formula FALSE ∷ vs
values_after Var l vs = formula (VAR l) ∷ vs
values_after Not l vs = one_to_one (λ v. formula (NOT (as_formula v))) vs
values_after And l vs = two_to_one (λ u v. formula (AND (as_formula u) (as_formula v))) vs
values_after Or l vs = two_to_one (λ u v. formula (OR (as_formula u) (as_formula v))) vs
values_after Nil l vs = effect NIL ∷ vs
values_after Set l vs = effect (SET l) ∷ vs
values_after Clear l vs = effect (CLEAR l) ∷ vs
values_after Both l vs = two_to_one (λ u v. effect (BOTH (as_effect u) (as_effect v))) vs
values_after When l vs = two_to_one (λ u v. effect (WHEN (as_formula u) (as_effect v))) vs
values_after Head l vs = vs
values_after On l vs = vs
values_after Part l vs = vs

-- what is whole before a part
pub data Before : Type 0 where
  goal_next : (n s : ℕ) → Before
  operator_next : TaskTree → Before
  effect_next : TaskTree → Formula → Before

-- what is read so far
pub data Sofar : Type 0 where
  nothing : Sofar
  heading : (n s low : ℕ) → Sofar
  between : Before → Sofar
  inside : Before → (left : ℕ) → List Value → Sofar

abbrev pub newest : List Value → Value
newest [] = formula FALSE
newest (v ∷ vs) = v

-- one operator more
abbrev pub with_operator : TaskTree → OperatorTree → TaskTree
with_operator t o = record { width = t.width; initial = t.initial; goal = t.goal; operators = t.operators ++ (o ∷ []) }

-- a part that gave the value v is whole
abbrev pub whole : Before → Value → Before
whole (goal_next n s) v = operator_next (record { width = n; initial = s; goal = as_formula v; operators = [] })
whole (operator_next t) v = effect_next t (as_formula v)
whole (effect_next t c) v = operator_next (with_operator t (record { precondition = c; effect = as_effect v }))

abbrev pub values_on : Before → (left : ℕ) → List Value → Sofar
values_on b left vs = cond (left == 0) (between (whole b (newest vs))) (inside b left vs)

abbrev pub read_kind : Sofar → Kind → ℕ → Sofar
read_kind nothing j l = heading l 0 0
read_kind (heading n s low) j l = cond (is_kind On j) (heading n (s + 2 ^ l) (l + 1)) (inside (goal_next n s) l [])
read_kind (between b) j l = inside b l []
read_kind (inside b left vs) j l = values_on b (left - 1) (values_after j l vs)

abbrev pub read_word : Sofar → Option Kind → ℕ → Sofar
read_word sofar None l = sofar
read_word sofar (Some j) l = read_kind sofar j l

abbrev pub read_words : Sofar → List ℕ → Sofar
read_words sofar [] = sofar
read_words sofar (w ∷ ws) = read_words (read_word sofar (kind_of w) (load_of w)) ws

-- one variable, goal TRUE and no operator
abbrev pub built_in : TaskTree
built_in = record { width = 1; initial = 0; goal = TRUE; operators = [] }

abbrev pub task_before : Before → TaskTree
task_before (goal_next n s) = built_in
task_before (operator_next t) = t
task_before (effect_next t c) = t

abbrev pub task_so_far : Sofar → TaskTree
task_so_far nothing = built_in
task_so_far (heading n s low) = built_in
task_so_far (between b) = task_before b
task_so_far (inside b left vs) = task_before b

-- the task that words render
abbrev pub task_tree : List ℕ → TaskTree
task_tree ws = task_so_far (read_words nothing ws)
