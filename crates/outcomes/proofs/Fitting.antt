-- The words of a task within the limits have 32 bits.
-- Assumes nothing.
use Rattle.std.proofs.Common.{ℕ, zero, suc, ◌+◌, ◌^◌, ◌<◌, ◌≤◌, Bool, true, false, cond, List, [], ◌∷◌, ◌++◌, length, arith}
use Rattle.std.specs.List.{AllByRecursion}
use Rattle.std.proofs.ByRecursion.{All-append}
use Rattle.words.specs.declared.kind.Kind.{Kind}
use Rattle.words.specs.declared.kind.Kind.TheVariants.{True, False, Var, Not, And, Or, Nil, Set, Clear, Both, When, Head, On, Part}
use Rattle.words.specs.Words.{word}
use Rattle.words.proofs.Joining.{word_fits}
use Rattle.planning.specs.Tree.{bit, Formula, TRUE, FALSE, VAR, NOT, AND, OR, Effect, NIL, SET, CLEAR, BOTH, WHEN, OperatorTree, TaskTree}
use Rattle.planning.specs.Render.{formula_words, effect_words, part_words, operator_words, operators_words, on_words, task_words}
use Rattle.planning.specs.Limits.{FormulaBelow, EffectBelow, OperatorsWithin, TaskWithin}

abbrev Fit : List ℕ → Type 0
Fit ws = AllByRecursion (λ w. w < 2 ^ 32) ws

join : (xs ys : List ℕ) → Fit xs → Fit ys → Fit (xs ++ ys)
join xs ys h k = All-append (λ w. w < 2 ^ 32) xs ys h k

one : (k : Kind) (load : ℕ) → load < 2 ^ 28 → Fit (word k load ∷ [])
one k load h = (word_fits k load h, tt)

last : (k : Kind) (ws : List ℕ) → Fit ws → Fit (ws ++ (word k 0 ∷ []))
last k ws h = join ws (word k 0 ∷ []) h (one k 0 (omega arith))

formula_fit : (n : ℕ) (f : Formula) → n ≤ 64 → FormulaBelow n f → Fit (formula_words f)
formula_fit n TRUE l h = one True 0 (omega arith)
formula_fit n FALSE l h = one False 0 (omega arith)
formula_fit n (VAR v) l h = one Var v (omega arith)
formula_fit n (NOT f) l h = last Not (formula_words f) (formula_fit n f l h)
formula_fit n (AND f g) l h = join (formula_words f) (formula_words g ++ (word And 0 ∷ [])) (formula_fit n f l h.0) (last And (formula_words g) (formula_fit n g l h.1))
formula_fit n (OR f g) l h = join (formula_words f) (formula_words g ++ (word Or 0 ∷ [])) (formula_fit n f l h.0) (last Or (formula_words g) (formula_fit n g l h.1))

effect_fit : (n : ℕ) (e : Effect) → n ≤ 64 → EffectBelow n e → Fit (effect_words e)
effect_fit n NIL l h = one Nil 0 (omega arith)
effect_fit n (SET v) l h = one Set v (omega arith)
effect_fit n (CLEAR v) l h = one Clear v (omega arith)
effect_fit n (BOTH d e) l h = join (effect_words d) (effect_words e ++ (word Both 0 ∷ [])) (effect_fit n d l h.0) (last Both (effect_words e) (effect_fit n e l h.1))
effect_fit n (WHEN c e) l h = join (formula_words c) (effect_words e ++ (word When 0 ∷ [])) (formula_fit n c l h.0) (last When (effect_words e) (effect_fit n e l h.1))

part_fit : (ws : List ℕ) → length ws ≤ 4096 → Fit ws → Fit (part_words ws)
part_fit ws l h = (word_fits Part (length ws) (omega arith), h)

operators_fit : (n : ℕ) (os : List OperatorTree) → n ≤ 64 → OperatorsWithin n os → Fit (operators_words os)
operators_fit n [] l h = tt
operators_fit n (o ∷ os) l h =
    join (operator_words o) (operators_words os)
    (join (part_words (formula_words o.precondition)) (part_words (effect_words o.effect))
    (part_fit (formula_words o.precondition) h.0.0.short (formula_fit n o.precondition l h.0.0.below))
    (part_fit (effect_words o.effect) h.0.1.short (effect_fit n o.effect l h.0.1.below)))
    (operators_fit n os l h.1)

ons_fit : (v k s : ℕ) → v + k ≤ 64 → Fit (on_words v k s)
ons_fit v zero s l = tt
ons_fit v (suc k) s l = go (bit s v) (ons_fit (v + 1) k s (omega arith))
  where
    go : (b : Bool) → Fit (on_words (v + 1) k s) → Fit (cond b (word On v ∷ on_words (v + 1) k s) (on_words (v + 1) k s))
    go true rest = (word_fits On v (omega arith), rest)
    go false rest = rest

pub task_fit : (t : TaskTree) → TaskWithin t → AllByRecursion (λ w. w < 2 ^ 32) (task_words t)
task_fit t w =
    let l : t.width ≤ 64 = w.narrow in (
      word_fits Head t.width (omega arith),
      join (on_words 0 t.width t.initial) (part_words (formula_words t.goal) ++ operators_words t.operators) (ons_fit 0 t.width t.initial (omega arith))
          (join (part_words (formula_words t.goal)) (operators_words t.operators)
          (part_fit (formula_words t.goal) w.goal.short (formula_fit t.width t.goal l w.goal.below))
          (operators_fit t.width t.operators l w.operators)),
    )
