-- The laws: each is the contract of a function of its name.
-- Assumes nothing.
use Rattle.std.specs.Prelude.{◌≡◌, ℕ, ◌^◌, ◌<◌, ◌≤◌, Bool, true, false, ◌&&◌, ◌↔◌, List, ◌∷◌, ◌++◌, map, length, bit_and, bit_xor}
use Rattle.std.specs.Int.Count.{ones as digit_ones, count_trailing_zeros}
use Rattle.planning.specs.Tree.{bit, Formula, AND, Effect, OperatorTree, TaskTree}
use Rattle.planning.specs.Render.{formula_words, effect_words}
use Rattle.planning.specs.Limits.{FormulaBelow, EffectBelow, formula_depth, effect_depth}
use Rattle.planning.specs.Truth.{truth}
use Rattle.planning.specs.ChangeSet.{Literal, is, isnt, makes, EC}
use Rattle.planning.specs.ChangeWords.{changed_word}
use Rattle.planning.specs.Steps.{Fits, ResultIs, clash_free, fits, result, FirstClash, set_mask, clear_mask, masked}
use Rattle.planning.specs.Sequences.{Leads, Reaches, leads_into}
use Rattle.planning.specs.Regression.{value_after, regress, regress_all, OperatorsBelow}
use Rattle.planning.specs.Changes.{change_count, Smallest}

-- a literal is in the change set exactly if its condition is true
abbrev pub LiteralInChangeSet : Type 0
LiteralInChangeSet = (s : ℕ) (l : Literal) (e : Effect) → truth s (EC l e) ≡ makes s e l

pub record ConditionWords : Type 0 where
  -- the words of a condition are the effect's, each changed by itself
  pub changed : (l : Literal) (e : Effect) → EffectBelow (2 ^ 28) e → formula_words (EC l e) ≡ map (changed_word l) (effect_words e)
  -- they are as many, as many values wait at once while they are read, and they have no other variable
  pub count : (l : Literal) (e : Effect) → length (formula_words (EC l e)) ≡ length (effect_words e)
  pub depth : (l : Literal) (e : Effect) → formula_depth (EC l e) ≡ effect_depth e
  pub below : (n : ℕ) (l : Literal) (e : Effect) → EffectBelow n e → FormulaBelow n (EC l e)

pub record FitsDecided : Type 0 where
  -- the test tells whether the operator fits
  pub test : (n : ℕ) (o : OperatorTree) (s : ℕ) → (fits n o s ≡ true) ↔ Fits n o s
  -- it fits exactly if the precondition is true and for no variable both conditions are
  pub conditions : (n : ℕ) (o : OperatorTree) (s : ℕ) → Fits n o s ↔ ((truth s o.precondition ≡ true)
      × ((v : ℕ) → v < n → truth s (AND (EC (is v) o.effect) (EC (isnt v) o.effect)) ≡ false))

pub record ValueAfterStep : Type 0 where
  -- each variable has the truth, before the step, of its formula
  pub formula : (n : ℕ) (e : Effect) (s v : ℕ) → v < n → bit (result n e s) v ≡ truth s (value_after e v)
  -- no variable at n or above
  pub below : (n : ℕ) (e : Effect) (s : ℕ) → result n e s < 2 ^ n
  -- where the operator fits: made true, made false, or left, and no other number is so
  pub exact : (n : ℕ) (o : OperatorTree) (s : ℕ) → Fits n o s → (t : ℕ) → ResultIs n o s t ↔ (t ≡ result n o.effect s)

pub record RegressionIsExact : Type 0 where
  -- true exactly if the operator fits and its result makes the formula true
  pub exact : (n : ℕ) (o : OperatorTree) (f : Formula) (s : ℕ) → FormulaBelow n f
      → (truth s (regress n o f) ≡ true) ↔ (Fits n o s × (truth (result n o.effect s) f ≡ true))
  pub value : (n : ℕ) (o : OperatorTree) (f : Formula) (s : ℕ) → FormulaBelow n f
      → truth s (regress n o f) ≡ (fits n o s && truth (result n o.effect s) f)

pub record SequencesLead : Type 0 where
  -- one end at most, and one exactly by the first operator's result
  pub one : (n : ℕ) (os : List OperatorTree) (s t u : ℕ) → Leads n os s t → Leads n os s u → t ≡ u
  pub first : (n : ℕ) (o : OperatorTree) (os : List OperatorTree) (s t : ℕ)
      → Leads n (o ∷ os) s t ↔ (Fits n o s × Leads n os (result n o.effect s) t)
  -- no variable at n or above comes in
  pub below : (n : ℕ) (os : List OperatorTree) (s t : ℕ) → s < 2 ^ n → Leads n os s t → t < 2 ^ n
  -- one sequence after another
  pub joined : (n : ℕ) (ps qs : List OperatorTree) (s t : ℕ) → Leads n (ps ++ qs) s t ↔ ((u : ℕ) × Leads n ps s u × Leads n qs u t)

pub record SequencesRegress : Type 0 where
  -- the test tells whether the operators lead into P
  pub into : (n : ℕ) (os : List OperatorTree) (P : ℕ → Bool) (s : ℕ)
      → (leads_into n os P s ≡ true) ↔ ((t : ℕ) × Leads n os s t × (P t ≡ true))
  -- and regression through all of them, the last first, says so of a formula
  pub regressed : (n : ℕ) (os : List OperatorTree) (f : Formula) (s : ℕ) → OperatorsBelow n os → FormulaBelow n f
      → truth s (regress_all n os f) ≡ leads_into n os (λ t. truth t f) s
  -- after operators that lead from s to t, the rest is asked at t
  pub after : (n : ℕ) (ps qs : List OperatorTree) (P : ℕ → Bool) (s t : ℕ) → Leads n ps s t → leads_into n (ps ++ qs) P s ≡ leads_into n qs P t
  -- reaching a task's goal is leading into it
  pub goal : (t : TaskTree) (os : List OperatorTree) (s : ℕ) → Reaches t os s ↔ (leads_into t.width os (λ x. truth x t.goal) s ≡ true)

pub record MasksTell : Type 0 where
  -- no variable in both masks exactly if none clashes
  pub free : (n : ℕ) (e : Effect) (s : ℕ) → (bit_and (set_mask n e s) (clear_mask n e s) ≡ 0) ↔ (clash_free n e s ≡ true)
  -- and their smallest common variable is the smallest that clashes
  pub first : (n : ℕ) (e : Effect) (s v : ℕ) → Smallest (bit_and (set_mask n e s) (clear_mask n e s)) v ↔ FirstClash n e s v
  -- the masks give the result
  pub stepped : (n : ℕ) (e : Effect) (s : ℕ) → masked n s (set_mask n e s) (clear_mask n e s) ≡ result n e s
  -- also where more variables are gathered than the state has
  pub wider : (n m s set clear : ℕ) → n ≤ m → s < 2 ^ n → set < 2 ^ n → masked m s set clear ≡ masked n s set clear

pub record ChangeCountIsOnes : Type 0 where
  -- the change count is the number of ones of the two states' exclusive or
  pub ones : (n s t : ℕ) → s < 2 ^ n → t < 2 ^ n → change_count n s t ≡ digit_ones (bit_xor s t)
  -- and stays if more variables are counted than the states have
  pub wider : (n m s t : ℕ) → n ≤ m → s < 2 ^ n → t < 2 ^ n → change_count m s t ≡ change_count n s t

-- the trailing zeros of a number that is not 0 are its smallest variable
abbrev pub TrailingZerosSmallest : Type 0
TrailingZerosSmallest = (x : ℕ) → 0 < x → x < 2 ^ 64 → (count_trailing_zeros 64 x < 64) × Smallest x (count_trailing_zeros 64 x)
