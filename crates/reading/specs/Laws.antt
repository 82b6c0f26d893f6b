-- What is promised of reading, in terms of whole tasks and of single words.
-- Assumes nothing.
use Rattle.std.specs.Prelude.{◌≡◌, ℕ, zero, suc, ◌^◌, ◌<◌, ◌≤◌, Bool, true, false, cond, List, [], ◌∷◌, length, Some, None, Option}
use Rattle.words.specs.declared.fault.Fault.{Fault}
use Rattle.words.specs.declared.fault.Refusal.{Refusal}
use Rattle.words.specs.declared.fault.Refusal.TheVariants.{LooseBytes, WrongWord, VariableOutside, WrongOperand, TooManyWaiting, TooLong, WordMissing, WrongWidth, NoSuchOperator, PreconditionFalse, SetAndCleared, TooManyStanding, BankFull, UnknownFormula, GoalMissed, NothingToWithdraw, OutputTooSmall}
use Rattle.words.specs.declared.kind.Kind.{Kind}
use Rattle.words.specs.Refusals.{number, task_fault}
use Rattle.words.specs.Words.{kind_of, load_of}
use Rattle.planning.specs.Tree.{Formula, Effect, TaskTree}
use Rattle.planning.specs.Render.{formula_words, effect_words, task_words}
use Rattle.planning.specs.Limits.{FormulaBelow, EffectBelow, FormulaWithin, EffectWithin, TaskWithin}
use Rattle.reading.specs.Turns.{Turn, at_head}
use Rattle.reading.specs.Rules.{wrong_word, variable_outside, wrong_operand, too_many_waiting, too_long, past_the_end, wrong_width, complete}
use Rattle.reading.specs.Faults.{kind_refusal, word_refusal, turn_past, task_fault_of}
use Rattle.reading.specs.Parts.{formula_fault, effect_fault, formula_of, effect_of}
use Rattle.reading.specs.Trees.{task_tree}

-- the words are those of a task within the limits
abbrev pub Renders : List ℕ → TaskTree → Type 0
Renders ws t = TaskWithin t × (task_words t ≡ ws)

-- words are accepted exactly when they render a task within the limits, and they render no other one than task_tree
pub record AcceptedWhenRendered (ws : List ℕ) : Type 0 where
  pub accepted : task_fault_of ws ≡ None → Renders ws (task_tree ws)
  pub rendered : (t : TaskTree) → Renders ws t → task_fault_of ws ≡ None
  pub only : (t : TaskTree) → Renders ws t → task_tree ws ≡ t

-- why the word at place i is refused at its turn, which the words before it give; at the end, whether a word is missing
abbrev pub refusal_from : Turn → List ℕ → ℕ → Option Refusal
refusal_from turn [] i = cond (complete turn) None (Some WordMissing)
refusal_from turn (w ∷ ws) zero = word_refusal turn (length ws) (kind_of w) (load_of w)
refusal_from turn (w ∷ ws) (suc i) = refusal_from (turn_past turn (kind_of w) (load_of w)) ws i

abbrev pub refusal_at : List ℕ → ℕ → Option Refusal
refusal_at ws i = refusal_from at_head ws i

-- r is the refusal at place i, and no word before it is refused
pub record FirstAt (ws : List ℕ) (i : ℕ) (r : Refusal) : Type 0 where
  pub within : i ≤ length ws
  pub here : refusal_at ws i ≡ Some r
  pub before : (j : ℕ) → j < i → refusal_at ws j ≡ None

-- of at most 16,384 words, the first faulty one decides
pub record FirstFaultDecides (ws : List ℕ) : Type 0 where
  pub long : 16384 < length ws → task_fault_of ws ≡ Some (task_fault TooLong 16384)
  pub first : length ws ≤ 16384 → (i : ℕ) (r : Refusal) → FirstAt ws i r → task_fault_of ws ≡ Some (task_fault r i)
  pub found : length ws ≤ 16384 → (f : Fault) → task_fault_of ws ≡ Some f → FirstAt ws f.place f.refusal × (f ≡ task_fault f.refusal f.place)
  pub none : length ws ≤ 16384 → task_fault_of ws ≡ None → (i : ℕ) → i ≤ length ws → refusal_at ws i ≡ None

-- whether a word of kind j and load l breaks the rule of that number
abbrev pub breaks : Refusal → Turn → (rest : ℕ) → Kind → ℕ → Bool
breaks LooseBytes turn rest j l = false
breaks WrongWord turn rest j l = wrong_word turn j l
breaks VariableOutside turn rest j l = variable_outside turn j l
breaks WrongOperand turn rest j l = wrong_operand turn j
breaks TooManyWaiting turn rest j l = too_many_waiting turn j
breaks TooLong turn rest j l = too_long turn j l
breaks WordMissing turn rest j l = past_the_end rest j l
breaks WrongWidth turn rest j l = wrong_width j l
breaks NoSuchOperator turn rest j l = false
breaks PreconditionFalse turn rest j l = false
breaks SetAndCleared turn rest j l = false
breaks TooManyStanding turn rest j l = false
breaks BankFull turn rest j l = false
breaks UnknownFormula turn rest j l = false
breaks GoalMissed turn rest j l = false
breaks NothingToWithdraw turn rest j l = false
breaks OutputTooSmall turn rest j l = false

-- at one word, the smaller number decides
pub record SmallerNumberDecides (turn : Turn) (rest : ℕ) (j : Kind) (l : ℕ) : Type 0 where
  pub broken : (r : Refusal) → kind_refusal turn rest j l ≡ Some r → breaks r turn rest j l ≡ true
  pub smallest : (r q : Refusal) → kind_refusal turn rest j l ≡ Some r → number q < number r → breaks q turn rest j l ≡ false
  pub none : kind_refusal turn rest j l ≡ None → (q : Refusal) → breaks q turn rest j l ≡ false

-- the words of a part with no fault are those of one formula, or of one effect, within the limits, and the other way round
pub record PartsRenderTrees (n : ℕ) (ws : List ℕ) : Type 0 where
  pub formula : 1 ≤ n → n ≤ 64 → 1 ≤ length ws → length ws ≤ 4096 → formula_fault n ws ≡ None → (f : Formula) × FormulaWithin n f × (formula_words f ≡ ws)
  pub formula_back : 1 ≤ n → n ≤ 64 → (f : Formula) → FormulaWithin n f → formula_words f ≡ ws → formula_fault n ws ≡ None
  pub effect : 1 ≤ n → n ≤ 64 → 1 ≤ length ws → length ws ≤ 4096 → effect_fault n ws ≡ None → (e : Effect) × EffectWithin n e × (effect_words e ≡ ws)
  pub effect_back : 1 ≤ n → n ≤ 64 → (e : Effect) → EffectWithin n e → effect_words e ≡ ws → effect_fault n ws ≡ None

-- the words of a part with no fault are those of the formula, or of the effect, that they are read into, and words of a
-- formula or an effect are read into no other
pub record PartsAreRead (n : ℕ) (ws : List ℕ) : Type 0 where
  pub formula : 1 ≤ n → n ≤ 64 → 1 ≤ length ws → length ws ≤ 4096 → formula_fault n ws ≡ None → FormulaWithin n (formula_of ws) × (formula_words (formula_of ws) ≡ ws)
  pub formula_only : (f : Formula) → FormulaBelow (2 ^ 28) f → formula_words f ≡ ws → formula_of ws ≡ f
  pub effect : 1 ≤ n → n ≤ 64 → 1 ≤ length ws → length ws ≤ 4096 → effect_fault n ws ≡ None → EffectWithin n (effect_of ws) × (effect_words (effect_of ws) ≡ ws)
  pub effect_only : (e : Effect) → EffectBelow (2 ^ 28) e → effect_words e ≡ ws → effect_of ws ≡ e
