-- The first faulty word decides; at one word, the smaller number.
-- Assumes nothing.
use Rattle.std.specs.Prelude.{ℕ, ◌+◌, Bool, cond, not, List, [], ◌∷◌, length, is_some, Some, None, Option, nat_lt}
use Rattle.words.specs.declared.fault.Fault.{Fault}
use Rattle.words.specs.Refusals.{task_fault}
use Rattle.words.specs.declared.fault.Refusal.{Refusal}
use Rattle.words.specs.declared.fault.Refusal.TheVariants.{WrongWord, VariableOutside, WrongOperand, TooManyWaiting, TooLong, WordMissing, WrongWidth}
use Rattle.words.specs.declared.kind.Kind.{Kind}
use Rattle.words.specs.Words.{kind_of, load_of}
use Rattle.reading.specs.Turns.{Turn, at_head, turn_after}
use Rattle.reading.specs.Rules.{wrong_word, variable_outside, wrong_operand, too_many_waiting, too_long, past_the_end, wrong_width, complete}

-- why a word of kind j and load l is refused at its turn, where `rest` words follow it
abbrev pub kind_refusal : Turn → (rest : ℕ) → Kind → ℕ → Option Refusal
kind_refusal turn rest j l =
    cond (wrong_word turn j l) (Some WrongWord)
    (cond (variable_outside turn j l) (Some VariableOutside)
    (cond (wrong_operand turn j) (Some WrongOperand)
    (cond (too_many_waiting turn j) (Some TooManyWaiting)
    (cond (too_long turn j l) (Some TooLong)
    (cond (past_the_end rest j l) (Some WordMissing)
    (cond (wrong_width j l) (Some WrongWidth) None))))))

-- an unused kind is a wrong word
abbrev pub word_refusal : Turn → (rest : ℕ) → Option Kind → ℕ → Option Refusal
word_refusal turn rest None l = Some WrongWord
word_refusal turn rest (Some j) l = kind_refusal turn rest j l

abbrev pub turn_past : Turn → Option Kind → ℕ → Turn
turn_past turn None l = turn
turn_past turn (Some j) l = turn_after turn j l

abbrev pub first_or : Option Refusal → ℕ → Option Fault → Option Fault
first_or None i later = later
first_or (Some r) i later = Some (task_fault r i)

-- the fault of the first faulty word, from the word at place i on; a needed word that is absent is missing at the end
abbrev pub fault_from : Turn → (i : ℕ) → List ℕ → Option Fault
fault_from turn i [] = cond (complete turn) None (Some (task_fault WordMissing i))
fault_from turn i (w ∷ ws) =
    first_or (word_refusal turn (length ws) (kind_of w) (load_of w)) i (fault_from (turn_past turn (kind_of w) (load_of w)) (i + 1) ws)

-- the fault for which a task's words are refused, if any: more than 16,384 words come before all else
abbrev pub task_fault_of : List ℕ → Option Fault
task_fault_of ws = cond (nat_lt 16384 (length ws)) (Some (task_fault TooLong 16384)) (fault_from at_head 0 ws)

-- the words have no fault
abbrev pub is_accepted : List ℕ → Bool
is_accepted ws = not (is_some (task_fault_of ws))
