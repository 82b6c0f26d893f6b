-- The turn that a reader's progress stands for, and what reading one word does to it.
-- Assumes nothing.
use Rattle.std.specs.Prelude.{◌≡◌, ℕ, ◌^◌, ◌<◌, ◌≤◌, cond, not, ◌&&◌, ◌||◌, List, Some, None, Ok, Err, Option, Result, ◌==◌, nat_le}
use Rattle.words.specs.declared.fault.Refusal.{Refusal}
use Rattle.words.specs.declared.fault.Refusal.TheVariants.{WrongWord, VariableOutside, WrongOperand, TooManyWaiting}
use Rattle.words.specs.declared.kind.Kind.{Kind}
use Rattle.words.specs.Words.{kind_of, load_of}
use Rattle.reading.specs.declared.section.Section.{Section}
use Rattle.reading.specs.declared.section.Sort.{Sort}
use Rattle.reading.specs.Senses.{gives, takes, given, operands_off, load_sense, is_zero_load, is_variable, part_sort}
use Rattle.reading.specs.Turns.{Turn, at_head, at_on, at_part, in_part, turn_after}
use Rattle.reading.specs.Rules.{allowed_in, bad_values, over_64}
use Rattle.reading.specs.Faults.{kind_refusal, word_refusal, turn_past}
use Rattle.tasks.specs.declared.progress.Progress.{Progress}
use Rattle.tasks.specs.declared.progress.Stage.{Stage}
use Rattle.tasks.specs.declared.progress.Stage.TheVariants as stage

abbrev pub stage_turn : Stage → (n s low k : ℕ) → Section → (left : ℕ) → List Sort → Turn
stage_turn stage.Head n s low k here left waiting = at_head
stage_turn stage.On n s low k here left waiting = at_on n s low
stage_turn stage.Part n s k' k here left waiting = at_part n s k here
stage_turn stage.Inside n s low k here left waiting = in_part n s k here left waiting

abbrev pub turn_now : Progress → Turn
turn_now p = stage_turn p.stage p.width p.initial p.low p.operators p.section p.left p.waiting

-- the word is refused as its turn has it, or the turn is the next one
abbrev pub ReadAt : Turn → (rest : ℕ) → Kind → ℕ → Turn → Result (Unit {0}) Refusal → Type 0
ReadAt turn rest j l after (Ok _) = (kind_refusal turn rest j l ≡ None) × (after ≡ turn_after turn j l)
ReadAt turn rest j l after (Err r) = kind_refusal turn rest j l ≡ Some r

-- bounds under which the numbers of a turn fit
abbrev pub Bounded : Turn → Type 0
Bounded at_head = Unit {0}
Bounded (at_on n s low) = (n ≤ 64) × (low ≤ n) × (s < 2 ^ low)
Bounded (at_part n s k here) = k ≤ 512
Bounded (in_part n s k here left waiting) = (1 ≤ left) × (k ≤ 512)

-- why a word may not stand in the part of a section, before its operands are looked at
abbrev pub in_part_refusal : (n : ℕ) → Section → Kind → ℕ → Option Refusal
in_part_refusal n here j l =
    cond (not (allowed_in (part_sort here) (gives j)) || (is_zero_load (load_sense j) && not (l == 0))) (Some WrongWord)
    (cond (is_variable (load_sense j) && nat_le n l) (Some VariableOutside) None)

-- why the values that wait refuse a word: its operands, what it leaves at the part's last word, a 65th value
abbrev pub values_refusal : (left : ℕ) → Section → Option (List Sort) → Option Refusal
values_refusal left here waiting = cond (bad_values (left == 1) (part_sort here) waiting) (Some WrongOperand) (cond (over_64 waiting) (Some TooManyWaiting) None)

-- nothing but the values that wait is changed
pub record OtherKept (p q : Progress) : Type 0 where
  pub stage : q.stage ≡ p.stage
  pub section : q.section ≡ p.section
  pub width : q.width ≡ p.width
  pub initial : q.initial ≡ p.initial
  pub low : q.low ≡ p.low
  pub operators : q.operators ≡ p.operators
  pub left : q.left ≡ p.left

-- the operands of those sorts are taken off, or one is missing or of the wrong sort
abbrev pub OperandsTaken : List Sort → (before after : List Sort) → Result (Unit {0}) Refusal → Type 0
OperandsTaken sorts before after (Ok _) = operands_off sorts before ≡ Some after
OperandsTaken sorts before after (Err r) = (operands_off sorts before ≡ None) × (r ≡ WrongOperand)

abbrev pub ValueRead : Progress → Kind → Sort → Progress → Result (Unit {0}) Refusal → Type 0
ValueRead p j g q (Ok _) =
    (values_refusal p.left p.section (given (Some g) (operands_off (takes j) p.waiting)) ≡ None)
    × (given (Some g) (operands_off (takes j) p.waiting) ≡ Some q.waiting)
    × OtherKept p q
ValueRead p j g q (Err r) = values_refusal p.left p.section (given (Some g) (operands_off (takes j) p.waiting)) ≡ Some r

-- the same for a word as it stands
abbrev pub WordRead : Turn → (rest : ℕ) → (w : ℕ) → Turn → Result (Unit {0}) Refusal → Type 0
WordRead turn rest w after (Ok _) = (word_refusal turn rest (kind_of w) (load_of w) ≡ None) × (after ≡ turn_past turn (kind_of w) (load_of w))
WordRead turn rest w after (Err r) = word_refusal turn rest (kind_of w) (load_of w) ≡ Some r
