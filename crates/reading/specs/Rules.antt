-- When a word is at fault: one rule for each number of refusal.
-- Assumes nothing.
use Rattle.std.specs.Prelude.{ℕ, Bool, true, false, not, ◌&&◌, ◌||◌, List, [], ◌∷◌, length, Some, None, Option, ◌==◌, nat_le, nat_lt}
use Rattle.words.specs.declared.kind.Kind.{Kind}
use Rattle.words.specs.declared.kind.Kind.TheVariants.{Head, On, Part}
use Rattle.reading.specs.declared.section.Sort.{Sort}
use Rattle.reading.specs.declared.section.Sort.TheVariants as sort
use Rattle.reading.specs.declared.section.Section.TheVariants as section
use Rattle.reading.specs.Senses.{gives, is_kind, load_sense, is_zero_load, is_variable, same_sort, part_sort, waiting_after}
use Rattle.reading.specs.Turns.{Turn, at_head, at_on, at_part, in_part}

-- formula words may stand in every part, words of effects only in an effect's part, the others in no part
abbrev pub allowed_in : Sort → Option Sort → Bool
allowed_in wanted None = false
allowed_in wanted (Some sort.Formula) = true
allowed_in wanted (Some sort.Effect) = same_sort wanted sort.Effect

-- the kinds whose turn it is
abbrev pub in_turn : Turn → Kind → Bool
in_turn at_head j = is_kind Head j
in_turn (at_on n s low) j = is_kind On j || is_kind Part j
in_turn (at_part n s k here) j = is_kind Part j
in_turn (in_part n s k here left waiting) j = allowed_in (part_sort here) (gives j)

-- an ON has to be at least this
abbrev pub lowest_on : Turn → ℕ
lowest_on at_head = 0
lowest_on (at_on n s low) = low
lowest_on (at_part n s k here) = 0
lowest_on (in_part n s k here left waiting) = 0

abbrev pub turn_width : Turn → ℕ
turn_width at_head = 0
turn_width (at_on n s low) = n
turn_width (at_part n s k here) = n
turn_width (in_part n s k here left waiting) = n

-- 2: out of turn, a load that has to be 0 and is not, or an ON that does not rise
abbrev pub wrong_word : Turn → Kind → ℕ → Bool
wrong_word turn j l = not (in_turn turn j) || ((is_zero_load (load_sense j) && not (l == 0)) || (is_kind On j && nat_lt l (lowest_on turn)))

-- 3: a variable that is not under the width
abbrev pub variable_outside : Turn → Kind → ℕ → Bool
variable_outside turn j l = is_variable (load_sense j) && nat_le (turn_width turn) l

-- one value waits, and it is of that sort
abbrev pub alone : Sort → List Sort → Bool
alone wanted [] = false
alone wanted (a ∷ []) = same_sort wanted a
alone wanted (a ∷ b ∷ waiting) = false

abbrev pub bad_values : (last : Bool) → Sort → Option (List Sort) → Bool
bad_values last wanted None = true
bad_values last wanted (Some waiting) = last && not (alone wanted waiting)

-- 4: an operand is missing or of the wrong sort, or the part's last word leaves other than one value of its sort
abbrev pub wrong_operand : Turn → Kind → Bool
wrong_operand at_head j = false
wrong_operand (at_on n s low) j = false
wrong_operand (at_part n s k here) j = false
wrong_operand (in_part n s k here left waiting) j = bad_values (left == 1) (part_sort here) (waiting_after j waiting)

abbrev pub over_64 : Option (List Sort) → Bool
over_64 None = false
over_64 (Some waiting) = nat_lt 64 (length waiting)

-- 5: a 65th value waits
abbrev pub too_many_waiting : Turn → Kind → Bool
too_many_waiting at_head j = false
too_many_waiting (at_on n s low) j = false
too_many_waiting (at_part n s k here) j = false
too_many_waiting (in_part n s k here left waiting) j = over_64 (waiting_after j waiting)

-- 512 operators are whole, and another one would begin
abbrev pub all_operators : Turn → Bool
all_operators at_head = false
all_operators (at_on n s low) = false
all_operators (at_part n s k section.Goal) = false
all_operators (at_part n s k section.Precondition) = nat_le 512 k
all_operators (at_part n s k section.Effect) = false
all_operators (in_part n s k here left waiting) = false

-- 6: a PART of no word or of more than 4,096, or of a 513th operator
abbrev pub too_long : Turn → Kind → ℕ → Bool
too_long turn j l = is_kind Part j && (l == 0 || (nat_lt 4096 l || all_operators turn))

-- 7: a PART that has more words than follow it
abbrev pub past_the_end : (rest : ℕ) → Kind → ℕ → Bool
past_the_end rest j l = is_kind Part j && nat_lt rest l

-- 8: a HEAD of no variable or of more than 64
abbrev pub wrong_width : Kind → ℕ → Bool
wrong_width j l = is_kind Head j && (l == 0 || nat_lt 64 l)

-- at the end of the words nothing more is needed
abbrev pub complete : Turn → Bool
complete at_head = false
complete (at_on n s low) = false
complete (at_part n s k section.Goal) = false
complete (at_part n s k section.Precondition) = true
complete (at_part n s k section.Effect) = false
complete (in_part n s k here left waiting) = false
