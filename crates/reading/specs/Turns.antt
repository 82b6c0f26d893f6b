-- Where in a task a word stands.
-- Assumes nothing.
use Rattle.std.specs.Prelude.{ℕ, ◌+◌, ◌-◌, ◌^◌, cond, List, [], Some, None, Option, ◌==◌}
use Rattle.words.specs.declared.kind.Kind.{Kind}
use Rattle.words.specs.declared.kind.Kind.TheVariants.{On}
use Rattle.reading.specs.declared.section.Sort.{Sort}
use Rattle.reading.specs.declared.section.Section.{Section}
use Rattle.reading.specs.declared.section.Section.TheVariants as section
use Rattle.reading.specs.Senses.{is_kind, waiting_after}

-- The place of a word that comes next, by what came before it. Behind the HEAD, n is the number of variables,
-- s the initial state so far, and k the number of whole operators so far.
pub data Turn : Type 0 where
  at_head : Turn
  -- an ON of a variable that is at least low, or the goal's PART
  at_on : (n s low : ℕ) → Turn
  -- the PART of that section, a precondition's or an effect's
  at_part : (n s k : ℕ) (here : Section) → Turn
  -- a word of the part of that section, of which `left` words are to come, over the values that wait, the newest first
  in_part : (n s k : ℕ) (here : Section) (left : ℕ) (waiting : List Sort) → Turn

-- the part that follows a part; behind an effect there is one operator more
abbrev pub next_section : Section → Section
next_section section.Goal = section.Precondition
next_section section.Precondition = section.Effect
next_section section.Effect = section.Precondition

abbrev pub operators_after : Section → ℕ → ℕ
operators_after section.Goal k = k
operators_after section.Precondition k = k
operators_after section.Effect k = k + 1

abbrev pub or_empty : Option (List Sort) → List Sort
or_empty None = []
or_empty (Some waiting) = waiting

-- the turn after a word of a part: the part goes on, or, with no word left, it ends
abbrev pub part_on : (n s k : ℕ) (here : Section) (left : ℕ) (waiting : List Sort) → Turn
part_on n s k here left waiting = cond (left == 0) (at_part n s (operators_after here k) (next_section here)) (in_part n s k here left waiting)

-- the turn after a faultless word of kind j and load l
abbrev pub turn_after : Turn → Kind → ℕ → Turn
turn_after at_head j l = at_on l 0 0
turn_after (at_on n s low) j l = cond (is_kind On j) (at_on n (s + 2 ^ l) (l + 1)) (in_part n s 0 section.Goal l [])
turn_after (at_part n s k here) j l = in_part n s k here l []
turn_after (in_part n s k here left waiting) j l = part_on n s k here (left - 1) (or_empty (waiting_after j waiting))
