-- Cells: the words of a task that is made of a cell.
-- Assumes nothing.
use Rattle.std.specs.Prelude.{ℕ, zero, suc, ◌^◌, List, [], ◌∷◌, ◌++◌, length, cond, ◌==◌, nat_lt, bit_or}
use Rattle.std.specs.Int.{bit_at}
use Rattle.std.specs.List.{flat_map}
use Rattle.run_cases.specs.declared.example.OperatorWords.{OperatorWords}
use Rattle.run_cases.specs.declared.example.StartedCell.{StartedCell}

-- the load of a part's first word: the part's length, or the largest load if the length has more than 32 bits
abbrev pub part_load : ℕ → ℕ
part_load n = cond (nat_lt n (2 ^ 32)) n 0x0FFFFFFF

-- a part: its first word, and its words
abbrev pub part_words : List ℕ → List ℕ
part_words part = bit_or 0xE0000000 (part_load (length part)) ∷ part

-- the words that make the first so many variables true, where their bit is 1
unfoldable pub on_words : (start many : ℕ) → List ℕ
on_words start zero = []
on_words start (suc v) = on_words start v ++ cond (bit_at start v == 1) (bit_or 0xD0000000 v ∷ []) []

-- the parts of an operator: its precondition, and its effect
abbrev pub operator_words : OperatorWords → List ℕ
operator_words operator = part_words operator.needs.now ++ part_words operator.does.now

-- the words of a cell with the variables of the start true
abbrev pub started_words : StartedCell → List ℕ
started_words c = bit_or 0xC0000000 c.cell.now.width ∷ (on_words c.start 64 ++ (part_words c.cell.now.goal.now ++ flat_map operator_words c.cell.now.operators.now))
