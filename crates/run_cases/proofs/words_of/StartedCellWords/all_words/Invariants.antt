use Rattle.std.proofs.Common.{◌≡◌, ◌++◌, drop}
use Rattle.std.specs.List.{flat_map}
use Rattle.run_cases.specs.Cells.{operator_words, started_words}
use Rattle.run_cases.proofs.words_of.StartedCellWords.all_words.Given as goal

-- the words so far, with those of the operators that are left, are those of the whole cell
abbrev pub invariant-loop-operator : goal.invariant-loop-operator
invariant-loop-operator l = l.words.items ++ flat_map operator_words (drop l.operator-index l.operator-items) ≡ started_words l.self
