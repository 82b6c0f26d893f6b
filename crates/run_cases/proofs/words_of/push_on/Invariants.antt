use Rattle.std.proofs.Common.{◌≡◌, ◌++◌}
use Rattle.run_cases.specs.Cells.{on_words}
use Rattle.run_cases.proofs.words_of.push_on.Given as goal

-- the words of the variables so far are there
abbrev pub invariant-loop-variable : goal.invariant-loop-variable
invariant-loop-variable l = l.words.items ≡ l.initial.words.items ++ on_words l.start l.variable
