use Rattle.std.proofs.Common.{◌≡◌, ◌++◌, drop}
use Rattle.samples.specs.Runs.{run_words}
use Rattle.samples.proofs.build.RefSliceRunWords.all_words.Given as goal

-- the words so far, with those of the runs that are left, are those of all runs
abbrev pub invariant-loop-run : goal.invariant-loop-run
invariant-loop-run l = l.words.items ++ run_words (drop l.run-index l.run-items) ≡ run_words l.run-items
