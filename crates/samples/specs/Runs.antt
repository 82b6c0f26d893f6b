-- Runs: words that stand several times over, and the words of all runs.
-- Assumes nothing.
use Rattle.std.specs.Prelude.{ℕ, List}
use Rattle.std.specs.List.{repeat, flat_map}
use Rattle.samples.specs.declared.build.Run.{Run}

-- the words of all runs, in their order
abbrev pub run_words : List Run → List ℕ
run_words runs = flat_map (λ run. repeat run.times run.words.now) runs
