use Rattle.std.proofs.Common.{◌≡◌, ◌++◌, ◌-◌}
use Rattle.std.specs.List.{repeat}
use Rattle.samples.proofs.build.push_times.Given as goal

-- the words so far, with the repetitions that are left, are all of them
abbrev pub invariant-loop : goal.invariant-loop
invariant-loop l = l.words.items ++ repeat (l.times - l.counter) l.some ≡ l.initial.words.items ++ repeat l.times l.some
