use Rattle.std.proofs.Common.{rules, ◌≡◌, ℕ, List, ◌++◌, ◌+◌, ◌-◌, ◌<◌, suc, ap, arith, append_assoc}
use Rattle.std.specs.List.{repeat}
use Rattle.samples.proofs.build.push_times.Goals as goal

-- one repetition of those that are left, and then the others
repeat_next : (n i : ℕ) (some : List ℕ) → i < n → repeat (n - i) some ≡ some ++ repeat (n - (i + 1)) some
repeat_next n i some more =
    let one_more : n - i ≡ suc (n - (i + 1)) = omega arith in
    ap (λ k. repeat k some) one_more

pub loop-preserved : goal.loop-preserved
loop-preserved c =
    let next = repeat_next c.args.times c.loop.counter c.args.some.now c.loop-test.true in
    search (rules, append_assoc, next)
