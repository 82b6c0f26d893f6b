use Rattle.std.proofs.Common.{ℕ, ◌<◌, ◌∙◌, arith}
use Rattle.tasks.proofs.Walking.{few_words, goal_fits, first_fits, second_fits, walk_begins, walk_on}
use Rattle.tasks.proofs.task.Task.at_operator.Goals as goal

below : (k number count : ℕ) → k < number → number < count → k < count
below k number count h i = omega arith

pub part-requires : goal.part-requires
part-requires c =
    let s = c.args.self.now in
    let r = c.at_goal-reader.result in
    let e = c.at_goal-reader.ensures in
    record { fits = goal_fits s.words.now r.words.now e.words s.faultless r.at e.at; few = few_words s.words.now r.words.now e.words s.faultless }

pub loop-passed-init : goal.loop-passed-init
loop-passed-init c =
    let s = c.args.self.now in
    let r = c.at_goal-reader.result in
    let q = c.part.new.self in
    walk_begins s.words.now r.words.now q.words.now c.at_goal-reader.ensures.words c.part.ensures.same s.faultless r.at q.at c.at_goal-reader.ensures.at c.part.ensures.at

pub part-requires-in-loop-passed : goal.part-requires-in-loop-passed
part-requires-in-loop-passed c =
    let s = c.args.self.now in
    let r = c.loop-passed.reader in
    let w = c.loop-passed.invariant in
    record {
      fits = first_fits s.words.now r.words.now w.same s.faultless r.at c.loop-passed.passed w.place (below c.loop-passed.passed c.args.number _ c.loop-passed-test.true c.requires);
      few = few_words s.words.now r.words.now w.same s.faultless;
    }

pub part-requires-in-loop-passed-2 : goal.part-requires-in-loop-passed-2
part-requires-in-loop-passed-2 c =
    let s = c.args.self.now in
    let r = c.loop-passed.reader in
    let w = c.loop-passed.invariant in
    let q = c.part-in-loop-passed.new.self in
    let e = c.part-in-loop-passed.ensures in
    record {
      fits = second_fits s.words.now r.words.now w.same s.faultless r.at c.loop-passed.passed w.place (below c.loop-passed.passed c.args.number _ c.loop-passed-test.true c.requires) q.words.now q.at e.same e.at;
      few = few_words s.words.now q.words.now (e.same ∙ w.same) s.faultless;
    }

pub loop-passed-preserved : goal.loop-passed-preserved
loop-passed-preserved c =
    let s = c.args.self.now in
    let r = c.loop-passed.reader in
    let q = c.part-in-loop-passed.new.self in
    let z = c.part-in-loop-passed-2.new.self in
    walk_on s.words.now r.words.now s.faultless r.at c.loop-passed.passed c.loop-passed.invariant (below c.loop-passed.passed c.args.number _ c.loop-passed-test.true c.requires) q.words.now z.words.now q.at z.at c.part-in-loop-passed.ensures.same c.part-in-loop-passed-2.ensures.same c.part-in-loop-passed.ensures.at c.part-in-loop-passed-2.ensures.at
