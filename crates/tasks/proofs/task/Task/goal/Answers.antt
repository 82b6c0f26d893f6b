use Rattle.std.proofs.Common.{◌∙◌}
use Rattle.reading.specs.Trees.{task_tree}
use Rattle.tasks.proofs.Walking.{few_words, goal_fits, goal_is, placed, formula_facts, within}
use Rattle.tasks.proofs.task.Task.goal.Goals as goal

pub part-goal-requires : goal.part-goal-requires
part-goal-requires c =
    let s = c.args.self.now in
    let r = c.at_goal-reader.result in
    let e = c.at_goal-reader.ensures in
    record { fits = goal_fits s.words.now r.words.now e.words s.faultless r.at e.at; few = few_words s.words.now r.words.now e.words s.faultless }

pub invariant_of-result : goal.invariant_of-result
invariant_of-result c =
    let s = c.args.self.now in
    let r = c.at_goal-reader.result in
    let e = c.at_goal-reader.ensures in
    let f = formula_facts s.words.now s.faultless s.width s.wide (task_tree s.words.now).goal c.part-goal.result.words.now (within s.words.now s.faultless).goal
    (c.part-goal.ensures.part ∙ goal_is s.words.now r.words.now e.words s.faultless r.at e.at) in
    record { placed = placed r.words.now r.at _ c.part-goal.result.place c.part-goal.ensures.place (goal_fits s.words.now r.words.now e.words s.faultless r.at e.at) (few_words s.words.now r.words.now e.words s.faultless); some = f.0; narrow = f.1.0; filled = f.1.1.0; short = f.1.1.1.0; formed = f.1.1.1.1.0 }

pub returns : goal.returns
returns c =
    let s = c.args.self.now in
    let r = c.at_goal-reader.result in
    let e = c.at_goal-reader.ensures in
    record {
      words = c.part-goal.ensures.part ∙ goal_is s.words.now r.words.now e.words s.faultless r.at e.at;
      place = c.part-goal.ensures.place ∙ e.at;
      width = s.wide;
    }
