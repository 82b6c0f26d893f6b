use Rattle.std.proofs.Common.{◌+◌, ap, ◌∙◌}
use Rattle.tasks.proofs.Walking.{goal_at}
use Rattle.tasks.proofs.task.Task.at_goal.Goals as goal

pub returns : goal.returns
returns c = record {
  words = c.new.ensures.words;
  at = ap (λ n. n + 1) (c.new.ensures.at ∙ c.goal_part.ensures) ∙ goal_at c.args.self.now.words.now c.args.self.now.faultless c.args.self.now.initial c.args.self.now.begun;
}
