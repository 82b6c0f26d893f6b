use Rattle.reading.specs.Trees.{task_tree}
use Rattle.outcomes.proofs.Stepping.{step_decided}
use Rattle.running.proofs.run.Running.step.Goals as goal

pub returns : goal.returns
returns c =
    let r = c.args.self in
    record {
      answer = c.moved.ensures;
      decided = step_decided (task_tree c.args.task.now.words.now) r.state.width r.state.bits r.steps c.args.number;
    }
