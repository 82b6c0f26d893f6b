use Rattle.std.proofs.Common.{sym, refl, ◌∙◌}
use Rattle.std.proofs.lemmas.Result.{err_from_is_err_and}
use Rattle.reading.specs.Trees.{task_tree}
use Rattle.outcomes.proofs.Stepping.{finish_decided}
use Rattle.running.proofs.Following.{finish_told}
use Rattle.running.proofs.run.Running.finish.Goals as goal

pub returns-in_err-check_goal : goal.returns-in_err-check_goal
returns-in_err-check_goal c =
    let t = c.args.task.now in
    let r = c.args.self in
    let g = c.goal in
    let p = err_from_is_err_and c.from_residual.result c.from_residual.ensures.1 in
    record {
      answer = rw (p.1, p.2) (finish_told t.words.now t.faultless r.state.width r.state.bits r.steps g.result g.ensures.words g.ensures.place g.ensures.width ∙ sym c.in_err-check_goal.ensures);
      decided = finish_decided (task_tree t.words.now) r.state.width r.state.bits r.steps;
    }

pub returns : goal.returns
returns c =
    let t = c.args.task.now in
    let r = c.args.self in
    let g = c.goal in
    record {
      answer = (finish_told t.words.now t.faultless r.state.width r.state.bits r.steps g.result g.ensures.words g.ensures.place g.ensures.width ∙ sym c.in_ok-check_goal.ensures, refl);
      decided = finish_decided (task_tree t.words.now) r.state.width r.state.bits r.steps;
    }
