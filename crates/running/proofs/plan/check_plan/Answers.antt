use Rattle.std.proofs.Common.{◌≡◌, Err, arith}
use Rattle.std.proofs.lemmas.Result.{err_from_is_err_and}
use Rattle.reading.specs.Trees.{task_tree}
use Rattle.outcomes.specs.Runs.{refused, plan_outcome}
use Rattle.running.proofs.Judging.{stops, ended, ended_wide, refused_wide, judged}
use Rattle.running.proofs.plan.check_plan.Goals as goal

pub returns-in_err-run : goal.returns-in_err-run
returns-in_err-run c =
    let t = task_tree c.args.task.now.words.now in
    let plan = c.args.plan.now in
    let l = c.loop-number in
    let p = err_from_is_err_and c.from_residual.result c.from_residual.ensures.1 in
    let f = c.in_err-run.field-0.0.fault in
    let e : refused f ≡ plan_outcome t plan = stops t plan l.number-index l.run.state.width l.run.state.bits l.run.steps l.run.changes l.invariant.0 l.invariant.1 f (omega arith) c.in_err-run.ensures.answer in
    rw (p.1, p.2) (record { outcome = e; judged = judged t plan (Err f) e (refused_wide t f) })

pub returns : goal.returns
returns c =
    let t = task_tree c.args.task.now.words.now in
    let plan = c.args.plan.now in
    let l = c.loop-number in
    let e = ended t plan l.number-index l.run.state l.run.steps l.run.changes c.finish.result l.invariant.0 l.invariant.1 (omega arith) c.finish.ensures.answer in
    record { outcome = e; judged = judged t plan c.finish.result e (ended_wide t l.run.state l.run.steps l.run.changes c.finish.result l.invariant.0 c.finish.ensures.answer) }
