use Rattle.std.proofs.Common.{Some, sym, ap, ◌∙◌, arith}
use Rattle.tasks.specs.Progress.{turn_now}
use Rattle.tasks.proofs.Opened.{stopped, again, broken_off, finished, accepts, refuses}
use Rattle.tasks.proofs.opening.read_task.Goals as goal

pub returns-in-Err : goal.returns-in-Err
returns-in-Err c = refuses c.args.words.now c.fault_at-in-Err.result (stopped c.args.words.now c.loop-at.at (turn_now c.loop-at.progress) c.loop-at.invariant c.loop-at-test.true c.in-Err.refusal c.in-Err.ensures ∙ ap Some (sym c.fault_at-in-Err.ensures))

pub loop-at-preserved : goal.loop-at-preserved
loop-at-preserved c = let e = c.in_default.ensures in again c.args.words.now c.loop-at.at (turn_now c.loop-at.progress) c.loop-at.invariant c.loop-at-test.true (turn_now c.read_word.new.self) e.0 e.1

pub returns-then-not-is_complete : goal.returns-then-not-is_complete
returns-then-not-is_complete c = refuses c.args.words.now c.fault_at-then-not-is_complete.result (broken_off c.args.words.now c.loop-at.at (turn_now c.loop-at.progress) c.loop-at.invariant c.loop-at-test.false (omega arith) (sym c.if-not-is_complete.ensures) ∙ ap Some (sym c.fault_at-then-not-is_complete.ensures))

pub returns : goal.returns
returns c =
    let p = c.loop-at.progress in
    let f = finished c.args.words.now c.loop-at.at p.stage p.width p.initial p.low p.operators p.section p.left p.waiting c.loop-at.invariant c.loop-at-test.false (omega arith) (sym c.if-not-is_complete.ensures) in
    (accepts c.args.words.now f.0, f.1, f.2, f.3)
