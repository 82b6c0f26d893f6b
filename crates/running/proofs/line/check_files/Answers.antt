use Rattle.running.proofs.Telling.{ok_when_solved}
use Rattle.running.proofs.line.check_files.Goals as goal

pub returns : goal.returns
returns c =
    let r = c.check_in_order in
    record {
      answer = r.ensures;
      solved = ok_when_solved c.args.task_file.now c.args.plan_file.now r.result c.type_inv.task_file c.type_inv.plan_file r.ensures;
    }
