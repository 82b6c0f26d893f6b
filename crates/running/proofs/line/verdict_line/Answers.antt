use Rattle.running.proofs.Telling.{begins_accept, line_tells}
use Rattle.running.proofs.line.verdict_line.Goals as goal

pub returns : goal.returns
returns c =
    let r = c.checked_line in
    record {
      bytes = r.ensures;
      accepts = begins_accept (λ line. line.items) c.args.task_file.now c.args.plan_file.now r.result c.type_inv.task_file c.type_inv.plan_file r.ensures;
      tells = line_tells (λ line. line.items) c.args.task_file.now c.args.plan_file.now r.result c.type_inv.task_file c.type_inv.plan_file r.ensures;
    }
