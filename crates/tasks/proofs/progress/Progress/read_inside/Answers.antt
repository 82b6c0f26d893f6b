use Rattle.std.proofs.lemmas.Result.{err_from_is_err_and}
use Rattle.tasks.proofs.Inside.{early_refused}
use Rattle.tasks.proofs.progress.Progress.read_inside.Goals as goal

pub returns-in_err-sort : goal.returns-in_err-sort
returns-in_err-sort c =
    let p = err_from_is_err_and c.from_residual.result c.from_residual.ensures.1 in
    let s = c.args.self.now in
    rw (p.1, p.2) (early_refused s.width s.initial s.operators s.section s.left s.waiting c.args.next.rest c.args.next.kind c.args.next.load _ c.in_err-sort.ensures)
