use Rattle.std.proofs.Common.{sym, ◌∙◌}
use Rattle.std.proofs.lemmas.Bool.{ltb-true}
use Rattle.running.proofs.Following.{next_answer}
use Rattle.running.proofs.run.next_step.Goals as goal

pub returns : goal.returns
returns c =
    let t = c.args.task.now in
    let s = c.args.state in
    next_answer t.words.now t.faultless c.in-Ok.operator s.width s.bits c.args.made c.args.number
    c.in-Ok.ensures.0 c.in-Ok.ensures.1 (sym c.width.ensures ∙ c.if-width.false ∙ c.width-2.ensures) (ltb-true c.args.made 4096 (sym c.if-not-may_go_on.ensures)) c.step.result c.step.ensures
