use Rattle.std.proofs.Common.{sym, ap, ◌∙◌}
use Rattle.std.proofs.lemmas.Result.{err_from_is_err_and}
use Rattle.running.proofs.Stepping.{end_accepted, misfit_told, stepped, counted}
use Rattle.running.proofs.step.step.Goals as goal

pub after-requires : goal.after-requires
after-requires c =
    let s = c.args.state in
    end_accepted c.args.operator s.width s.bits c.args.made c.precondition.result c.effect.result c.precondition.ensures c.effect.ensures c.in-Ok-Ok.holds c.in-Ok-Ok.change
    (sym c.in-Ok-Ok.is-0 ∙ c.is_true-holds.ensures) (sym c.in-Ok-Ok.is-1 ∙ c.change_of-change.ensures) s.some s.narrow s.within

pub returns-in_err-check_fit : goal.returns-in_err-check_fit
returns-in_err-check_fit c =
    let s = c.args.state in
    let p = err_from_is_err_and c.from_residual.result c.from_residual.ensures.1 in
    rw (p.1, p.2) (misfit_told c.args.operator s.width s.bits c.args.made c.precondition.result c.effect.result c.precondition.ensures c.effect.ensures c.in-Ok-Ok.holds c.in-Ok-Ok.change
    (sym c.in-Ok-Ok.is-0 ∙ c.is_true-holds.ensures) (sym c.in-Ok-Ok.is-1 ∙ c.change_of-change.ensures) c.clash.result c.clash.ensures
    ∙ sym c.in_err-check_fit.ensures)

pub returns : goal.returns
returns c =
    let o = c.args.operator in
    let s = c.args.state in
    let p = c.precondition in
    let e = c.effect in
    let i = c.in-Ok-Ok in
    let t = c.after in
    let told = sym i.is-0 ∙ c.is_true-holds.ensures in
    let does = sym i.is-1 ∙ c.change_of-change.ensures in
    record {
      fits = misfit_told o s.width s.bits c.args.made p.result e.result p.ensures e.ensures i.holds i.change told does c.clash.result c.clash.ensures ∙ sym c.in_ok-check_fit.ensures;
      wide = ap (λ x. x.width) c.between.ensures.state ∙ t.ensures.width;
      after = ap (λ x. x.bits) c.between.ensures.state ∙ stepped o s.width s.bits c.args.made p.result e.result p.ensures e.ensures i.holds i.change told does t.result.bits s.narrow s.within t.ensures.bits;
      count = counted o s.width s.bits c.args.made p.result e.result p.ensures e.ensures i.holds i.change told does t.result.bits c.between.result.changes s.narrow s.within t.ensures.bits c.between.ensures.count;
      few = c.between.ensures.few;
    }
