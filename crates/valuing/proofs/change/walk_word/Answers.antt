use Rattle.std.proofs.Common.{refl, ap, ◌∙◌}
use Rattle.waiting.specs.Waits.{older}
use Rattle.valuing.proofs.Walked.{newest_of, walked_nothing, walked_sets, walked_clears, walked_joins, walked_guards, walked_condition}
use Rattle.valuing.proofs.change.walk_word.Goals as goal

pub returns-in-Condition : goal.returns-in-Condition
returns-in-Condition c = rw c.in-Condition.is (walked_condition _ _ _ _ _ _ _ _ c.make.result c.make.ensures)

pub returns-in-Nothing : goal.returns-in-Nothing
returns-in-Nothing c = rw c.in-Nothing.is (walked_nothing _ _ _ _ _ _ c.put.ensures c.none.ensures)

pub returns-in-Sets : goal.returns-in-Sets
returns-in-Sets c = rw c.in-Sets.is (walked_sets _ _ _ _ _ _ c.put-in-Sets.ensures _ c.args.state.narrow c.setting.ensures)

pub returns-in-Clears : goal.returns-in-Clears
returns-in-Clears c = rw c.in-Clears.is (walked_clears _ _ _ _ _ _ c.put-in-Clears.ensures _ c.args.state.narrow c.clearing.ensures)

pub returns-in-Joins : goal.returns-in-Joins
returns-in-Joins c =
    rw c.in-Joins.is (walked_joins _ _ _ _ _ _ c.joined.result c.take-first.result c.take-second.result c.joined.ensures
    (newest_of c.take-second.result c.none-in-Joins.result c.args.changes.now c.args.changes.now c.none-in-Joins.ensures c.take-second.ensures.value refl)
    (newest_of c.take-first.result c.none-in-Joins-2.result _ _ c.none-in-Joins-2.ensures c.take-first.ensures.value c.take-second.ensures.left)
    (c.take-first.ensures.left ∙ ap older c.take-second.ensures.left)
    c.take-second.ensures.few c.put-in-Joins.ensures)

pub returns-in-Guards : goal.returns-in-Guards
returns-in-Guards c =
    rw c.in-Guards.is (walked_guards _ _ _ _ _ _ _ c.is_one.result c.take-condition.result c.take-change.result c.under.result c.is_one.ensures c.under.ensures
    (newest_of c.take-change.result c.none-in-Guards.result c.args.changes.now c.args.changes.now c.none-in-Guards.ensures c.take-change.ensures.value refl) c.take-change.ensures.left
    c.take-condition.ensures.value c.take-condition.ensures.left
    c.take-change.ensures.few c.put-in-Guards.ensures)
