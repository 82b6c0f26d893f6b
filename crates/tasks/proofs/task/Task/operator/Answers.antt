use Rattle.std.proofs.Common.{◌≡◌, ℕ, ◌<◌, true, ltb, sym, ◌∙◌}
use Rattle.std.proofs.lemmas.Bool.{ltb-true}
use Rattle.reading.specs.Trees.{task_tree}
use Rattle.tasks.specs.Places.{operator_of}
use Rattle.tasks.proofs.Walking.{few_words, first_fits, first_is, second_fits, second_is, second_at, placed, formula_facts, effect_facts, operator_within}
use Rattle.tasks.proofs.task.Task.operator.Goals as goal

there : (k n : ℕ) → true ≡ ltb k n → k < n
there k n e = ltb-true k n (sym e)

pub part-first-requires : goal.part-first-requires
part-first-requires c =
    let s = c.args.self.now in
    let r = c.at_operator-reader.result in
    let e = c.at_operator-reader.ensures in
    let lt = there c.args.number _ c.if-not-has_operator.ensures in
    record { fits = first_fits s.words.now r.words.now e.words s.faultless r.at c.args.number e.at lt; few = few_words s.words.now r.words.now e.words s.faultless }

pub part-second-requires : goal.part-second-requires
part-second-requires c =
    let s = c.args.self.now in
    let r = c.at_operator-reader.result in
    let e = c.at_operator-reader.ensures in
    let q = c.part-first.new.self in
    let f = c.part-first.ensures in
    let lt = there c.args.number _ c.if-not-has_operator.ensures in
    record { fits = second_fits s.words.now r.words.now e.words s.faultless r.at c.args.number e.at lt q.words.now q.at f.same f.at; few = few_words s.words.now q.words.now (f.same ∙ e.words) s.faultless }

pub invariant_of-result : goal.invariant_of-result
invariant_of-result c =
    let s = c.args.self.now in
    let r = c.at_operator-reader.result in
    let e = c.at_operator-reader.ensures in
    let lt = there c.args.number _ c.if-not-has_operator.ensures in
    let f = formula_facts s.words.now s.faultless s.width s.wide (operator_of (task_tree s.words.now) c.args.number).precondition c.part-first.result.words.now (operator_within s.words.now s.faultless c.args.number lt).0
    (c.part-first.ensures.part ∙ first_is s.words.now r.words.now e.words s.faultless r.at c.args.number e.at lt) in
    record { placed = placed r.words.now r.at _ c.part-first.result.place c.part-first.ensures.place (first_fits s.words.now r.words.now e.words s.faultless r.at c.args.number e.at lt) (few_words s.words.now r.words.now e.words s.faultless); some = f.0; narrow = f.1.0; filled = f.1.1.0; short = f.1.1.1.0; formed = f.1.1.1.1.0 }

pub invariant_of-result-2 : goal.invariant_of-result-2
invariant_of-result-2 c =
    let s = c.args.self.now in
    let r = c.at_operator-reader.result in
    let e = c.at_operator-reader.ensures in
    let q = c.part-first.new.self in
    let f = c.part-first.ensures in
    let lt = there c.args.number _ c.if-not-has_operator.ensures in
    let g = effect_facts s.words.now s.faultless s.width s.wide (operator_of (task_tree s.words.now) c.args.number).effect c.part-second.result.words.now (operator_within s.words.now s.faultless c.args.number lt).1
    (c.part-second.ensures.part ∙ second_is s.words.now r.words.now e.words s.faultless r.at c.args.number e.at lt q.words.now q.at f.same f.at) in
    record { placed = placed q.words.now q.at _ c.part-second.result.place c.part-second.ensures.place (second_fits s.words.now r.words.now e.words s.faultless r.at c.args.number e.at lt q.words.now q.at f.same f.at) (few_words s.words.now q.words.now (f.same ∙ e.words) s.faultless); some = g.0; narrow = g.1.0; filled = g.1.1.0; short = g.1.1.1.0; formed = g.1.1.1.1.0 }

pub returns : goal.returns
returns c =
    let s = c.args.self.now in
    let r = c.at_operator-reader.result in
    let e = c.at_operator-reader.ensures in
    let q = c.part-first.new.self in
    let f = c.part-first.ensures in
    let lt = there c.args.number _ c.if-not-has_operator.ensures in (
      lt,
      record {
        precondition_words = f.part ∙ first_is s.words.now r.words.now e.words s.faultless r.at c.args.number e.at lt;
        precondition_at = f.place ∙ e.at;
        precondition_width = s.wide;
        effect_words_are = c.part-second.ensures.part ∙ second_is s.words.now r.words.now e.words s.faultless r.at c.args.number e.at lt q.words.now q.at f.same f.at;
        effect_at = c.part-second.ensures.place ∙ second_at s.words.now r.words.now e.words s.faultless r.at c.args.number e.at lt q.words.now q.at f.same f.at;
        effect_width = s.wide;
      },
    )
