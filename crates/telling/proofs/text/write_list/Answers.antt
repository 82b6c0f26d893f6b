use Rattle.std.proofs.Common.{rules, ℕ, List, ◌∷◌, ◌++◌, decimal, sym, ap, ◌∙◌}
use Rattle.std.proofs.lemmas.Grind.{put_two}
use Rattle.telling.specs.Texts.{listed}
use Rattle.telling.proofs.Listing.{listed_none, listed_same, listed_more, begun}
use Rattle.telling.proofs.text.write_list.Goals.{in-Some+in_ok-write, in_default}
use Rattle.telling.proofs.text.write_list.Goals as goal

pub loop-variable-init : goal.loop-variable-init
loop-variable-init g c = rw (listed_none (g.L.Signs.text c.args.signs.now)) (search rules)

pub loop-variable-preserved : goal.loop-variable-preserved
loop-variable-preserved g c =
    let item = g.L.Signs.text c.args.signs.now in
    let v = c.loop-variable.variable-counter in
    let so_far = c.loop-variable.invariant in
    elim c.match-sign.branch [
      | in-Some+in_ok-write w ↦
          let mark = w.in-Some.sign.now in
          let is = w.in-Some.ensures in (
            rw w.between-is (search rules),
            (
              rw w.between-is (sym (begun item v 118 mark (decimal v) is)),
              λ p. rw w.f-is (put_two _ _ _ _ _ _ _ (so_far.1.1 p) (w.in_ok-write.ensures.writes (so_far.1.1 p).plain (search rules))
                  (ap (λ (x : List ℕ). listed item v ++ (x ++ (mark ++ (118 ∷ decimal v)))) so_far.1.0 ∙ listed_more item v 118 mark (decimal v) is)),
            ),
          )
      | in_default w ↦ rw (w.between-is, w.f-is, listed_same item v w.in_default.ensures) so_far
    ]
