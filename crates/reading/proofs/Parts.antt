-- The words of a formula or an effect within the limits have no fault as a part.
-- Assumes nothing.
use Rattle.std.proofs.Common.{◌≡◌, ℕ, zero, suc, ◌+◌, ◌-◌, ◌^◌, ◌<◌, ◌≤◌, true, false, not, eqb, List, [], ◌∷◌, ◌++◌, map, length, Some, None, Option, sym, refl, ap, ◌∙◌, subst, arith, pow_pos}
use Rattle.std.proofs.lemmas.List.{append-nil, append_assoc}
use Rattle.std.proofs.lemmas.Bool.{cond-false, ne_eqb, not-false, true≢false}
use Rattle.words.specs.declared.kind.Kind.{Kind}
use Rattle.words.specs.Words.{word, kind_of, load_of}
use Rattle.words.proofs.Joining.{word_of_kind}
use Rattle.planning.specs.Tree.{Formula, TRUE, Effect, TaskTree}
use Rattle.planning.specs.Render.{formula_words, effect_words}
use Rattle.planning.specs.Limits.{FormulaWithin, EffectWithin}
use Rattle.reading.specs.declared.section.Sort.TheVariants as sort
use Rattle.reading.specs.Faults.{fault_from, turn_past, word_refusal}
use Rattle.reading.specs.Laws.{PartsRenderTrees}
use Rattle.reading.specs.Parts.{formula_fault, effect_fault}
use Rattle.reading.specs.Rules.{alone, bad_values}
use Rattle.reading.specs.Senses.{part_sort, same_sort}
use Rattle.reading.specs.Trees.{Value, formula, effect, Before, goal_next, effect_next, between, inside, newest, read_kind, values_after, whole}
use Rattle.reading.specs.Turns.{turn_after}
use Rattle.reading.proofs.Accepted.{first_none}
use Rattle.reading.proofs.Clean.{Clean, clean}
use Rattle.reading.proofs.Readable.{Ends, value_readable}
use Rattle.reading.proofs.Rendered.{fill_formula, fill_effect, Filling, filled, values_end}
use Rattle.reading.proofs.Sound.{before_section, before_width, clean_turn, clean_zero, Inside, Nearly, Next, next, only_one, Open, Single, single, turn_of, Valid, Whole}
use Rattle.reading.proofs.Values.{Applied, applied, Stacked, value_depth, value_sort, value_words, ValueBelow, written}

part_read : (b : Before) (v : Value) → Filling b v → Ends (between (whole b v)) [] (between (whole b v)) → Ends (inside b (length (value_words v)) []) (value_words v) (between (whole b v))
part_read b v f e = subst (λ ws. Ends (inside b (length (value_words v)) []) ws (between (whole b v))) (append-nil (value_words v)) (value_readable v b (length (value_words v)) [] [] (between (whole b v)) (filled b v f) (values_end b v [] (between (whole b v)) e))

module _ (n : ℕ) (some : 1 ≤ n) (narrow : n ≤ 64) where
  positive : 0 < 2 ^ n
  positive = pow_pos n

  pub formula_formed : (f : Formula) → FormulaWithin n f → formula_fault n (formula_words f) ≡ None
  formula_formed f w = (part_read (goal_next n 0) (formula f) (fill_formula (goal_next n 0) f (some, narrow, positive) tt narrow refl w) (record { clean = λ i. refl; tree = refl })).clean 0

  bare : TaskTree
  bare = record { width = n; initial = 0; goal = TRUE; operators = [] }

  true_within : FormulaWithin n TRUE
  true_within = record { below = tt; shallow = omega arith; short = omega arith }

  pub effect_formed : (e : Effect) → EffectWithin n e → effect_fault n (effect_words e) ≡ None
  unfolding bare
  effect_formed e w =
      let near : Nearly bare = record { some = some; narrow = narrow; start = positive; goal = true_within; operators = tt; few = omega arith } in
      (part_read (effect_next bare TRUE) (effect e) (fill_effect (effect_next bare TRUE) e (near, omega arith, true_within) tt narrow refl w) (record { clean = λ i. refl; tree = refl })).clean 0

-- a part that is read without a fault gives one value, whose words they are
pub record Given (b : Before) (vs : List Value) (ws : List ℕ) : Type 0 where
  pub value : Value
  pub sort : same_sort (part_sort (before_section b)) (value_sort value) ≡ true
  pub words : value_words value ≡ written vs ++ ws
  pub below : ValueBelow (before_width b) value
  pub shallow : value_depth value ≤ 64

last_given : (b : Before) (vs us : List Value) (j : Kind) (l : ℕ) → Applied (before_width b) j l vs → values_after j l vs ≡ us → Single (part_sort (before_section b)) us → Given b vs (word j l ∷ [])
last_given b vs us j l a e (single u same) =
    let st : Stacked (before_width b) (u ∷ []) = subst (Stacked (before_width b)) e a.stacked in
    record {
      value = u;
      sort = same;
      words = ap written (sym e) ∙ a.words;
      below = st.0.0;
      shallow = omega (arith, st.0.1);
    }

more_given : (b : Before) (vs us : List Value) (w : ℕ) (ws : List ℕ) → written us ≡ written vs ++ (w ∷ []) → Given b us ws → Given b vs (w ∷ ws)
more_given b vs us w ws e g = record {
  value = g.value;
  sort = g.sort;
  words = g.words ∙ ap (λ xs. xs ++ ws) e ∙ append_assoc (written vs) (w ∷ []) ws;
  below = g.below;
  shallow = g.shallow;
}

word_applied : (b : Before) (left : ℕ) (vs : List Value) (rest : ℕ) (j : Kind) (l : ℕ) → Inside b left vs → Clean (turn_of (inside b left vs)) rest j l → Applied (before_width b) j l vs
word_applied b left vs rest j l v c =
    let turn = turn_of (inside b left vs) in
    applied (before_width b) l (eqb left 1) (part_sort (before_section b)) j vs v.stacked (clean_turn turn rest j l c) (clean_zero turn rest j l c) c.below c.operands c.waiting

-- what is known of the words behind one word
abbrev Behind : Before → List ℕ → Type 0
Behind b ws = (left : ℕ) (us : List Value) (i : ℕ) → Inside b left us → length ws ≡ left → fault_from (turn_of (inside b left us)) i ws ≡ None → Given b us ws

word_given : (b : Before) (left : ℕ) (vs : List Value) (i w : ℕ) (ws : List ℕ) (o : Option Kind) → Behind b ws → kind_of w ≡ o → Inside b left vs → suc (length ws) ≡ left → word_refusal (turn_of (inside b left vs)) (length ws) o (load_of w) ≡ None → fault_from (turn_past (turn_of (inside b left vs)) o (load_of w)) (i + 1) ws ≡ None → Given b vs (w ∷ ws)
word_given b left vs i w ws None behind k v n r e = let z : ◌≡◌ {A = ℕ} 0 1 = cc in absurd (omega arith)
word_given b zero vs i w ws (Some j) behind k v n r e = absurd (omega arith)
word_given b (suc zero) vs i w [] (Some j) behind k v n r e =
    let l = load_of w in
    let c = clean (turn_of (inside b (suc zero) vs)) 0 j l r in
    let a = word_applied b (suc zero) vs 0 j l v c in
    let us = values_after j l vs in
    let bad : not (alone (part_sort (before_section b)) (map value_sort us)) ≡ false = subst (λ x. bad_values true (part_sort (before_section b)) x ≡ false) a.sorts c.operands in
    subst (λ x. Given b vs (x ∷ [])) (sym (word_of_kind w j k)) (last_given b vs us j l a refl (only_one (part_sort (before_section b)) us (not-false (alone (part_sort (before_section b)) (map value_sort us)) bad)))
word_given b (suc zero) vs i w (x ∷ ws) (Some j) behind k v n r e = absurd (omega arith)
word_given b (suc (suc m)) vs i w ws (Some j) behind k v n r e =
    let l = load_of w in
    let left = suc (suc m) in
    let c = clean (turn_of (inside b left vs)) (length ws) j l r in
    let a = word_applied b left vs (length ws) j l v c in
    let us = values_after j l vs in
    let f : Next (inside b left vs) j l = next (inside b left vs) (length ws) j l v c in
    let off : eqb (left - 1) 0 ≡ false = ne_eqb (left - 1) 0 (λ q. omega arith) in
    let stays : read_kind (inside b left vs) j l ≡ inside b (left - 1) us = cond-false (eqb (left - 1) 0) (between (whole b (newest us))) (inside b (left - 1) us) off in
    let v' : Inside b (left - 1) us = subst Valid stays f.valid in
    let turn : turn_after (turn_of (inside b left vs)) j l ≡ turn_of (inside b (left - 1) us) = sym f.turn ∙ ap turn_of stays in
    let g = behind (left - 1) us (i + 1) v' (omega arith) (subst (λ t. fault_from t (i + 1) ws ≡ None) turn e) in
    more_given b vs us w ws (a.words ∙ ap (λ x. written vs ++ (x ∷ [])) (sym (word_of_kind w j k))) g

part_given : (b : Before) (ws : List ℕ) → Behind b ws
part_given b [] left vs i v n e = absurd (omega (arith, v.some))
part_given b (w ∷ ws) left vs i v n e =
    let p = first_none (word_refusal (turn_of (inside b left vs)) (length ws) (kind_of w) (load_of w)) i (fault_from (turn_past (turn_of (inside b left vs)) (kind_of w) (load_of w)) (i + 1) ws) e in
    word_given b left vs i w ws (kind_of w) (part_given b ws) refl v n p.0 p.1

as_formula_given : (n : ℕ) (ws : List ℕ) → length ws ≤ 4096 → Given (goal_next n 0) [] ws → (f : Formula) × FormulaWithin n f × (formula_words f ≡ ws)
as_formula_given n ws short g = by g.value g.sort g.words g.below g.shallow
  where
    by : (v : Value) → same_sort sort.Formula (value_sort v) ≡ true → value_words v ≡ ws → ValueBelow n v → value_depth v ≤ 64 → (f : Formula) × FormulaWithin n f × (formula_words f ≡ ws)
    by (formula f) s w b d = (f, record { below = b; shallow = d; short = subst (λ xs. length xs ≤ 4096) (sym w) short }, w)
    by (effect e) s w b d = absurd (true≢false (sym s))

as_effect_given : (n : ℕ) (ws : List ℕ) → length ws ≤ 4096 → Given (effect_next (record { width = n; initial = 0; goal = TRUE; operators = [] }) TRUE) [] ws → (e : Effect) × EffectWithin n e × (effect_words e ≡ ws)
as_effect_given n ws short g = by g.value g.sort g.words g.below g.shallow
  where
    by : (v : Value) → same_sort sort.Effect (value_sort v) ≡ true → value_words v ≡ ws → ValueBelow n v → value_depth v ≤ 64 → (e : Effect) × EffectWithin n e × (effect_words e ≡ ws)
    by (effect e) s w b d = (e, record { below = b; shallow = d; short = subst (λ xs. length xs ≤ 4096) (sym w) short }, w)
    by (formula f) s w b d = absurd (true≢false (sym s))

module _ (n : ℕ) (ws : List ℕ) where
  begun : (b : Before) → Whole b → Open b → 1 ≤ length ws → length ws ≤ 4096 → Inside b (length ws) []
  begun b w o some short = record { whole = w; open' = o; some = some; short = omega arith; stacked = tt }

  pub parts_render_trees : PartsRenderTrees n ws
  parts_render_trees = record {
    formula = λ some narrow filled' short e. as_formula_given n ws short (part_given (goal_next n 0) ws (length ws) [] 0 (begun (goal_next n 0) (some, narrow, pow_pos n) tt filled' short) refl e);
    formula_back = λ some narrow f w e. subst (λ xs. formula_fault n xs ≡ None) e (formula_formed n some narrow f w);
    effect = λ some narrow filled' short e. as_effect_given n ws short (part_given (effect_next (record { width = n; initial = 0; goal = TRUE; operators = [] }) TRUE) ws (length ws) [] 0 (begun (effect_next (record { width = n; initial = 0; goal = TRUE; operators = [] }) TRUE) (record { some = some; narrow = narrow; start = pow_pos n; goal = record { below = tt; shallow = omega arith; short = omega arith }; operators = tt; few = omega arith }, omega arith, record { below = tt; shallow = omega arith; short = omega arith }) tt filled' short) refl e);
    effect_back = λ some narrow f w e. subst (λ xs. effect_fault n xs ≡ None) e (effect_formed n some narrow f w);
  }
