-- The words of a part without a fault are those of the one formula, or the one effect, that they are read into.
-- Assumes nothing.
use Rattle.std.proofs.Common.{◌≡◌, subst, ℕ, ◌^◌, ◌≤◌, List, sym, ap, ◌∙◌, arith}
use Rattle.planning.specs.Tree.{Formula, Effect}
use Rattle.planning.specs.Render.{formula_words, effect_words}
use Rattle.planning.specs.Limits.{FormulaWithin, EffectWithin}
use Rattle.planning.proofs.Wording.{formula_below_more, effect_below_more}
use Rattle.reading.specs.Laws.{PartsAreRead}
use Rattle.reading.specs.Parts.{formula_of, effect_of}
use Rattle.reading.proofs.Parts.{parts_render_trees}
use Rattle.reading.proofs.PartTrees.{formula_of_words, effect_of_words}

module _ (n : ℕ) (ws : List ℕ) where
  formula_is : 1 ≤ n → n ≤ 64 → (f : Formula) × FormulaWithin n f × (formula_words f ≡ ws) → FormulaWithin n (formula_of ws) × (formula_words (formula_of ws) ≡ ws)
  formula_is some narrow p =
      let e : formula_of ws ≡ p.0 = ap (λ xs. formula_of xs) (sym p.2) ∙ formula_of_words p.0 (formula_below_more n (2 ^ 28) p.0 (omega arith) p.1.below) in
      (subst (λ f. FormulaWithin n f) (sym e) p.1, ap formula_words e ∙ p.2)

  effect_is : 1 ≤ n → n ≤ 64 → (e : Effect) × EffectWithin n e × (effect_words e ≡ ws) → EffectWithin n (effect_of ws) × (effect_words (effect_of ws) ≡ ws)
  effect_is some narrow p =
      let e : effect_of ws ≡ p.0 = ap (λ xs. effect_of xs) (sym p.2) ∙ effect_of_words p.0 (effect_below_more n (2 ^ 28) p.0 (omega arith) p.1.below) in
      (subst (λ x. EffectWithin n x) (sym e) p.1, ap effect_words e ∙ p.2)

  pub parts_are_read : PartsAreRead n ws
  parts_are_read = record {
    formula = λ some narrow filled short e. formula_is some narrow ((parts_render_trees n ws).formula some narrow filled short e);
    formula_only = λ f b e. ap (λ xs. formula_of xs) (sym e) ∙ formula_of_words f b;
    effect = λ some narrow filled short e. effect_is some narrow ((parts_render_trees n ws).effect some narrow filled short e);
    effect_only = λ x b e. ap (λ xs. effect_of xs) (sym e) ∙ effect_of_words x b;
  }
