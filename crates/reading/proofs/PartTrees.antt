-- The words of a formula, or of an effect, are read into it alone.
-- Assumes nothing.
use Rattle.std.proofs.Common.{◌≡◌, ℕ, ◌^◌, ◌<◌, List, [], ◌∷◌, ◌++◌, sym, ap, ◌∙◌, arith}
use Rattle.std.proofs.lemmas.List.{append-nil, append_assoc}
use Rattle.words.specs.declared.kind.Kind.{Kind}
use Rattle.words.specs.declared.kind.Kind.TheVariants.{True, False, Var, Not, And, Or, Nil, Set, Clear, Both, When}
use Rattle.words.specs.Words.{word}
use Rattle.words.proofs.Joining.{kind_of_word, load_of_word}
use Rattle.planning.specs.Tree.{Formula, TRUE, FALSE, VAR, NOT, AND, OR, Effect, NIL, SET, CLEAR, BOTH, WHEN}
use Rattle.planning.specs.Render.{formula_words, effect_words}
use Rattle.planning.specs.Limits.{FormulaBelow, EffectBelow}
use Rattle.reading.specs.Parts.{part_values, formula_of, effect_of}
use Rattle.reading.specs.Trees.{Value, formula, effect, as_formula, as_effect, newest, values_after}

past : (k : Kind) (l : ℕ) (vs : List Value) (ws : List ℕ) → l < 2 ^ 28 → part_values vs (word k l ∷ ws) ≡ part_values (values_after k l vs) ws
past k l vs ws h = rw (kind_of_word k l h, load_of_word k l h)

-- two operands, and the word that takes them
pub two : (xs ys : List ℕ) (w : ℕ) (ws : List ℕ) → (xs ++ (ys ++ (w ∷ []))) ++ ws ≡ xs ++ (ys ++ (w ∷ ws))
two xs ys w ws = simp append_assoc

pub formula_values : (f : Formula) (vs : List Value) (ws : List ℕ) → FormulaBelow (2 ^ 28) f → part_values vs (formula_words f ++ ws) ≡ part_values (formula f ∷ vs) ws
formula_values TRUE vs ws b = past True 0 vs ws (omega arith)
formula_values FALSE vs ws b = past False 0 vs ws (omega arith)
formula_values (VAR v) vs ws b = past Var v vs ws b
formula_values (NOT f) vs ws b = ap (part_values vs) (append_assoc (formula_words f) (word Not 0 ∷ []) ws) ∙ formula_values f vs (word Not 0 ∷ ws) b ∙ past Not 0 (formula f ∷ vs) ws (omega arith)
formula_values (AND f g) vs ws b =
    ap (part_values vs) (two (formula_words f) (formula_words g) (word And 0) ws) ∙ formula_values f vs (formula_words g ++ (word And 0 ∷ ws)) b.0
    ∙ formula_values g (formula f ∷ vs) (word And 0 ∷ ws) b.1 ∙ past And 0 (formula g ∷ formula f ∷ vs) ws (omega arith)
formula_values (OR f g) vs ws b =
    ap (part_values vs) (two (formula_words f) (formula_words g) (word Or 0) ws) ∙ formula_values f vs (formula_words g ++ (word Or 0 ∷ ws)) b.0
    ∙ formula_values g (formula f ∷ vs) (word Or 0 ∷ ws) b.1 ∙ past Or 0 (formula g ∷ formula f ∷ vs) ws (omega arith)

pub effect_values : (e : Effect) (vs : List Value) (ws : List ℕ) → EffectBelow (2 ^ 28) e → part_values vs (effect_words e ++ ws) ≡ part_values (effect e ∷ vs) ws
effect_values NIL vs ws b = past Nil 0 vs ws (omega arith)
effect_values (SET v) vs ws b = past Set v vs ws b
effect_values (CLEAR v) vs ws b = past Clear v vs ws b
effect_values (BOTH d e) vs ws b =
    ap (part_values vs) (two (effect_words d) (effect_words e) (word Both 0) ws) ∙ effect_values d vs (effect_words e ++ (word Both 0 ∷ ws)) b.0
    ∙ effect_values e (effect d ∷ vs) (word Both 0 ∷ ws) b.1 ∙ past Both 0 (effect e ∷ effect d ∷ vs) ws (omega arith)
effect_values (WHEN c e) vs ws b =
    ap (part_values vs) (two (formula_words c) (effect_words e) (word When 0) ws) ∙ formula_values c vs (effect_words e ++ (word When 0 ∷ ws)) b.0
    ∙ effect_values e (formula c ∷ vs) (word When 0 ∷ ws) b.1 ∙ past When 0 (effect e ∷ formula c ∷ vs) ws (omega arith)

pub formula_of_words : (f : Formula) → FormulaBelow (2 ^ 28) f → formula_of (formula_words f) ≡ f
formula_of_words f b = ap (λ ws. formula_of ws) (sym (append-nil (formula_words f))) ∙ ap (λ vs. as_formula (newest vs)) (formula_values f [] [] b)

pub effect_of_words : (e : Effect) → EffectBelow (2 ^ 28) e → effect_of (effect_words e) ≡ e
effect_of_words e b = ap (λ ws. effect_of ws) (sym (append-nil (effect_words e))) ∙ ap (λ vs. as_effect (newest vs)) (effect_values e [] [] b)
