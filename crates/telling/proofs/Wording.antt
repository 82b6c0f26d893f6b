-- The words of a formula, or of an effect, have its text.
-- Assumes nothing.
use Rattle.std.proofs.Common.{◌≡◌, ℕ, ◌^◌, ◌<◌, ◌≤◌, true, List, [], ◌∷◌, ◌++◌, length, Some, sym, ap, ◌∙◌, subst, arith}
use Rattle.std.proofs.lemmas.List.{append-nil, append_assoc}
use Rattle.words.specs.declared.kind.Kind.{Kind}
use Rattle.words.specs.declared.kind.Kind.TheVariants.{True, False, Var, Not, And, Or, Nil, Set, Clear, Both, When}
use Rattle.words.specs.Words.{word}
use Rattle.words.proofs.Joining.{kind_of_word, load_of_word}
use Rattle.planning.specs.Tree.{Formula, TRUE, FALSE, VAR, NOT, AND, OR, Effect, NIL, SET, CLEAR, BOTH, WHEN}
use Rattle.planning.specs.Render.{formula_words, effect_words}
use Rattle.planning.specs.Limits.{FormulaBelow, EffectBelow}
use Rattle.planning.proofs.Wording.{formula_below_more, effect_below_more}
use Rattle.reading.specs.Parts.{is_formula, is_effect, formula_of, effect_of}
use Rattle.reading.proofs.PartTrees.{two}
use Rattle.valuing.proofs.Rendering.{formula_part, effect_part}
use Rattle.telling.specs.Formulas.{formula_text, effect_text, newest_text, word_text, texts_left, texts_after}

past : (k : Kind) (l : ℕ) (ts : List (List ℕ)) (ws : List ℕ) → l < 2 ^ 28 → texts_after ts (word k l ∷ ws) ≡ texts_after (word_text (Some k) l ts ∷ texts_left (Some k) ts) ws
past k l ts ws h = rw (kind_of_word k l h, load_of_word k l h)

formula_read : (f : Formula) (ts : List (List ℕ)) (ws : List ℕ) → FormulaBelow (2 ^ 28) f → texts_after ts (formula_words f ++ ws) ≡ texts_after (formula_text f ∷ ts) ws
formula_read TRUE ts ws b = past True 0 ts ws (omega arith)
formula_read FALSE ts ws b = past False 0 ts ws (omega arith)
formula_read (VAR v) ts ws b = past Var v ts ws b
formula_read (NOT f) ts ws b = ap (texts_after ts) (append_assoc (formula_words f) (word Not 0 ∷ []) ws) ∙ formula_read f ts (word Not 0 ∷ ws) b ∙ past Not 0 (formula_text f ∷ ts) ws (omega arith)
formula_read (AND f g) ts ws b =
    ap (texts_after ts) (two (formula_words f) (formula_words g) (word And 0) ws) ∙ formula_read f ts (formula_words g ++ (word And 0 ∷ ws)) b.0
    ∙ formula_read g (formula_text f ∷ ts) (word And 0 ∷ ws) b.1 ∙ past And 0 (formula_text g ∷ formula_text f ∷ ts) ws (omega arith)
formula_read (OR f g) ts ws b =
    ap (texts_after ts) (two (formula_words f) (formula_words g) (word Or 0) ws) ∙ formula_read f ts (formula_words g ++ (word Or 0 ∷ ws)) b.0
    ∙ formula_read g (formula_text f ∷ ts) (word Or 0 ∷ ws) b.1 ∙ past Or 0 (formula_text g ∷ formula_text f ∷ ts) ws (omega arith)

effect_read : (e : Effect) (ts : List (List ℕ)) (ws : List ℕ) → EffectBelow (2 ^ 28) e → texts_after ts (effect_words e ++ ws) ≡ texts_after (effect_text e ∷ ts) ws
effect_read NIL ts ws b = past Nil 0 ts ws (omega arith)
effect_read (SET v) ts ws b = past Set v ts ws b
effect_read (CLEAR v) ts ws b = past Clear v ts ws b
effect_read (BOTH d e) ts ws b =
    ap (texts_after ts) (two (effect_words d) (effect_words e) (word Both 0) ws) ∙ effect_read d ts (effect_words e ++ (word Both 0 ∷ ws)) b.0
    ∙ effect_read e (effect_text d ∷ ts) (word Both 0 ∷ ws) b.1 ∙ past Both 0 (effect_text e ∷ effect_text d ∷ ts) ws (omega arith)
effect_read (WHEN c e) ts ws b =
    ap (texts_after ts) (two (formula_words c) (effect_words e) (word When 0) ws) ∙ formula_read c ts (effect_words e ++ (word When 0 ∷ ws)) b.0
    ∙ effect_read e (formula_text c ∷ ts) (word When 0 ∷ ws) b.1 ∙ past When 0 (effect_text e ∷ formula_text c ∷ ts) ws (omega arith)

-- all words of a formula, and of an effect
pub formula_told : (f : Formula) → FormulaBelow (2 ^ 28) f → newest_text (texts_after [] (formula_words f)) ≡ formula_text f
formula_told f b = ap (λ ws. newest_text (texts_after [] ws)) (sym (append-nil (formula_words f))) ∙ ap newest_text (formula_read f [] [] b)

pub effect_told : (e : Effect) → EffectBelow (2 ^ 28) e → newest_text (texts_after [] (effect_words e)) ≡ effect_text e
effect_told e b = ap (λ ws. newest_text (texts_after [] ws)) (sym (append-nil (effect_words e))) ∙ ap newest_text (effect_read e [] [] b)

-- the words of a part
module _ (width : ℕ) (ws : List ℕ) (some : 1 ≤ width) (narrow : width ≤ 64) (filled : 1 ≤ length ws) (short : length ws ≤ 4096) where
  pub formula_part_told : is_formula width ws ≡ true → newest_text (texts_after [] ws) ≡ formula_text (formula_of ws)
  formula_part_told h =
      let p = formula_part width ws some narrow filled short h in
      subst (λ xs. newest_text (texts_after [] xs) ≡ formula_text (formula_of ws)) p.1 (formula_told (formula_of ws) (formula_below_more width (2 ^ 28) (formula_of ws) (omega arith) p.0.below))

  pub effect_part_told : is_effect width ws ≡ true → newest_text (texts_after [] ws) ≡ effect_text (effect_of ws)
  effect_part_told h =
      let p = effect_part width ws some narrow filled short h in
      subst (λ xs. newest_text (texts_after [] xs) ≡ effect_text (effect_of ws)) p.1 (effect_told (effect_of ws) (effect_below_more width (2 ^ 28) (effect_of ws) (omega arith) p.0.below))
