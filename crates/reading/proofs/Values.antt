-- The values that wait while a part is read, as trees, and what a word makes of them.
-- Assumes nothing.
use Rattle.std.proofs.Common.{◌≡◌, ℕ, ◌+◌, ◌≤◌, Bool, true, false, not, ◌&&◌, eqb, ltb, leb, List, [], ◌∷◌, ◌++◌, map, length, Some, sym, refl, ap, ◌∙◌, subst, arith}
use Rattle.std.proofs.lemmas.List.{append_assoc, length-map}
use Rattle.std.proofs.lemmas.Bool.{eqb-true, leb-false, ltb-false, not-false, true≢false}
use Rattle.words.specs.declared.kind.Kind.{Kind}
use Rattle.words.specs.declared.kind.Kind.TheVariants.{True, False, Var, Not, And, Or, Nil, Set, Clear, Both, When, Head, On, Part}
use Rattle.words.specs.Words.{word}
use Rattle.planning.specs.Tree.{TRUE, FALSE, VAR, NIL, SET, CLEAR}
use Rattle.planning.specs.Render.{formula_words, effect_words}
use Rattle.planning.specs.Limits.{FormulaBelow, EffectBelow, formula_depth, effect_depth}
use Rattle.reading.specs.declared.section.Sort.{Sort}
use Rattle.reading.specs.declared.section.Sort.TheVariants as sort
use Rattle.reading.specs.Senses.{gives, load_sense, is_zero_load, is_variable, waiting_after}
use Rattle.reading.specs.Rules.{allowed_in, bad_values, over_64}
use Rattle.reading.specs.Trees.{Value, formula, effect, values_after}

abbrev pub value_sort : Value → Sort
value_sort (formula f) = sort.Formula
value_sort (effect e) = sort.Effect

abbrev pub value_words : Value → List ℕ
value_words (formula f) = formula_words f
value_words (effect e) = effect_words e

abbrev pub value_depth : Value → ℕ
value_depth (formula f) = formula_depth f
value_depth (effect e) = effect_depth e

abbrev pub ValueBelow : ℕ → Value → Type 0
ValueBelow n (formula f) = FormulaBelow n f
ValueBelow n (effect e) = EffectBelow n e

-- the words of the values that wait, the newest last
abbrev pub written : List Value → List ℕ
written [] = []
written (v ∷ vs) = written vs ++ value_words v

-- each value is over n variables, and it and those below it were never more than 64
abbrev pub Stacked : ℕ → List Value → Type 0
Stacked n [] = Unit {0}
Stacked n (v ∷ vs) = (ValueBelow n v × (length vs + value_depth v ≤ 64)) × Stacked n vs

-- what a word makes of the values that wait
pub record Applied (n : ℕ) (j : Kind) (l : ℕ) (vs : List Value) : Type 0 where
  pub sorts : waiting_after j (map value_sort vs) ≡ Some (map value_sort (values_after j l vs))
  pub words : written (values_after j l vs) ≡ written vs ++ (word j l ∷ [])
  pub stacked : Stacked n (values_after j l vs)

no : true ≡ false → ⊥
no e = true≢false e

zero_of : (l : ℕ) → not (eqb l 0) ≡ false → l ≡ 0
zero_of l e = eqb-true l 0 (not-false (eqb l 0) e)

-- a leaf: one value more
leaf : (n : ℕ) (j : Kind) (l : ℕ) (vs : List Value) (v : Value) → values_after j l vs ≡ v ∷ vs → waiting_after j (map value_sort vs) ≡ Some (value_sort v ∷ map value_sort vs) → value_words v ≡ word j l ∷ [] → value_depth v ≡ 1 → ValueBelow n v → Stacked n vs → ltb 64 (length (value_sort v ∷ map value_sort vs)) ≡ false → Applied n j l vs
leaf n j l vs v e sorts words depth below st few = record {
  sorts = sorts ∙ ap (λ us. Some (map value_sort us)) (sym e);
  words = ap written e ∙ ap (λ ws. written vs ++ ws) words;
  stacked = subst (Stacked n) (sym e) ((below, omega (arith, ltb-false 64 _ few, length-map vs value_sort, depth)), st);
}

-- two operands to one value
two : (before first second : List ℕ) (w : ℕ) → before ++ (first ++ (second ++ (w ∷ []))) ≡ ((before ++ first) ++ second) ++ (w ∷ [])
two before first second w = sym (append_assoc (before ++ first) second (w ∷ []) ∙ append_assoc before first (second ++ (w ∷ [])))

at_load : (j : Kind) (l : ℕ) (ws : List ℕ) → l ≡ 0 → ws ++ (word j 0 ∷ []) ≡ ws ++ (word j l ∷ [])
at_load j l ws e = ap (λ x. ws ++ (word j x ∷ [])) (sym e)

module _ (n l : ℕ) (last : Bool) (wanted : Sort) where
  -- the hypotheses say that no rule on operands, values or loads refuses the word
  pub applied : (j : Kind) (vs : List Value) → Stacked n vs → allowed_in wanted (gives j) ≡ true → (is_zero_load (load_sense j) && not (eqb l 0)) ≡ false → (is_variable (load_sense j) && leb n l) ≡ false → bad_values last wanted (waiting_after j (map value_sort vs)) ≡ false → over_64 (waiting_after j (map value_sort vs)) ≡ false → Applied n j l vs
  applied True vs st ok z b v few = leaf n True l vs (formula TRUE) refl refl (ap (λ x. word True x ∷ []) (sym (zero_of l z))) refl tt st few
  applied False vs st ok z b v few = leaf n False l vs (formula FALSE) refl refl (ap (λ x. word False x ∷ []) (sym (zero_of l z))) refl tt st few
  applied Var vs st ok z b v few = leaf n Var l vs (formula (VAR l)) refl refl refl refl (leb-false n l b) st few
  applied Nil vs st ok z b v few = leaf n Nil l vs (effect NIL) refl refl (ap (λ x. word Nil x ∷ []) (sym (zero_of l z))) refl tt st few
  applied Set vs st ok z b v few = leaf n Set l vs (effect (SET l)) refl refl refl refl (leb-false n l b) st few
  applied Clear vs st ok z b v few = leaf n Clear l vs (effect (CLEAR l)) refl refl refl refl (leb-false n l b) st few
  applied Not [] st ok z b v few = absurd (no v)
  applied Not (effect e ∷ vs) st ok z b v few = absurd (no v)
  applied Not (formula f ∷ vs) st ok z b v few = record {
    sorts = refl;
    words = sym (append_assoc (written vs) (formula_words f) (word Not 0 ∷ [])) ∙ at_load Not l (written vs ++ formula_words f) (zero_of l z);
    stacked = st;
  }
  applied And [] st ok z b v few = absurd (no v)
  applied And (effect e ∷ vs) st ok z b v few = absurd (no v)
  applied And (formula g ∷ []) st ok z b v few = absurd (no v)
  applied And (formula g ∷ effect e ∷ vs) st ok z b v few = absurd (no v)
  applied And (formula g ∷ formula f ∷ vs) st ok z b v few = record {
    sorts = refl;
    words = two (written vs) (formula_words f) (formula_words g) (word And 0) ∙ at_load And l ((written vs ++ formula_words f) ++ formula_words g) (zero_of l z);
    stacked = (((st.1.0.0, st.0.0), omega (arith, st.0.1, st.1.0.1)), st.1.1);
  }
  applied Or [] st ok z b v few = absurd (no v)
  applied Or (effect e ∷ vs) st ok z b v few = absurd (no v)
  applied Or (formula g ∷ []) st ok z b v few = absurd (no v)
  applied Or (formula g ∷ effect e ∷ vs) st ok z b v few = absurd (no v)
  applied Or (formula g ∷ formula f ∷ vs) st ok z b v few = record {
    sorts = refl;
    words = two (written vs) (formula_words f) (formula_words g) (word Or 0) ∙ at_load Or l ((written vs ++ formula_words f) ++ formula_words g) (zero_of l z);
    stacked = (((st.1.0.0, st.0.0), omega (arith, st.0.1, st.1.0.1)), st.1.1);
  }
  applied Both [] st ok z b v few = absurd (no v)
  applied Both (formula e ∷ vs) st ok z b v few = absurd (no v)
  applied Both (effect g ∷ []) st ok z b v few = absurd (no v)
  applied Both (effect g ∷ formula e ∷ vs) st ok z b v few = absurd (no v)
  applied Both (effect g ∷ effect f ∷ vs) st ok z b v few = record {
    sorts = refl;
    words = two (written vs) (effect_words f) (effect_words g) (word Both 0) ∙ at_load Both l ((written vs ++ effect_words f) ++ effect_words g) (zero_of l z);
    stacked = (((st.1.0.0, st.0.0), omega (arith, st.0.1, st.1.0.1)), st.1.1);
  }
  applied When [] st ok z b v few = absurd (no v)
  applied When (formula e ∷ vs) st ok z b v few = absurd (no v)
  applied When (effect g ∷ []) st ok z b v few = absurd (no v)
  applied When (effect g ∷ effect e ∷ vs) st ok z b v few = absurd (no v)
  applied When (effect g ∷ formula f ∷ vs) st ok z b v few = record {
    sorts = refl;
    words = two (written vs) (formula_words f) (effect_words g) (word When 0) ∙ at_load When l ((written vs ++ formula_words f) ++ effect_words g) (zero_of l z);
    stacked = (((st.1.0.0, st.0.0), omega (arith, st.0.1, st.1.0.1)), st.1.1);
  }
  applied Head vs st ok z b v few = absurd (no (sym ok))
  applied On vs st ok z b v few = absurd (no (sym ok))
  applied Part vs st ok z b v few = absurd (no (sym ok))
