-- The words of conditions.
use Rattle.std.proofs.Common.{◌≡◌, ℕ, ◌+◌, ◌^◌, ◌<◌, ◌≤◌, max, Bool, true, false, [], ◌∷◌, ◌++◌, map, length, Some, sym, refl, ap, ◌∙◌, ap₂, arith}
use Rattle.std.proofs.lemmas.Nat.{div-mul-add, mod-mul-add}
use Rattle.std.proofs.lemmas.List.{map-append, length-append}
use Rattle.words.specs.declared.kind.Kind.{Kind}
use Rattle.words.specs.declared.kind.Kind.TheVariants.{True, False, Var, Not, And, Or, Nil, Set, Clear, Both, When, Head, On, Part}
use Rattle.words.specs.Words.{word, kind_number, kind_named, kind_of, load_of}
use Rattle.planning.specs.Tree.{Formula, TRUE, FALSE, VAR, NOT, AND, OR, Effect, NIL, SET, CLEAR, BOTH, WHEN}
use Rattle.planning.specs.Render.{formula_words, effect_words}
use Rattle.planning.specs.Limits.{FormulaBelow, EffectBelow, formula_depth, effect_depth}
use Rattle.planning.specs.ChangeSet.{Literal, is, isnt, same, constant, EC}
use Rattle.planning.specs.ChangeWords.{constant_word, changed_as, changed_word}

-- a larger bound
pub formula_below_more : (m n : ℕ) (f : Formula) → m ≤ n → FormulaBelow m f → FormulaBelow n f
formula_below_more m n TRUE h k = tt
formula_below_more m n FALSE h k = tt
formula_below_more m n (VAR v) h k = omega arith
formula_below_more m n (NOT f) h k = formula_below_more m n f h k
formula_below_more m n (AND f g) h k = (formula_below_more m n f h k.0, formula_below_more m n g h k.1)
formula_below_more m n (OR f g) h k = (formula_below_more m n f h k.0, formula_below_more m n g h k.1)

pub effect_below_more : (m n : ℕ) (e : Effect) → m ≤ n → EffectBelow m e → EffectBelow n e
effect_below_more m n NIL h k = tt
effect_below_more m n (SET v) h k = omega arith
effect_below_more m n (CLEAR v) h k = omega arith
effect_below_more m n (BOTH d e) h k = (effect_below_more m n d h k.0, effect_below_more m n e h k.1)
effect_below_more m n (WHEN c e) h k = (formula_below_more m n c h k.0, effect_below_more m n e h k.1)

-- a word gives its kind and its load back
named_number : (k : Kind) → kind_named (kind_number k) ≡ Some k
named_number True = refl
named_number False = refl
named_number Var = refl
named_number Not = refl
named_number And = refl
named_number Or = refl
named_number Nil = refl
named_number Set = refl
named_number Clear = refl
named_number Both = refl
named_number When = refl
named_number Head = refl
named_number On = refl
named_number Part = refl

pub kind_word : (k : Kind) (load : ℕ) → load < 2 ^ 28 → kind_of (word k load) ≡ Some k
kind_word k load h = ap kind_named (div-mul-add (kind_number k) (2 ^ 28) load h) ∙ named_number k

pub load_word : (k : Kind) (load : ℕ) → load < 2 ^ 28 → load_of (word k load) ≡ load
load_word k load h = mod-mul-add (kind_number k) (2 ^ 28) load h

module _ (l : Literal) where
  changed_at : (k : Kind) (load : ℕ) → load < 2 ^ 28 → changed_word l (word k load) ≡ changed_as l (Some k) (word k load)
  changed_at k load h = ap (λ q. changed_as l q (word k load)) (kind_word k load h)

  -- the words of a formula stay
  formula_kept : (f : Formula) → FormulaBelow (2 ^ 28) f → map (changed_word l) (formula_words f) ≡ formula_words f
  formula_kept TRUE h = refl
  formula_kept FALSE h = refl
  formula_kept (VAR v) h = ap (λ w. w ∷ []) (changed_at Var v h)
  formula_kept (NOT f) h = map-append (changed_word l) (formula_words f) (word Not 0 ∷ []) ∙ ap (λ ws. ws ++ (word Not 0 ∷ [])) (formula_kept f h)
  formula_kept (AND f g) h =
      map-append (changed_word l) (formula_words f) (formula_words g ++ (word And 0 ∷ []))
      ∙ ap₂ ◌++◌ (formula_kept f h.0) (map-append (changed_word l) (formula_words g) (word And 0 ∷ []) ∙ ap (λ ws. ws ++ (word And 0 ∷ [])) (formula_kept g h.1))
  formula_kept (OR f g) h =
      map-append (changed_word l) (formula_words f) (formula_words g ++ (word Or 0 ∷ []))
      ∙ ap₂ ◌++◌ (formula_kept f h.0) (map-append (changed_word l) (formula_words g) (word Or 0 ∷ []) ∙ ap (λ ws. ws ++ (word Or 0 ∷ [])) (formula_kept g h.1))

  constant_words : (b : Bool) → formula_words (constant b) ≡ constant_word b ∷ []
  constant_words true = refl
  constant_words false = refl

  pub condition_words : (e : Effect) → EffectBelow (2 ^ 28) e → formula_words (EC l e) ≡ map (changed_word l) (effect_words e)
  condition_words NIL h = refl
  condition_words (SET v) h =
      constant_words (same (is v) l)
      ∙ ap (λ w. w ∷ []) (sym (changed_at Set v h ∙ ap (λ x. constant_word (same (is x) l)) (load_word Set v h)))
  condition_words (CLEAR v) h =
      constant_words (same (isnt v) l)
      ∙ ap (λ w. w ∷ []) (sym (changed_at Clear v h ∙ ap (λ x. constant_word (same (isnt x) l)) (load_word Clear v h)))
  condition_words (BOTH d e) h =
      ap₂ (λ xs ys. xs ++ (ys ++ (word Or 0 ∷ []))) (condition_words d h.0) (condition_words e h.1)
      ∙ sym (map-append (changed_word l) (effect_words d) (effect_words e ++ (word Both 0 ∷ []))
      ∙ ap (λ ws. map (changed_word l) (effect_words d) ++ ws) (map-append (changed_word l) (effect_words e) (word Both 0 ∷ [])))
  condition_words (WHEN c e) h =
      ap₂ (λ xs ys. xs ++ (ys ++ (word And 0 ∷ []))) (sym (formula_kept c h.0)) (condition_words e h.1)
      ∙ sym (map-append (changed_word l) (formula_words c) (effect_words e ++ (word When 0 ∷ []))
      ∙ ap (λ ws. map (changed_word l) (formula_words c) ++ ws) (map-append (changed_word l) (effect_words e) (word When 0 ∷ [])))

  -- as many words
  constant_count : (b : Bool) → length (formula_words (constant b)) ≡ 1
  constant_count true = refl
  constant_count false = refl

  pub condition_count : (e : Effect) → length (formula_words (EC l e)) ≡ length (effect_words e)
  condition_count NIL = refl
  condition_count (SET v) = constant_count (same (is v) l)
  condition_count (CLEAR v) = constant_count (same (isnt v) l)
  condition_count (BOTH d e) = simp length-append (ap₂ (λ x y. x + (y + 1)) (condition_count d) (condition_count e))
  condition_count (WHEN c e) = simp length-append (ap (λ y. length (formula_words c) + (y + 1)) (condition_count e))

  -- as many values wait
  constant_depth : (b : Bool) → formula_depth (constant b) ≡ 1
  constant_depth true = refl
  constant_depth false = refl

  pub condition_depth : (e : Effect) → formula_depth (EC l e) ≡ effect_depth e
  condition_depth NIL = refl
  condition_depth (SET v) = constant_depth (same (is v) l)
  condition_depth (CLEAR v) = constant_depth (same (isnt v) l)
  condition_depth (BOTH d e) = ap₂ (λ x y. max x (1 + y)) (condition_depth d) (condition_depth e)
  condition_depth (WHEN c e) = ap (λ y. max (formula_depth c) (1 + y)) (condition_depth e)
