-- The words of a formula can be worked out and leave it; so can those of an effect, read as a condition's.
use Rattle.std.proofs.Common.{◌≡◌, ℕ, ◌+◌, ◌^◌, ◌<◌, ◌≤◌, true, List, [], ◌∷◌, ◌++◌, map, length, sym, refl, subst, ap₂, arith}
use Rattle.std.proofs.lemmas.List.{append-nil, append_assoc}
use Rattle.words.specs.declared.kind.Kind.TheVariants as kind
use Rattle.words.specs.Words.{word}
use Rattle.words.proofs.Joining.{kind_of_word, load_of_word}
use Rattle.planning.specs.Tree.{Formula, TRUE, FALSE, VAR, NOT, AND, OR, Effect}
use Rattle.planning.specs.Render.{formula_words, effect_words}
use Rattle.planning.specs.Limits.{FormulaBelow, EffectBelow, formula_depth, effect_depth, FormulaWithin, EffectWithin}
use Rattle.planning.specs.ChangeSet.{EC}
use Rattle.planning.specs.ChangeWords.{changed_word}
use Rattle.planning.proofs.Leading.{condition_below}
use Rattle.planning.proofs.Wording.{effect_below_more, condition_words, condition_depth}
use Rattle.reading.specs.Parts.{formula_fault, effect_fault, is_formula, is_effect, formula_of, effect_of}
use Rattle.reading.proofs.PartsRead.{parts_are_read}
use Rattle.reading.proofs.PartTrees.{two}
use Rattle.tasks.proofs.Walking.{none_is}
use Rattle.valuing.specs.declared.making.Literal.{Literal}
use Rattle.valuing.specs.declared.making.Making.TheVariants.{Variable}
use Rattle.valuing.specs.declared.making.Reading.TheVariants as reading
use Rattle.valuing.specs.Makings.{making_of, literal_of, word_making, Ready, after, Runs}

variable_making : (v : ℕ) → v < 2 ^ 28 → word_making reading.Formula (word kind.Var v) ≡ Variable v
variable_making v h = ap₂ making_of (kind_of_word kind.Var v h) (load_of_word kind.Var v h)

-- whatever goes on over a word of a formula that is ready goes on over the words of a formula
module _ (n : ℕ) (k : n ≤ 64) (R : List ℕ → List Formula → Type 0)
    (word_on : (w : ℕ) (ws : List ℕ) (st : List Formula) → Ready n (word_making reading.Formula w) st → R ws (after (word_making reading.Formula w) st) → R (w ∷ ws) st) where
  pub formula_on : (f : Formula) (rest : List ℕ) (st : List Formula) → FormulaBelow n f → length st + formula_depth f ≤ 64 → R rest (f ∷ st) → R (formula_words f ++ rest) st
  formula_on TRUE rest st b d r = word_on (word kind.True 0) rest st (omega arith) r
  formula_on FALSE rest st b d r = word_on (word kind.False 0) rest st (omega arith) r
  formula_on (VAR v) rest st b d r =
      let is : Variable v ≡ word_making reading.Formula (word kind.Var v) = sym (variable_making v (omega arith)) in
      word_on (word kind.Var v) rest st (subst (λ m. Ready n m st) is (omega arith, b)) (subst (λ m. R rest (after m st)) is r)
  formula_on (NOT f) rest st b d r =
      subst (λ ws. R ws st) (sym (append_assoc (formula_words f) (word kind.Not 0 ∷ []) rest))
      (formula_on f (word kind.Not 0 ∷ rest) st b d (word_on (word kind.Not 0) rest (f ∷ st) (omega arith) r))
  formula_on (AND f g) rest st b d r =
      subst (λ ws. R ws st) (sym (two (formula_words f) (formula_words g) (word kind.And 0) rest))
      (formula_on f (formula_words g ++ (word kind.And 0 ∷ rest)) st b.0 (omega arith)
      (formula_on g (word kind.And 0 ∷ rest) (f ∷ st) b.1 (omega arith) (word_on (word kind.And 0) rest (g ∷ f ∷ st) (omega arith) r)))
  formula_on (OR f g) rest st b d r =
      subst (λ ws. R ws st) (sym (two (formula_words f) (formula_words g) (word kind.Or 0) rest))
      (formula_on f (formula_words g ++ (word kind.Or 0 ∷ rest)) st b.0 (omega arith)
      (formula_on g (word kind.Or 0 ∷ rest) (f ∷ st) b.1 (omega arith) (word_on (word kind.Or 0) rest (g ∷ f ∷ st) (omega arith) r)))

pub formula_runs : (width : ℕ) (f : Formula) → width ≤ 64 → FormulaBelow width f → formula_depth f ≤ 64 → Runs width reading.Formula (formula_words f) [] f
formula_runs width f n b d = subst (λ ws. Runs width reading.Formula ws [] f) (append-nil (formula_words f)) (formula_on width n (λ ws st. Runs width reading.Formula ws st f) (λ w ws st h r. (h, r)) f [] [] b (omega arith) refl)

-- read as a condition's, the words are the changed ones
changed_runs : (width : ℕ) (l : Literal) (ws : List ℕ) (st : List Formula) (f : Formula) → Runs width reading.Formula (map (changed_word (literal_of l)) ws) st f → Runs width (reading.Condition l) ws st f
changed_runs width l [] st f r = r
changed_runs width l (w ∷ ws) st f r = (r.0, changed_runs width l ws (after (word_making (reading.Condition l) w) st) f r.1)

pub condition_runs : (width : ℕ) (l : Literal) (e : Effect) → width ≤ 64 → EffectBelow width e → effect_depth e ≤ 64 → Runs width (reading.Condition l) (effect_words e) [] (EC (literal_of l) e)
condition_runs width l e n b d =
    let f = EC (literal_of l) e in
    let deep : formula_depth f ≤ 64 = subst (λ k. k ≤ 64) (sym (condition_depth (literal_of l) e)) d in
    let words : formula_words f ≡ map (changed_word (literal_of l)) (effect_words e) = condition_words (literal_of l) e (effect_below_more width (2 ^ 28) e (omega arith) b) in
    changed_runs width l (effect_words e) [] f (subst (λ ws. Runs width reading.Formula ws [] f) words (formula_runs width f n (condition_below width (literal_of l) e b) deep))

-- the words of a part
module _ (width : ℕ) (ws : List ℕ) (some : 1 ≤ width) (narrow : width ≤ 64) (filled : 1 ≤ length ws) (short : length ws ≤ 4096) where
  pub formula_part : is_formula width ws ≡ true → FormulaWithin width (formula_of ws) × (formula_words (formula_of ws) ≡ ws)
  formula_part h = (parts_are_read width ws).formula some narrow filled short (none_is (formula_fault width ws) h)

  pub effect_part : is_effect width ws ≡ true → EffectWithin width (effect_of ws) × (effect_words (effect_of ws) ≡ ws)
  effect_part h = (parts_are_read width ws).effect some narrow filled short (none_is (effect_fault width ws) h)

  pub formula_part_runs : is_formula width ws ≡ true → Runs width reading.Formula ws [] (formula_of ws)
  formula_part_runs h =
      let p = formula_part h in
      subst (λ xs. Runs width reading.Formula xs [] (formula_of ws)) p.1 (formula_runs width (formula_of ws) narrow p.0.below p.0.shallow)

  pub condition_part_runs : (l : Literal) → is_effect width ws ≡ true → Runs width (reading.Condition l) ws [] (EC (literal_of l) (effect_of ws))
  condition_part_runs l h =
      let p = effect_part h in
      subst (λ xs. Runs width (reading.Condition l) xs [] (EC (literal_of l) (effect_of ws))) p.1 (condition_runs width l (effect_of ws) narrow p.0.below p.0.shallow)
