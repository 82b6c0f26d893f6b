-- A whole effect, word by word.
use Rattle.std.proofs.Common.{◌≡◌, ℕ, ◌+◌, ◌^◌, ◌<◌, ◌≤◌, true, List, [], ◌∷◌, ◌++◌, length, get_or, drop, Some, None, Option, sym, refl, subst, ap₂, arith}
use Rattle.std.proofs.lemmas.List.{drop_more, drop_all, append-nil}
use Rattle.words.specs.declared.kind.Kind.{Kind}
use Rattle.words.specs.declared.kind.Kind.TheVariants as kind
use Rattle.words.specs.Words.{word, kind_of, load_of}
use Rattle.words.proofs.Joining.{kind_of_word, load_of_word}
use Rattle.planning.specs.Tree.{Formula, Effect, NIL, SET, CLEAR, BOTH, WHEN}
use Rattle.planning.specs.Render.{formula_words, effect_words}
use Rattle.planning.specs.Limits.{FormulaBelow, EffectBelow, formula_depth, effect_depth}
use Rattle.planning.specs.declared.change.Change.{Change}
use Rattle.valuing.specs.declared.change.Doing.TheVariants.{Condition}
use Rattle.valuing.specs.Makings.{making_of, Ready}
use Rattle.waiting.specs.Waits.{newest}
use Rattle.valuing.specs.Changing.{change_in, doing_of, word_doing, EffectReady, formulas_after, effects_after, EffectRuns, ChangesStand, Waits}
use Rattle.reading.specs.Parts.{is_effect, effect_of}
use Rattle.reading.proofs.PartTrees.{two}
use Rattle.valuing.proofs.Rendering.{formula_on, effect_part}
use Rattle.valuing.proofs.Walked.{none, Walked}

-- what waits stands for formulas and effects, from which the words that are left lead to e
pub record Leading (n s : ℕ) (ws vs : List ℕ) (cs : List Change) (e : Effect) : Type 0 where
  pub st : List Formula
  pub es : List Effect
  pub waits : Waits n s vs cs st es
  pub runs : EffectRuns n ws st es e

abbrev pub Round : (n s : ℕ) (words vs : List ℕ) (cs : List Change) (i : ℕ) → Type 0
Round n s words vs cs i = (e : Effect) → EffectRuns n words [] [] e → Leading n s (drop i words) vs cs e

module _ (n s : ℕ) (words vs : List ℕ) (cs : List Change) (i : ℕ) (t : Round n s words vs cs i) (lt : i < length words) where
  next : (e : Effect) → EffectRuns n words [] [] e → Leading n s (get_or words i 0 ∷ drop (i + 1) words) vs cs e
  next e r = subst (λ ws. Leading n s ws vs cs e) (drop_more words i 0 lt) (t e r)

  pub not_refused : ((st : List Formula) (es : List Effect) → Waits n s vs cs st es → EffectReady n (word_doing (get_or words i 0)) st es → ⊥) → (e : Effect) → EffectRuns n words [] [] e → ⊥
  not_refused a e r = let l = next e r in a l.st l.es l.waits l.runs.0

  pub again : (vs' : List ℕ) (cs' : List Change) → Walked n s (word_doing (get_or words i 0)) vs vs' cs cs' → Round n s words vs' cs' (i + 1)
  again vs' cs' walked e r =
      let l = next e r in
      record {
        st = formulas_after (word_doing (get_or words i 0)) l.st;
        es = effects_after (word_doing (get_or words i 0)) l.st l.es;
        waits = walked l.st l.es l.waits l.runs.0;
        runs = l.runs.1;
      }

one_stands : (n s : ℕ) (cs : List Change) (e : Effect) → ChangesStand n s cs (e ∷ []) → newest none cs ≡ change_in n s e
one_stands n s [] e h = absurd h
one_stands n s (c ∷ cs) e h = h.0

pub changed : (n s : ℕ) (words vs : List ℕ) (cs : List Change) (i : ℕ) → Round n s words vs cs i → length words ≤ i → (e : Effect) → EffectRuns n words [] [] e → newest none cs ≡ change_in n s e
changed n s words vs cs i t over e r =
    let l : Leading n s [] vs cs e = subst (λ ws. Leading n s ws vs cs e) (drop_all i words over) (t e r) in
    one_stands n s cs e (subst (λ es. ChangesStand n s cs es) l.runs l.waits.changes)

-- a word of that kind and load
word_is : (k : Kind) (l : ℕ) → l < 2 ^ 28 → word_doing (word k l) ≡ doing_of (Some k) l
word_is k l h = ap₂ doing_of (kind_of_word k l h) (load_of_word k l h)

-- a word that is ready as one of a formula is one of a condition
condition_doing : (n : ℕ) (o : Option Kind) (l : ℕ) (st : List Formula) → Ready n (making_of o l) st → doing_of o l ≡ Condition (making_of o l)
condition_doing n None l st h = absurd h
condition_doing n (Some kind.True) l st h = refl
condition_doing n (Some kind.False) l st h = refl
condition_doing n (Some kind.Var) l st h = refl
condition_doing n (Some kind.Not) l st h = refl
condition_doing n (Some kind.And) l st h = refl
condition_doing n (Some kind.Or) l st h = refl
condition_doing n (Some kind.Nil) l st h = absurd h
condition_doing n (Some kind.Set) l st h = absurd h
condition_doing n (Some kind.Clear) l st h = absurd h
condition_doing n (Some kind.Both) l st h = absurd h
condition_doing n (Some kind.When) l st h = absurd h
condition_doing n (Some kind.Head) l st h = absurd h
condition_doing n (Some kind.On) l st h = absurd h
condition_doing n (Some kind.Part) l st h = absurd h

condition_on : (n : ℕ) (f : Formula) (rest : List ℕ) (st : List Formula) (es : List Effect) (end : Effect) → n ≤ 64 → FormulaBelow n f → length st + formula_depth f ≤ 64
    → EffectRuns n rest (f ∷ st) es end → EffectRuns n (formula_words f ++ rest) st es end
condition_on n f rest st es end k b d r =
    formula_on n k (λ ws fs. EffectRuns n ws fs es end)
    (λ w ws fs h q. subst (λ x. EffectReady n x fs es × EffectRuns n ws (formulas_after x fs) (effects_after x fs es) end) (sym (condition_doing n (kind_of w) (load_of w) fs h)) (h, q))
    f rest st b d r

effect_on : (n : ℕ) (e : Effect) (rest : List ℕ) (st : List Formula) (es : List Effect) (end : Effect) → n ≤ 64 → EffectBelow n e → length st + length es + effect_depth e ≤ 64
    → EffectRuns n rest st (e ∷ es) end → EffectRuns n (effect_words e ++ rest) st es end
effect_on n NIL rest st es end k b d r = (omega arith, r)
effect_on n (SET v) rest st es end k b d r =
    subst (λ x. EffectReady n x st es × EffectRuns n rest (formulas_after x st) (effects_after x st es) end) (sym (word_is kind.Set v (omega arith))) ((omega arith, b), r)
effect_on n (CLEAR v) rest st es end k b d r =
    subst (λ x. EffectReady n x st es × EffectRuns n rest (formulas_after x st) (effects_after x st es) end) (sym (word_is kind.Clear v (omega arith))) ((omega arith, b), r)
effect_on n (BOTH a e) rest st es end k b d r =
    subst (λ ws. EffectRuns n ws st es end) (sym (two (effect_words a) (effect_words e) (word kind.Both 0) rest))
    (effect_on n a (effect_words e ++ (word kind.Both 0 ∷ rest)) st es end k b.0 (omega arith)
    (effect_on n e (word kind.Both 0 ∷ rest) st (a ∷ es) end k b.1 (omega arith) (omega arith, r)))
effect_on n (WHEN c e) rest st es end k b d r =
    subst (λ ws. EffectRuns n ws st es end) (sym (two (formula_words c) (effect_words e) (word kind.When 0) rest))
    (condition_on n c (effect_words e ++ (word kind.When 0 ∷ rest)) st es end k b.0 (omega arith)
    (effect_on n e (word kind.When 0 ∷ rest) (c ∷ st) es end k b.1 (omega arith) ((omega arith, omega arith), r)))

pub effect_runs : (n : ℕ) (e : Effect) → n ≤ 64 → EffectBelow n e → effect_depth e ≤ 64 → EffectRuns n (effect_words e) [] [] e
effect_runs n e k b d = subst (λ ws. EffectRuns n ws [] [] e) (append-nil (effect_words e)) (effect_on n e [] [] [] e k b (omega arith) refl)

-- the words of a part
pub effect_part_runs : (n : ℕ) (ws : List ℕ) → 1 ≤ n → n ≤ 64 → 1 ≤ length ws → length ws ≤ 4096 → is_effect n ws ≡ true → EffectRuns n ws [] [] (effect_of ws)
effect_part_runs n ws some narrow filled short formed =
    let p = effect_part n ws some narrow filled short formed in
    subst (λ xs. EffectRuns n xs [] [] (effect_of ws)) p.1 (effect_runs n (effect_of ws) narrow p.0.below p.0.shallow)
