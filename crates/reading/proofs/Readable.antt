-- The words of a value are read without a fault, and into that value.
-- Assumes nothing.
use Rattle.std.proofs.Common.{◌≡◌, ℕ, suc, ◌+◌, ◌-◌, ◌^◌, ◌<◌, ◌≤◌, max, true, false, not, ◌&&◌, eqb, leb, List, [], ◌∷◌, ◌++◌, map, length, Some, None, sym, refl, ap, ◌∙◌, subst, inl, inr, arith}
use Rattle.std.proofs.lemmas.List.{append_assoc, length-append, length_push, length-map}
use Rattle.std.proofs.lemmas.Bool.{cond-false, cases_Bool, eqb-true, ne_eqb, le-ltb, lt-leb, not_from_true, and_left, or_from}
use Rattle.words.specs.declared.kind.Kind.{Kind}
use Rattle.words.specs.declared.kind.Kind.TheVariants.{True, False, Var, Not, And, Or, Nil, Set, Clear, Both, When, Head, On, Part}
use Rattle.words.specs.Words.{word, kind_of, load_of}
use Rattle.words.proofs.Joining.{kind_of_word, load_of_word}
use Rattle.planning.specs.Tree.{Formula, TRUE, FALSE, VAR, NOT, AND, OR, Effect, NIL, SET, CLEAR, BOTH, WHEN}
use Rattle.planning.specs.Render.{formula_words}
use Rattle.planning.specs.Limits.{formula_depth}
use Rattle.reading.specs.declared.section.Sort.{Sort}
use Rattle.reading.specs.declared.section.Sort.TheVariants as sort
use Rattle.reading.specs.Senses.{is_kind, gives, load_sense, is_zero_load, is_variable, part_sort, same_sort, waiting_after}
use Rattle.reading.specs.Turns.{turn_after}
use Rattle.reading.specs.Rules.{alone, allowed_in, bad_values, over_64}
use Rattle.reading.specs.Faults.{word_refusal, turn_past, first_or, fault_from}
use Rattle.reading.specs.Trees.{Value, formula, effect, values_after, Before, Sofar, between, inside, whole, values_on, read_kind, read_word, read_words}
use Rattle.reading.proofs.Clean.{Clean, unrefused}
use Rattle.reading.proofs.Sound.{before_width, before_section, turn_of, Valid, Inside, Next, next}
use Rattle.reading.proofs.Values.{value_sort, value_words, value_depth, ValueBelow, written}

-- the words are faultless from here, and read into X
pub record Ends (sofar : Sofar) (ws : List ℕ) (X : Sofar) : Type 0 where
  pub clean : (i : ℕ) → fault_from (turn_of sofar) i ws ≡ None
  pub tree : read_words sofar ws ≡ X

pub step_ends : (sofar : Sofar) (j : Kind) (l : ℕ) (ws : List ℕ) (X : Sofar) → l < 2 ^ 28 → Valid sofar → Clean (turn_of sofar) (length ws) j l → Ends (read_kind sofar j l) ws X → Ends sofar (word j l ∷ ws) X
step_ends sofar j l ws X small v c e =
    let turn = turn_of sofar in
    let w = word j l in
    let k : kind_of w ≡ Some j = kind_of_word j l small in
    let m : load_of w ≡ l = load_of_word j l small in
    let n : Next sofar j l = next sofar (length ws) j l v c in
    record {
      clean = λ i.
          ap (λ o. first_or (word_refusal turn (length ws) o (load_of w)) i (fault_from (turn_past turn o (load_of w)) (i + 1) ws)) k
          ∙ ap (λ x. first_or (word_refusal turn (length ws) (Some j) x) i (fault_from (turn_past turn (Some j) x) (i + 1) ws)) m
          ∙ ap (λ r. first_or r i (fault_from (turn_after turn j l) (i + 1) ws)) (unrefused turn (length ws) j l c)
          ∙ ap (λ t. fault_from t (i + 1) ws) (sym n.turn)
          ∙ e.clean (i + 1);
      tree =
          ap (λ o. read_words (read_word sofar o (load_of w)) ws) k
          ∙ ap (λ x. read_words (read_kind sofar j x) ws) m
          ∙ e.tree;
    }

-- the only value left, of the part's sort
abbrev pub Lone : Before → List Value → Value → Type 0
Lone b us v = (us ≡ []) × (same_sort (part_sort (before_section b)) (value_sort v) ≡ true)

last_fine : (left : ℕ) (wanted : Sort) (us : List Value) (x : Sort) → (left ≡ 1 → (us ≡ []) × (same_sort wanted x ≡ true)) → (eqb left 1 && not (alone wanted (x ∷ map value_sort us))) ≡ false
last_fine left wanted us x h =
    elim (cases_Bool (eqb left 1)) [
      | inl e ↦
          let p = h (eqb-true left 1 e) in
          ap (λ b. b && not (alone wanted (x ∷ map value_sort us))) e ∙ ap (λ ys. not (alone wanted (x ∷ map value_sort ys))) p.0 ∙ ap not p.1
      | inr e ↦ ap (λ b. b && not (alone wanted (x ∷ map value_sort us))) e
    ]

-- what makes a kind one of a part's
pub record Fitting (b : Before) (j : Kind) (l : ℕ) : Type 0 where
  pub small : l < 2 ^ 28
  pub allowed : allowed_in (part_sort (before_section b)) (gives j) ≡ true
  pub load : (is_zero_load (load_sense j) && not (eqb l 0)) ≡ false
  pub below : (is_variable (load_sense j) && leb (before_width b) l) ≡ false
  pub not_on : is_kind On j ≡ false
  pub not_part : is_kind Part j ≡ false
  pub not_head : is_kind Head j ≡ false

module _ (b : Before) (left : ℕ) (vs us : List Value) (v : Value) (j : Kind) (l : ℕ) (ws : List ℕ) (X : Sofar)
    (f : Fitting b j l) (valid : Inside b left vs) (values : values_after j l vs ≡ v ∷ us) (sorts : waiting_after j (map value_sort vs) ≡ Some (value_sort v ∷ map value_sort us))
    (lone : left ≡ 1 → Lone b us v) (few : length us + 1 ≤ 64) where
  fitting_clean : Clean (turn_of (inside b left vs)) (length ws) j l
  fitting_clean = record {
    right = or_from (not (allowed_in (part_sort (before_section b)) (gives j))) _ (not_from_true _ f.allowed) (or_from _ _ f.load (and_left (is_kind On j) _ f.not_on));
    below = f.below;
    operands = ap (bad_values (eqb left 1) (part_sort (before_section b))) sorts ∙ last_fine left (part_sort (before_section b)) us (value_sort v) lone;
    waiting = ap over_64 sorts ∙ le-ltb 64 (suc (length (map value_sort us))) (omega (arith, length-map us value_sort));
    short = and_left (is_kind Part j) _ f.not_part;
    enough = and_left (is_kind Part j) _ f.not_part;
    width = and_left (is_kind Head j) _ f.not_head;
  }

  pub word_ends : Ends (values_on b (left - 1) (v ∷ us)) ws X → Ends (inside b left vs) (word j l ∷ ws) X
  word_ends e = step_ends (inside b left vs) j l ws X f.small valid fitting_clean (subst (λ ys. Ends (values_on b (left - 1) ys) ws X) (sym values) e)

-- effects stand only in an effect's part
abbrev pub Allowed : Before → Value → Type 0
Allowed b (formula f) = Unit {0}
Allowed b (effect e) = same_sort (part_sort (before_section b)) sort.Effect ≡ true

pub record Place (b : Before) (left : ℕ) (vs : List Value) (v : Value) : Type 0 where
  pub valid : Inside b left vs
  pub allowed : Allowed b v
  pub below : ValueBelow (before_width b) v
  pub narrow : before_width b ≤ 64
  pub shallow : length vs + value_depth v ≤ 64
  pub enough : length (value_words v) ≤ left
  pub lone : left ≡ length (value_words v) → Lone b vs v

-- wherever the value may stand, its words are read into it
abbrev pub Readable : Value → Type 0
Readable v = (b : Before) (left : ℕ) (vs : List Value) (ws : List ℕ) (X : Sofar) → Place b left vs v → Ends (values_on b (left - length (value_words v)) (v ∷ vs)) ws X → Ends (inside b left vs) (value_words v ++ ws) X

pow_28 : (n l : ℕ) → n ≤ 64 → l < n → l < 2 ^ 28
pow_28 n l h k = omega arith

leaf_readable : (v : Value) (j : Kind) (l : ℕ) → value_words v ≡ word j l ∷ [] → value_depth v ≡ 1 → ((b : Before) (left : ℕ) (vs : List Value) → Place b left vs v → Fitting b j l) → ((vs : List Value) → values_after j l vs ≡ v ∷ vs) → ((vs : List Value) → waiting_after j (map value_sort vs) ≡ Some (value_sort v ∷ map value_sort vs)) → Readable v
leaf_readable v j l words depth fit values sorts b left vs ws X p e =
    let one : length (value_words v) ≡ 1 = ap length words in
    let few : length vs + 1 ≤ 64 = omega (arith, p.shallow) in
    let lone : left ≡ 1 → Lone b vs v = λ q. p.lone (omega arith) in
    subst (λ xs. Ends (inside b left vs) (xs ++ ws) X) (sym words)
    (word_ends b left vs vs v j l ws X (fit b left vs p) p.valid (values vs) (sorts vs) lone few (subst (λ k. Ends (values_on b (left - k) (v ∷ vs)) ws X) one e))

-- a value on top, and more words of the part to come
module _ (b : Before) (left : ℕ) (vs : List Value) (u : Value) (more : length (value_words u) < left) where
  pub still_inside : values_on b (left - length (value_words u)) (u ∷ vs) ≡ inside b (left - length (value_words u)) (u ∷ vs)
  still_inside = cond-false (eqb (left - length (value_words u)) 0) (between (whole b u)) (inside b (left - length (value_words u)) (u ∷ vs)) (ne_eqb (left - length (value_words u)) 0 (λ q. omega arith))

  pub inside_more : Inside b left vs → ValueBelow (before_width b) u → length vs + value_depth u ≤ 64 → Inside b (left - length (value_words u)) (u ∷ vs)
  inside_more v below deep = record {
    whole = v.whole;
    open' = v.open';
    some = omega arith;
    short = omega (arith, v.short, length-append (written vs) (value_words u));
    stacked = ((below, deep), v.stacked);
  }

formula_deep : (f : Formula) → 1 ≤ formula_depth f
formula_deep TRUE = omega arith
formula_deep FALSE = omega arith
formula_deep (VAR v) = omega arith
formula_deep (NOT f) = formula_deep f
formula_deep (AND f g) = omega (arith, formula_deep f)
formula_deep (OR f g) = omega (arith, formula_deep f)

not_readable : (f : Formula) → Readable (formula f) → Readable (formula (NOT f))
not_readable f rf b left vs ws X p e =
    let n = length (formula_words f) in
    let total : length (formula_words f ++ (word Not 0 ∷ [])) ≡ n + 1 = length_push (formula_words f) (word Not 0) in
    let more : n < left = omega (arith, p.enough) in
    let inner : Place b left vs (formula f) = record { valid = p.valid; allowed = tt; below = p.below; narrow = p.narrow; shallow = p.shallow; enough = omega arith; lone = λ q. absurd (omega arith) } in
    let same : left - length (formula_words f ++ (word Not 0 ∷ [])) ≡ left - n - 1 = omega arith in
    let fit : Fitting b Not 0 = record { small = omega arith; allowed = refl; load = refl; below = refl; not_on = refl; not_part = refl; not_head = refl } in
    let few : length vs + 1 ≤ 64 = omega (arith, formula_deep f, p.shallow) in
    let last = word_ends b (left - n) (formula f ∷ vs) vs (formula (NOT f)) Not 0 ws X fit (inside_more b left vs (formula f) more p.valid p.below p.shallow) refl refl (λ q. p.lone (omega arith)) few (subst (λ k. Ends (values_on b k (formula (NOT f) ∷ vs)) ws X) same e) in
    subst (λ xs. Ends (inside b left vs) xs X) (sym (append_assoc (formula_words f) (word Not 0 ∷ []) ws))
    (rf b left vs (word Not 0 ∷ ws) X inner (subst (λ s. Ends s (word Not 0 ∷ ws) X) (sym (still_inside b left vs (formula f) more)) last))

-- two operands and the word that takes them
module _ (u v w : Value) (j : Kind) (ru : Readable u) (rv : Readable v)
    (words : value_words w ≡ value_words u ++ (value_words v ++ (word j 0 ∷ []))) (depth : value_depth w ≡ max (value_depth u) (1 + value_depth v))
    (fit : (b : Before) → Allowed b w → Fitting b j 0) (allowed : (b : Before) → Allowed b w → Allowed b u × Allowed b v)
    (below : (n : ℕ) → ValueBelow n w → ValueBelow n u × ValueBelow n v)
    (values : (vs : List Value) → values_after j 0 (v ∷ u ∷ vs) ≡ w ∷ vs)
    (sorts : (vs : List Value) → waiting_after j (map value_sort (v ∷ u ∷ vs)) ≡ Some (value_sort w ∷ map value_sort vs)) where
  pub pair_readable : Readable w
  pair_readable b left vs ws X p e =
      let m = length (value_words u) in
      let n = length (value_words v) in
      let total : length (value_words w) ≡ m + (n + 1) = ap length words ∙ length-append (value_words u) (value_words v ++ (word j 0 ∷ [])) ∙ ap (λ k. m + k) (length_push (value_words v) (word j 0)) in
      let enough : m + (n + 1) ≤ left = omega (arith, p.enough) in
      let more_u : m < left = omega arith in
      let more_v : n < left - m = omega arith in
      let du : length vs + value_depth u ≤ 64 = omega (arith, p.shallow) in
      let dv : suc (length vs) + value_depth v ≤ 64 = omega (arith, p.shallow) in
      let al = allowed b p.allowed in
      let bl = below (before_width b) p.below in
      let iu = inside_more b left vs u more_u p.valid bl.0 du in
      let iv = inside_more b (left - m) (u ∷ vs) v more_v iu bl.1 dv in
      let pu : Place b left vs u = record { valid = p.valid; allowed = al.0; below = bl.0; narrow = p.narrow; shallow = du; enough = omega arith; lone = λ q. absurd (omega arith) } in
      let pv : Place b (left - m) (u ∷ vs) v = record { valid = iu; allowed = al.1; below = bl.1; narrow = p.narrow; shallow = dv; enough = omega arith; lone = λ q. absurd (omega arith) } in
      let same : left - length (value_words w) ≡ left - m - n - 1 = omega arith in
      let few : length vs + 1 ≤ 64 = omega arith in
      let last = word_ends b (left - m - n) (v ∷ u ∷ vs) vs w j 0 ws X (fit b p.allowed) iv (values vs) (sorts vs) (λ q. p.lone (omega arith)) few (subst (λ k. Ends (values_on b k (w ∷ vs)) ws X) same e) in
      let second = rv b (left - m) (u ∷ vs) (word j 0 ∷ ws) X pv (subst (λ s. Ends s (word j 0 ∷ ws) X) (sym (still_inside b (left - m) (u ∷ vs) v more_v)) last) in
      let first = ru b left vs (value_words v ++ (word j 0 ∷ ws)) X pu (subst (λ s. Ends s (value_words v ++ (word j 0 ∷ ws)) X) (sym (still_inside b left vs u more_u)) second) in
      subst (λ xs. Ends (inside b left vs) xs X) (sym (ap (λ xs. xs ++ ws) words ∙ append_assoc (value_words u) (value_words v ++ (word j 0 ∷ [])) ws ∙ ap (λ xs. value_words u ++ xs) (append_assoc (value_words v) (word j 0 ∷ []) ws))) first

-- a kind of formulas, and a kind of effects where they are allowed
fit_formula : (b : Before) (j : Kind) → gives j ≡ Some sort.Formula → (is_zero_load (load_sense j) && not (eqb 0 0)) ≡ false → is_variable (load_sense j) ≡ false → is_kind On j ≡ false → is_kind Part j ≡ false → is_kind Head j ≡ false → Fitting b j 0
fit_formula b j g z v on part head = record { small = omega arith; allowed = ap (allowed_in (part_sort (before_section b))) g; load = z; below = and_left (is_variable (load_sense j)) _ v; not_on = on; not_part = part; not_head = head }

fit_effect : (b : Before) (j : Kind) → same_sort (part_sort (before_section b)) sort.Effect ≡ true → gives j ≡ Some sort.Effect → (is_zero_load (load_sense j) && not (eqb 0 0)) ≡ false → is_variable (load_sense j) ≡ false → is_kind On j ≡ false → is_kind Part j ≡ false → is_kind Head j ≡ false → Fitting b j 0
fit_effect b j a g z v on part head = record { small = omega arith; allowed = ap (allowed_in (part_sort (before_section b))) g ∙ a; load = z; below = and_left (is_variable (load_sense j)) _ v; not_on = on; not_part = part; not_head = head }

pub formula_readable : (f : Formula) → Readable (formula f)
formula_readable TRUE = leaf_readable (formula TRUE) True 0 refl refl (λ b left vs p. fit_formula b True refl refl refl refl refl refl) (λ vs. refl) (λ vs. refl)
formula_readable FALSE = leaf_readable (formula FALSE) False 0 refl refl (λ b left vs p. fit_formula b False refl refl refl refl refl refl) (λ vs. refl) (λ vs. refl)
formula_readable (VAR v) = leaf_readable (formula (VAR v)) Var v refl refl (λ b left vs p. record { small = pow_28 (before_width b) v p.narrow p.below; allowed = refl; load = refl; below = lt-leb (before_width b) v p.below; not_on = refl; not_part = refl; not_head = refl }) (λ vs. refl) (λ vs. refl)
formula_readable (NOT f) = not_readable f (formula_readable f)
formula_readable (AND f g) = pair_readable (formula f) (formula g) (formula (AND f g)) And (formula_readable f) (formula_readable g) refl refl (λ b a. fit_formula b And refl refl refl refl refl refl) (λ b a. (tt, tt)) (λ n h. h) (λ vs. refl) (λ vs. refl)
formula_readable (OR f g) = pair_readable (formula f) (formula g) (formula (OR f g)) Or (formula_readable f) (formula_readable g) refl refl (λ b a. fit_formula b Or refl refl refl refl refl refl) (λ b a. (tt, tt)) (λ n h. h) (λ vs. refl) (λ vs. refl)

pub effect_readable : (e : Effect) → Readable (effect e)
effect_readable NIL = leaf_readable (effect NIL) Nil 0 refl refl (λ b left vs p. fit_effect b Nil p.allowed refl refl refl refl refl refl) (λ vs. refl) (λ vs. refl)
effect_readable (SET v) = leaf_readable (effect (SET v)) Set v refl refl (λ b left vs p. record { small = pow_28 (before_width b) v p.narrow p.below; allowed = p.allowed; load = refl; below = lt-leb (before_width b) v p.below; not_on = refl; not_part = refl; not_head = refl }) (λ vs. refl) (λ vs. refl)
effect_readable (CLEAR v) = leaf_readable (effect (CLEAR v)) Clear v refl refl (λ b left vs p. record { small = pow_28 (before_width b) v p.narrow p.below; allowed = p.allowed; load = refl; below = lt-leb (before_width b) v p.below; not_on = refl; not_part = refl; not_head = refl }) (λ vs. refl) (λ vs. refl)
effect_readable (BOTH d e) = pair_readable (effect d) (effect e) (effect (BOTH d e)) Both (effect_readable d) (effect_readable e) refl refl (λ b a. fit_effect b Both a refl refl refl refl refl refl) (λ b a. (a, a)) (λ n h. h) (λ vs. refl) (λ vs. refl)
effect_readable (WHEN c e) = pair_readable (formula c) (effect e) (effect (WHEN c e)) When (formula_readable c) (effect_readable e) refl refl (λ b a. fit_effect b When a refl refl refl refl refl refl) (λ b a. (tt, a)) (λ n h. h) (λ vs. refl) (λ vs. refl)

pub value_readable : (v : Value) → Readable v
value_readable (formula f) = formula_readable f
value_readable (effect e) = effect_readable e
