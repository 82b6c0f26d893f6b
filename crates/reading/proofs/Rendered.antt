-- The words of a task within the limits are read without a fault, and into that task.
-- Assumes nothing.
use Rattle.std.proofs.Common.{◌≡◌, ℕ, zero, suc, ◌+◌, ◌-◌, ◌*◌, ◌/◌, ◌%◌, ◌^◌, ◌<◌, ◌≤◌, true, false, not, ◌||◌, eqb, ltb, List, [], ◌∷◌, ◌++◌, length, sym, refl, ap, ◌∙◌, subst, inl, inr, mod-eq_of_lt, arith}
use Rattle.std.proofs.lemmas.List.{append_assoc, append-nil, length-append, length_push}
use Rattle.std.proofs.lemmas.Nat.{mod_below, mod-pow-add, pow_pos}
use Rattle.std.proofs.lemmas.Bool.{cond-true, cond-false, cases_Bool, eqb-true, eqb-false, ne_eqb, le-ltb, lt-leb, or_from, not_from_true, true≢false}
use Rattle.words.specs.declared.kind.Kind.TheVariants.{Not, And, Or, Both, When, Head, On, Part}
use Rattle.words.specs.Words.{word}
use Rattle.planning.specs.Tree.{bit, Formula, TRUE, FALSE, VAR, NOT, AND, OR, Effect, NIL, SET, CLEAR, BOTH, WHEN, OperatorTree, TaskTree}
use Rattle.planning.specs.Render.{formula_words, effect_words, part_words, operators_words, on_words, task_words}
use Rattle.planning.specs.Limits.{FormulaWithin, EffectWithin, OperatorsWithin, TaskWithin}
use Rattle.reading.specs.declared.section.Sort.TheVariants as sort
use Rattle.reading.specs.Senses.{part_sort, same_sort}
use Rattle.reading.specs.Turns.{Turn, at_head, at_on, at_part, in_part}
use Rattle.reading.specs.Rules.{in_turn, wrong_operand, too_many_waiting, all_operators}
use Rattle.reading.specs.Trees.{Value, formula, effect, Before, goal_next, operator_next, effect_next, with_operator, whole, Sofar, nothing, heading, between, inside, values_on, read_kind}
use Rattle.reading.proofs.Clean.{Clean}
use Rattle.reading.proofs.Sound.{before_width, before_section, turn_of, Valid, Nearly, Whole, Open, ended}
use Rattle.reading.proofs.Values.{value_words, value_depth, value_sort, ValueBelow}
use Rattle.reading.proofs.Readable.{Ends, step_ends, Place, Allowed, value_readable}

no_operands : (turn : Turn) → in_turn turn Part ≡ true → wrong_operand turn Part ≡ false
no_operands at_head e = refl
no_operands (at_on n s low) e = refl
no_operands (at_part n s k here) e = refl
no_operands (in_part n s k here left waiting) e = absurd (true≢false (sym e))

no_values : (turn : Turn) → in_turn turn Part ≡ true → too_many_waiting turn Part ≡ false
no_values at_head e = refl
no_values (at_on n s low) e = refl
no_values (at_part n s k here) e = refl
no_values (in_part n s k here left waiting) e = absurd (true≢false (sym e))

pub formula_some : (f : Formula) → 1 ≤ length (formula_words f)
formula_some TRUE = omega arith
formula_some FALSE = omega arith
formula_some (VAR v) = omega arith
formula_some (NOT f) = omega (arith, length_push (formula_words f) (word Not 0))
formula_some (AND f g) = omega (arith, length-append (formula_words f) (formula_words g ++ (word And 0 ∷ [])), formula_some f)
formula_some (OR f g) = omega (arith, length-append (formula_words f) (formula_words g ++ (word Or 0 ∷ [])), formula_some f)

pub effect_some : (e : Effect) → 1 ≤ length (effect_words e)
effect_some NIL = omega arith
effect_some (SET v) = omega arith
effect_some (CLEAR v) = omega arith
effect_some (BOTH d e) = omega (arith, length-append (effect_words d) (effect_words e ++ (word Both 0 ∷ [])), effect_some d)
effect_some (WHEN c e) = omega (arith, length-append (formula_words c) (effect_words e ++ (word When 0 ∷ [])), formula_some c)

one_more : (p r : ℕ) → 1 * p + r ≡ r + p
one_more p r = omega arith

none_more : (p r : ℕ) → 0 * p + r ≡ r
none_more p r = omega arith

off_zero : (x : ℕ) → eqb (x % 2) 1 ≡ false → x % 2 ≡ 0
off_zero x e = omega (arith, eqb-false (x % 2) 1 e, mod_below x 2 (omega arith))

-- a PART in its turn
part_clean : (turn : Turn) (rest l : ℕ) → in_turn turn Part ≡ true → 1 ≤ l → l ≤ 4096 → l ≤ rest → all_operators turn ≡ false → Clean turn rest Part l
part_clean turn rest l here some short enough open' = record {
  right = or_from (not (in_turn turn Part)) false (not_from_true (in_turn turn Part) here) refl;
  below = refl;
  operands = no_operands turn here;
  waiting = no_values turn here;
  short = or_from (eqb l 0) (ltb 4096 l || all_operators turn) (ne_eqb l 0 (λ e. omega arith)) (or_from (ltb 4096 l) (all_operators turn) (le-ltb 4096 l short) open');
  enough = le-ltb rest l enough;
  width = refl;
}

pub words_some : (v : Value) → 1 ≤ length (value_words v)
words_some (formula f) = formula_some f
words_some (effect e) = effect_some e

-- a value that fills a part
pub record Filling (b : Before) (v : Value) : Type 0 where
  pub whole : Whole b
  pub open' : Open b
  pub narrow : before_width b ≤ 64
  pub allowed : Allowed b v
  pub sort : same_sort (part_sort (before_section b)) (value_sort v) ≡ true
  pub below : ValueBelow (before_width b) v
  pub shallow : value_depth v ≤ 64
  pub short : length (value_words v) ≤ 4096

pub filled : (b : Before) (v : Value) → Filling b v → Place b (length (value_words v)) [] v
filled b v f = record {
  valid = record { whole = f.whole; open' = f.open'; some = words_some v; short = omega (arith, f.short); stacked = tt };
  allowed = f.allowed;
  below = f.below;
  narrow = f.narrow;
  shallow = omega (arith, f.shallow);
  enough = omega arith;
  lone = λ e. (refl, f.sort);
}

-- the part's last word is read
pub values_end : (b : Before) (v : Value) (ws : List ℕ) (X : Sofar) → Ends (between (whole b v)) ws X → Ends (values_on b (length (value_words v) - length (value_words v)) (v ∷ [])) ws X
values_end b v ws X e =
    let n = length (value_words v) in
    let z : n - n ≡ 0 = omega arith in
    subst (λ m. Ends (values_on b m (v ∷ [])) ws X) (sym z) e

part_ends : (sofar : Sofar) (b : Before) (v : Value) (ws : List ℕ) (X : Sofar) → read_kind sofar Part (length (value_words v)) ≡ inside b (length (value_words v)) [] → Valid sofar → in_turn (turn_of sofar) Part ≡ true → all_operators (turn_of sofar) ≡ false → Filling b v → Ends (between (whole b v)) ws X → Ends sofar (part_words (value_words v) ++ ws) X
part_ends sofar b v ws X begins valid here open' f e =
    let n = length (value_words v) in
    let rest : length (value_words v ++ ws) ≡ n + length ws = length-append (value_words v) ws in
    let small : n < 2 ^ 28 = omega (arith, f.short) in
    let all = value_readable v b n [] ws X (filled b v f) (values_end b v ws X e) in
    step_ends sofar Part n (value_words v ++ ws) X small valid (part_clean (turn_of sofar) (length (value_words v ++ ws)) n here (words_some v) f.short (omega arith) open')
    (subst (λ s. Ends s (value_words v ++ ws) X) (sym begins) all)

abbrev pub with_operators : TaskTree → List OperatorTree → TaskTree
with_operators t os = record { width = t.width; initial = t.initial; goal = t.goal; operators = t.operators ++ os }

pub fill_formula : (b : Before) (f : Formula) → Whole b → Open b → before_width b ≤ 64 → same_sort (part_sort (before_section b)) sort.Formula ≡ true → FormulaWithin (before_width b) f → Filling b (formula f)
fill_formula b f w o n same in' = record { whole = w; open' = o; narrow = n; allowed = tt; sort = same; below = in'.below; shallow = in'.shallow; short = in'.short }

pub fill_effect : (b : Before) (e : Effect) → Whole b → Open b → before_width b ≤ 64 → same_sort (part_sort (before_section b)) sort.Effect ≡ true → EffectWithin (before_width b) e → Filling b (effect e)
fill_effect b e w o n same in' = record { whole = w; open' = o; narrow = n; allowed = same; sort = same; below = in'.below; shallow = in'.shallow; short = in'.short }

operators_ends : (os : List OperatorTree) (t : TaskTree) → Nearly t → OperatorsWithin t.width os → length t.operators + length os ≤ 512 → Ends (between (operator_next t)) (operators_words os) (between (operator_next (with_operators t os)))
operators_ends [] t n ws few = record {
  clean = λ i. refl;
  tree = ap (λ os. between (operator_next (record { width = t.width; initial = t.initial; goal = t.goal; operators = os }))) (sym (append-nil t.operators));
}
operators_ends (o ∷ os) t n ws few =
    let c = o.precondition in
    let e = o.effect in
    let more : length t.operators < 512 = omega arith in
    let pre = fill_formula (operator_next t) c n more n.narrow refl ws.0.0 in
    let w₁ : Whole (effect_next t c) = (n, more, ws.0.0) in
    let eff = fill_effect (effect_next t c) e w₁ tt n.narrow refl ws.0.1 in
    let t₁ = with_operator t o in
    let n₁ : Nearly t₁ = (ended (effect_next t c) (effect e) refl w₁ tt ws.0.1.below ws.0.1.shallow ws.0.1.short).valid.0 in
    let few₁ : length (t.operators ++ (o ∷ [])) + length os ≤ 512 = omega (arith, length_push t.operators o) in
    let rest = operators_ends os t₁ n₁ ws.1 few₁ in
    let X = between (operator_next (with_operators t₁ os)) in
    let same : X ≡ between (operator_next (with_operators t (o ∷ os))) = ap (λ xs. between (operator_next (record { width = t.width; initial = t.initial; goal = t.goal; operators = xs }))) (append_assoc t.operators (o ∷ []) os) in
    let second = part_ends (between (effect_next t c)) (effect_next t c) (effect e) (operators_words os) X refl (w₁, tt) refl refl eff rest in
    let first = part_ends (between (operator_next t)) (operator_next t) (formula c) (part_words (effect_words e) ++ operators_words os) X refl (n, tt) refl (lt-leb 512 (length t.operators) more) pre second in
    subst (λ y. Ends (between (operator_next t)) (operators_words (o ∷ os)) y) same
    (subst (λ xs. Ends (between (operator_next t)) xs X) (sym (append_assoc (part_words (formula_words c)) (part_words (effect_words e)) (operators_words os))) first)

-- the lowest variables of a state, one more
low_next : (s v : ℕ) → s % 2 ^ (v + 1) ≡ (s / 2 ^ v % 2) * 2 ^ v + s % 2 ^ v
low_next s v = let e : 1 + v ≡ v + 1 = omega arith in subst (λ m. s % 2 ^ m ≡ (s / 2 ^ v % 2) * 2 ^ v + s % 2 ^ v) e (mod-pow-add s 1 v)

on_clean : (n s low rest v : ℕ) → low ≤ v → v < n → Clean (at_on n s low) rest On v
on_clean n s low rest v up lt = record {
  right = le-ltb v low up;
  below = lt-leb n v lt;
  operands = refl;
  waiting = refl;
  short = refl;
  enough = refl;
  width = refl;
}

module _ (n s : ℕ) (some : 1 ≤ n) (narrow : n ≤ 64) (ws : List ℕ) (X : Sofar) (K : (low : ℕ) → low ≤ n → s < 2 ^ low → Ends (heading n s low) ws X) where
  ons_ends : (k v low : ℕ) → low ≤ v → v + k ≡ n → s < 2 ^ n → s % 2 ^ v < 2 ^ low → Ends (heading n (s % 2 ^ v) low) (on_words v k s ++ ws) X
  ons_ends zero v low up e below low_below =
      let vn : v ≡ n = omega arith in
      let whole' : s % 2 ^ v ≡ s = ap (λ m. s % 2 ^ m) vn ∙ mod-eq_of_lt below in
      subst (λ x. Ends (heading n x low) ws X) (sym whole') (K low (omega arith) (subst (λ x. x < 2 ^ low) whole' low_below))
  ons_ends (suc k) v low up e below low_below =
      elim (cases_Bool (bit s v)) [
        | inl on ↦
            let b : s / 2 ^ v % 2 ≡ 1 = eqb-true (s / 2 ^ v % 2) 1 on in
            let under : s % 2 ^ v < 2 ^ v = mod_below s (2 ^ v) (pow_pos v) in
            let grown : s % 2 ^ v + 2 ^ v ≡ s % 2 ^ (v + 1) = sym (low_next s v ∙ ap (λ x. x * 2 ^ v + s % 2 ^ v) b ∙ one_more (2 ^ v) (s % 2 ^ v)) in
            let rest = ons_ends k (v + 1) (v + 1) (omega arith) (omega arith) below (mod_below s (2 ^ (v + 1)) (pow_pos (v + 1))) in
            subst (λ xs. Ends (heading n (s % 2 ^ v) low) (xs ++ ws) X) (sym (cond-true (bit s v) (word On v ∷ on_words (v + 1) k s) (on_words (v + 1) k s) on))
            (step_ends (heading n (s % 2 ^ v) low) On v (on_words (v + 1) k s ++ ws) X (omega arith) (some, narrow, omega arith, low_below) (on_clean n (s % 2 ^ v) low (length (on_words (v + 1) k s ++ ws)) v up (omega arith))
            (subst (λ x. Ends (heading n x (v + 1)) (on_words (v + 1) k s ++ ws) X) (sym grown) rest))
        | inr off ↦
            let b : s / 2 ^ v % 2 ≡ 0 = off_zero (s / 2 ^ v) off in
            let same : s % 2 ^ v ≡ s % 2 ^ (v + 1) = sym (low_next s v ∙ ap (λ x. x * 2 ^ v + s % 2 ^ v) b ∙ none_more (2 ^ v) (s % 2 ^ v)) in
            let rest = ons_ends k (v + 1) low (omega arith) (omega arith) below (subst (λ x. x < 2 ^ low) same low_below) in
            subst (λ xs. Ends (heading n (s % 2 ^ v) low) (xs ++ ws) X) (sym (cond-false (bit s v) (word On v ∷ on_words (v + 1) k s) (on_words (v + 1) k s) off))
            (subst (λ x. Ends (heading n x low) (on_words (v + 1) k s ++ ws) X) (sym same) rest)
      ]

head_clean : (rest n : ℕ) → 1 ≤ n → n ≤ 64 → Clean at_head rest Head n
head_clean rest n some narrow = record {
  right = refl;
  below = refl;
  operands = refl;
  waiting = refl;
  short = refl;
  enough = refl;
  width = or_from (eqb n 0) (ltb 64 n) (ne_eqb n 0 (λ e. omega arith)) (le-ltb 64 n narrow);
}

pub rendered : (t : TaskTree) → TaskWithin t → Ends nothing (task_words t) (between (operator_next t))
rendered t w =
    let n = t.width in
    let s = t.initial in
    let t₀ : TaskTree = record { width = n; initial = s; goal = t.goal; operators = [] } in
    let n₀ : Nearly t₀ = record { some = w.some; narrow = w.narrow; start = w.start; goal = w.goal; operators = tt; few = omega arith } in
    let X = between (operator_next t) in
    let operators = operators_ends t.operators t₀ n₀ w.operators (omega (arith, w.few)) in
    let rest = part_words (formula_words t.goal) ++ operators_words t.operators in
    let goal : (low : ℕ) → low ≤ n → s < 2 ^ low → Ends (heading n s low) rest X = λ low le below. part_ends (heading n s low) (goal_next n s) (formula t.goal) (operators_words t.operators) X refl (w.some, w.narrow, le, below) refl refl (fill_formula (goal_next n s) t.goal (w.some, w.narrow, w.start) tt w.narrow refl w.goal) operators in
    let zero_low : s % 2 ^ 0 ≡ 0 = omega (arith, mod_below s (2 ^ 0) (pow_pos 0)) in
    let zero_below : s % 2 ^ 0 < 2 ^ 0 = mod_below s (2 ^ 0) (pow_pos 0) in
    let ons = ons_ends n s w.some w.narrow rest X goal n 0 0 (omega arith) (omega arith) w.start zero_below in
    step_ends nothing Head n (on_words 0 n s ++ rest) X (omega (arith, w.narrow)) tt (head_clean (length (on_words 0 n s ++ rest)) n w.some w.narrow)
    (subst (λ x. Ends (heading n x 0) (on_words 0 n s ++ rest) X) zero_low ons)
