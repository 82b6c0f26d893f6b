-- Going from part to part through the words of a task.
-- Assumes nothing.
use Rattle.std.proofs.Common.{◌≡◌, ℕ, zero, suc, ◌+◌, ◌/◌, ◌^◌, ◌<◌, ◌≤◌, true, not, List, [], ◌∷◌, ◌++◌, length, get_or, take, drop, is_some, Some, None, Option, sym, refl, ap, ◌∙◌, subst, div-one, arith, length-drop}
use lib.Count.{ones}
use Rattle.std.proofs.lemmas.List.{append_assoc, length-append, get_or-drop, drop-drop, drop_at, take_at, drop_more, take_more, take-append-drop}
use Rattle.std.proofs.lemmas.Bool.{true≢false}
use Rattle.words.specs.declared.fault.Fault.{Fault}
use Rattle.words.specs.declared.kind.Kind.TheVariants.{Head, Part}
use Rattle.words.specs.Words.{word, load_of}
use Rattle.words.proofs.Joining.{load_of_word}
use Rattle.planning.specs.Tree.{Formula, TRUE, Effect, NIL, OperatorTree}
use Rattle.planning.specs.Render.{formula_words, effect_words, part_words, on_words, operator_words, operators_words, task_words}
use Rattle.planning.specs.Limits.{FormulaWithin, EffectWithin, OperatorsWithin, TaskWithin}
use Rattle.reading.specs.Faults.{task_fault_of, is_accepted}
use Rattle.reading.specs.Parts.{is_formula, is_effect}
use Rattle.reading.specs.Trees.{task_tree}
use Rattle.reading.proofs.Accepted.{accepted}
use Rattle.reading.proofs.Ons.{ons_ones}
use Rattle.reading.proofs.Parts.{formula_formed, effect_formed}
use Rattle.reading.proofs.Rendered.{formula_some, effect_some}
use Rattle.reading.proofs.Sound.{operators_push}
use Rattle.tasks.specs.Places.{goal_place, operator_of, precondition_place, effect_place}

pub none_is : (o : Option Fault) → not (is_some o) ≡ true → o ≡ None
none_is None e = refl
none_is (Some f) e = absurd (true≢false (sym e))

none_not : (o : Option Fault) → o ≡ None → not (is_some o) ≡ true
none_not o e = ap (λ x. not (is_some x)) e

pub within : (ws : List ℕ) → is_accepted ws ≡ true → TaskWithin (task_tree ws)
within ws e = (accepted ws (none_is (task_fault_of ws) e)).0

pub renders : (ws : List ℕ) → is_accepted ws ≡ true → task_words (task_tree ws) ≡ ws
renders ws e = (accepted ws (none_is (task_fault_of ws) e)).1

-- as many words before the goal's part as HEAD, the true variables and PART
pub goal_at : (ws : List ℕ) → is_accepted ws ≡ true → (s : ℕ) → s ≡ (task_tree ws).initial → 1 + ones s + 1 ≡ goal_place (task_tree ws)
goal_at ws e s same =
    let t = task_tree ws in
    let z : 0 + t.width ≡ t.width = omega arith in
    let one : t.initial / 2 ^ 0 ≡ t.initial = div-one t.initial in
    let n : length (on_words 0 t.width t.initial) ≡ ones (t.initial / 2 ^ 0) = ons_ones 0 t.width t.initial (subst (λ k. t.initial < 2 ^ k) (sym z) (within ws e).start) in
    let m : ones s ≡ length (on_words 0 t.width t.initial) = ap ones (same ∙ sym one) ∙ sym n in
    omega arith

-- the part ps begins at the place `at`, and `rest` follows it
pub record PartAt (ws : List ℕ) (at : ℕ) (ps rest : List ℕ) : Type 0 where
  pub here : drop at ws ≡ part_words ps ++ rest
  pub short : length ps ≤ 4096

module _ (ws : List ℕ) (at : ℕ) (ps rest : List ℕ) (p : PartAt ws at ps rest) where
  pub part_count : length ws ≡ at + 1 + length ps + length rest
  part_count =
      let n : length (drop at ws) ≡ suc (length ps + length rest) = ap length p.here ∙ ap suc (length-append ps rest) in
      omega (arith, length-drop at ws)

  pub part_load : load_of (get_or ws at 0) ≡ length ps
  part_load =
      let z : at + 0 ≡ at = omega arith in
      let small : length ps < 2 ^ 28 = omega (arith, p.short) in
      ap (λ i. load_of (get_or ws i 0)) (sym z) ∙ ap load_of (sym (get_or-drop at ws 0 0)) ∙ ap (λ xs. load_of (get_or xs 0 0)) p.here ∙ load_of_word Part (length ps) small

  pub part_fits : at + 1 + load_of (get_or ws at 0) ≤ length ws
  part_fits = omega (arith, part_load, part_count)

  behind_head : drop (at + 1) ws ≡ ps ++ rest
  behind_head = sym (drop-drop 1 at ws) ∙ ap (drop 1) p.here

  pub part_is : take (load_of (get_or ws at 0)) (drop (at + 1) ws) ≡ ps
  part_is = ap (λ xs. take (load_of (get_or ws at 0)) xs) behind_head ∙ take_at ps rest (load_of (get_or ws at 0)) (sym part_load)

  pub part_behind : drop (at + 1 + load_of (get_or ws at 0)) ws ≡ rest
  part_behind = sym (drop-drop (load_of (get_or ws at 0)) (at + 1) ws) ∙ ap (drop (load_of (get_or ws at 0))) behind_head ∙ drop_at ps rest (load_of (get_or ws at 0)) (sym part_load)

-- the goal's part
pub goal_part : (ws us : List ℕ) → us ≡ ws → is_accepted ws ≡ true → (at : ℕ) → at + 1 ≡ goal_place (task_tree ws) → PartAt us at (formula_words (task_tree ws).goal) (operators_words (task_tree ws).operators)
goal_part ws us same e at place =
    let t = task_tree ws in
    let ons = on_words 0 t.width t.initial in
    let n : suc (length ons) ≡ at = omega arith in
    record {
      here = ap (drop at) (same ∙ sym (renders ws e)) ∙ drop_at (word Head t.width ∷ ons) (part_words (formula_words t.goal) ++ operators_words t.operators) at n;
      short = (within ws e).goal.short;
    }

-- what a part's type says of its words
pub formula_filled : (n : ℕ) (f : Formula) (ps : List ℕ) → 1 ≤ n → n ≤ 64 → FormulaWithin n f → ps ≡ formula_words f → (1 ≤ length ps) × (length ps ≤ 4096) × (is_formula n ps ≡ true)
formula_filled n f ps some narrow w e =
    subst (λ xs. (1 ≤ length xs) × (length xs ≤ 4096) × (is_formula n xs ≡ true)) (sym e) (formula_some f, w.short, none_not _ (formula_formed n some narrow f w))

pub effect_filled : (n : ℕ) (f : Effect) (ps : List ℕ) → 1 ≤ n → n ≤ 64 → EffectWithin n f → ps ≡ effect_words f → (1 ≤ length ps) × (length ps ≤ 4096) × (is_effect n ps ≡ true)
effect_filled n f ps some narrow w e =
    subst (λ xs. (1 ≤ length xs) × (length xs ≤ 4096) × (is_effect n xs ≡ true)) (sym e) (effect_some f, w.short, none_not _ (effect_formed n some narrow f w))

-- before the operator k
pub record Walk (ws us : List ℕ) (at k : ℕ) : Type 0 where
  pub same : us ≡ ws
  pub words : drop at us ≡ operators_words (drop k (task_tree ws).operators)
  pub place : at + 1 ≡ precondition_place (task_tree ws) k

within_at : (n : ℕ) (os : List OperatorTree) (k : ℕ) → k < length os → OperatorsWithin n os → FormulaWithin n (get_or os k (record { precondition = TRUE; effect = NIL })).precondition × EffectWithin n (get_or os k (record { precondition = TRUE; effect = NIL })).effect
within_at n [] k lt w = absurd (omega arith)
within_at n (o ∷ os) zero lt w = w.0
within_at n (o ∷ os) (suc k) lt w = within_at n os k (omega arith) w.1

pub operator_within : (ws : List ℕ) → is_accepted ws ≡ true → (k : ℕ) → k < length (task_tree ws).operators → FormulaWithin (task_tree ws).width (operator_of (task_tree ws) k).precondition × EffectWithin (task_tree ws).width (operator_of (task_tree ws) k).effect
operator_within ws e k lt = within_at (task_tree ws).width (task_tree ws).operators k lt (within ws e).operators

pub walk_begins : (ws us vs : List ℕ) → us ≡ ws → vs ≡ us → is_accepted ws ≡ true → (at to : ℕ) → at + 1 ≡ goal_place (task_tree ws) → to ≡ at + 1 + load_of (get_or us at 0) → Walk ws vs to 0
walk_begins ws us vs same same' e at to place moved =
    let p = goal_part ws us same e at place in
    let l : load_of (get_or us at 0) ≡ length (formula_words (task_tree ws).goal) = part_load us at _ _ p in
    record {
      same = same' ∙ same;
      words = ap (drop to) same' ∙ ap (λ i. drop i us) moved ∙ part_behind us at _ _ p;
      place = omega arith;
    }

-- the operator's two parts
module _ (ws us : List ℕ) (e : is_accepted ws ≡ true) (at k : ℕ) (w : Walk ws us at k) (lt : k < length (task_tree ws).operators) where
  pub first_part : PartAt us at (formula_words (operator_of (task_tree ws) k).precondition) (part_words (effect_words (operator_of (task_tree ws) k).effect) ++ operators_words (drop (k + 1) (task_tree ws).operators))
  first_part =
      let os = (task_tree ws).operators in
      let o = operator_of (task_tree ws) k in
      record {
        here = w.words ∙ ap operators_words (drop_more os k (record { precondition = TRUE; effect = NIL }) lt) ∙ append_assoc (part_words (formula_words o.precondition)) (part_words (effect_words o.effect)) (operators_words (drop (k + 1) os));
        short = (operator_within ws e k lt).0.short;
      }

  pub first_load : load_of (get_or us at 0) ≡ length (formula_words (operator_of (task_tree ws) k).precondition)
  first_load = part_load us at _ _ first_part

  pub second_part : (vs : List ℕ) (to : ℕ) → vs ≡ us → to ≡ at + 1 + load_of (get_or us at 0) → PartAt vs to (effect_words (operator_of (task_tree ws) k).effect) (operators_words (drop (k + 1) (task_tree ws).operators))
  second_part vs to same moved = record {
    here = ap (drop to) same ∙ ap (λ i. drop i us) moved ∙ part_behind us at _ _ first_part;
    short = (operator_within ws e k lt).1.short;
  }

  pub second_place : (to : ℕ) → to ≡ at + 1 + load_of (get_or us at 0) → to + 1 ≡ effect_place (task_tree ws) k
  second_place to moved = omega (arith, first_load, w.place)

  one_operator_more : length (operators_words (take (k + 1) (task_tree ws).operators)) ≡ length (operators_words (take k (task_tree ws).operators)) + (1 + length (formula_words (operator_of (task_tree ws) k).precondition) + 1 + length (effect_words (operator_of (task_tree ws) k).effect))
  one_operator_more =
      let os = (task_tree ws).operators in
      let o = operator_of (task_tree ws) k in
      let a : operators_words (take (k + 1) os) ≡ operators_words (take k os) ++ operator_words o = ap operators_words (take_more os k (record { precondition = TRUE; effect = NIL }) lt) ∙ operators_push (take k os) o in
      let b : length (operator_words o) ≡ length (part_words (formula_words o.precondition)) + length (part_words (effect_words o.effect)) = length-append (part_words (formula_words o.precondition)) (part_words (effect_words o.effect)) in
      omega (arith, ap length a, length-append (operators_words (take k os)) (operator_words o))

  pub walk_on : (vs xs : List ℕ) (to till : ℕ) → vs ≡ us → xs ≡ vs → to ≡ at + 1 + load_of (get_or us at 0) → till ≡ to + 1 + load_of (get_or vs to 0) → Walk ws xs till (k + 1)
  walk_on vs xs to till same same' moved moved' =
      let q = second_part vs to same moved in
      let l : load_of (get_or vs to 0) ≡ length (effect_words (operator_of (task_tree ws) k).effect) = part_load vs to _ _ q in
      record {
        same = same' ∙ same ∙ w.same;
        words = ap (drop till) same' ∙ ap (λ i. drop i vs) moved' ∙ part_behind vs to _ _ q;
        place = omega (arith, first_load, w.place, one_operator_more);
      }

operators_append : (os ps : List OperatorTree) → operators_words (os ++ ps) ≡ operators_words os ++ operators_words ps
operators_append [] ps = refl
operators_append (o ∷ os) ps = ap (λ xs. operator_words o ++ xs) (operators_append os ps) ∙ sym (append_assoc (operator_words o) (operators_words os) (operators_words ps))

-- the place of a precondition tells what stands there
pub walk_at : (ws us : List ℕ) → us ≡ ws → is_accepted ws ≡ true → (at k : ℕ) → at + 1 ≡ precondition_place (task_tree ws) k → Walk ws us at k
walk_at ws us same e at k place =
    let t = task_tree ws in
    let ons = on_words 0 t.width t.initial in
    let goal = formula_words t.goal in
    let old = operators_words (take k t.operators) in
    let new = operators_words (drop k t.operators) in
    let front = word Head t.width ∷ (ons ++ (part_words goal ++ old)) in
    let split : operators_words t.operators ≡ old ++ new = ap operators_words (sym (take-append-drop k t.operators)) ∙ operators_append (take k t.operators) (drop k t.operators) in
    let all : task_words t ≡ front ++ new =
    ap (λ xs. word Head t.width ∷ (ons ++ (part_words goal ++ xs))) split
    ∙ ap (λ xs. word Head t.width ∷ (ons ++ xs)) (sym (append_assoc (part_words goal) old new))
    ∙ ap (λ xs. word Head t.width ∷ xs) (sym (append_assoc ons (part_words goal ++ old) new)) in
    let n : length front ≡ at = omega (arith, length-append ons (part_words goal ++ old), length-append (part_words goal) old) in
    record { same = same; words = ap (drop at) (same ∙ sym (renders ws e) ∙ all) ∙ drop_at front new at n; place = place }

-- an opened task has at most 16,384 words
pub few_words : (ws us : List ℕ) → us ≡ ws → is_accepted ws ≡ true → length us ≤ 16384
few_words ws us same e = subst (λ xs. length xs ≤ 16384) (renders ws e ∙ sym same) (within ws e).short

-- so a part stands before the 16,385th word
pub placed : (us : List ℕ) (at load place : ℕ) → place ≡ at + 1 → at + 1 + load ≤ length us → length us ≤ 16384 → place ≤ 16384
placed us at load place is fits few = omega arith

-- what `part` asks for, and what it gives, at the goal and at an operator
module _ (ws us : List ℕ) (same : us ≡ ws) (e : is_accepted ws ≡ true) (at : ℕ) where
  module _ (place : at + 1 ≡ goal_place (task_tree ws)) where
    pub goal_fits : at + 1 + load_of (get_or us at 0) ≤ length us
    goal_fits = part_fits us at _ _ (goal_part ws us same e at place)

    pub goal_is : take (load_of (get_or us at 0)) (drop (at + 1) us) ≡ formula_words (task_tree ws).goal
    goal_is = part_is us at _ _ (goal_part ws us same e at place)

  module _ (k : ℕ) (place : at + 1 ≡ precondition_place (task_tree ws) k) (lt : k < length (task_tree ws).operators) where
    pub first_fits : at + 1 + load_of (get_or us at 0) ≤ length us
    first_fits = part_fits us at _ _ (first_part ws us e at k (walk_at ws us same e at k place) lt)

    pub first_is : take (load_of (get_or us at 0)) (drop (at + 1) us) ≡ formula_words (operator_of (task_tree ws) k).precondition
    first_is = part_is us at _ _ (first_part ws us e at k (walk_at ws us same e at k place) lt)

    module _ (vs : List ℕ) (to : ℕ) (same' : vs ≡ us) (moved : to ≡ at + 1 + load_of (get_or us at 0)) where
      pub second_fits : to + 1 + load_of (get_or vs to 0) ≤ length vs
      second_fits = part_fits vs to _ _ (second_part ws us e at k (walk_at ws us same e at k place) lt vs to same' moved)

      pub second_is : take (load_of (get_or vs to 0)) (drop (to + 1) vs) ≡ effect_words (operator_of (task_tree ws) k).effect
      second_is = part_is vs to _ _ (second_part ws us e at k (walk_at ws us same e at k place) lt vs to same' moved)

      pub second_at : to + 1 ≡ effect_place (task_tree ws) k
      second_at = second_place ws us e at k (walk_at ws us same e at k place) lt to moved

-- the facts of a part's type, for the width that the task holds
module _ (ws : List ℕ) (e : is_accepted ws ≡ true) (n : ℕ) (wide : n ≡ (task_tree ws).width) where
  abbrev pub FormulaFacts : List ℕ → Type 0
  FormulaFacts ps = (1 ≤ n) × ((n ≤ 64) × ((1 ≤ length ps) × ((length ps ≤ 4096) × ((is_formula n ps ≡ true) × Unit {0}))))

  abbrev pub EffectFacts : List ℕ → Type 0
  EffectFacts ps = (1 ≤ n) × ((n ≤ 64) × ((1 ≤ length ps) × ((length ps ≤ 4096) × ((is_effect n ps ≡ true) × Unit {0}))))

  some : 1 ≤ n
  some = omega (arith, (within ws e).some)

  narrow : n ≤ 64
  narrow = omega (arith, (within ws e).narrow)

  pub formula_facts : (f : Formula) (ps : List ℕ) → FormulaWithin (task_tree ws).width f → ps ≡ formula_words f → FormulaFacts ps
  formula_facts f ps w is =
      let g = formula_filled n f ps some narrow (subst (λ m. FormulaWithin m f) (sym wide) w) is in
      (some, (narrow, (g.0, (g.1, (g.2, tt)))))

  pub effect_facts : (f : Effect) (ps : List ℕ) → EffectWithin (task_tree ws).width f → ps ≡ effect_words f → EffectFacts ps
  effect_facts f ps w is =
      let g = effect_filled n f ps some narrow (subst (λ m. EffectWithin m f) (sym wide) w) is in
      (some, (narrow, (g.0, (g.1, (g.2, tt)))))

  pub state_facts : (s : ℕ) → s ≡ (task_tree ws).initial → (1 ≤ n) × ((n ≤ 64) × ((s < 2 ^ n) × Unit {0}))
  state_facts s begun = (some, (narrow, (subst (λ m. s < 2 ^ m) (sym wide) (subst (λ x. x < 2 ^ (task_tree ws).width) (sym begun) (within ws e).start), tt)))
