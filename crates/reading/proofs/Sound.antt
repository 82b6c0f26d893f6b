-- One faultless word more: the tree that is read so far keeps in step with the turn and with the words.
-- Assumes nothing.
use Rattle.std.proofs.Common.{◌≡◌, ℕ, zero, suc, ◌+◌, ◌-◌, ◌^◌, ◌<◌, ◌≤◌, true, false, not, ◌&&◌, ◌||◌, eqb, ltb, leb, List, [], ◌∷◌, ◌++◌, map, length, Some, sym, refl, ap, ◌∙◌, subst, inl, inr, lt_of_lt_of_le, arith, pow_mono}
use Rattle.std.proofs.lemmas.List.{append_assoc, append-nil, length_push}
use Rattle.std.proofs.lemmas.Bool.{cond-false, or_parts, or_cases, eqb-true, eqb-false, ne_eqb, leb-false, ltb-false, not-false, true≢false}
use Rattle.words.specs.declared.kind.Kind.{Kind}
use Rattle.words.specs.declared.kind.Kind.TheVariants.{Head, On, Part}
use Rattle.words.specs.Words.{word, kind_number, kind_named}
use Rattle.words.proofs.Joining.{kind_named_number}
use Rattle.planning.specs.Tree.{OperatorTree, TaskTree}
use Rattle.planning.specs.Render.{formula_words, effect_words, part_words, operator_words, operators_words, on_words, task_words}
use Rattle.planning.specs.Limits.{FormulaWithin, EffectWithin, OperatorsWithin}
use Rattle.reading.specs.declared.section.Sort.{Sort}
use Rattle.reading.specs.declared.section.Section.{Section}
use Rattle.reading.specs.declared.section.Section.TheVariants as section
use Rattle.reading.specs.Senses.{is_kind, load_sense, is_zero_load, part_sort, same_sort, waiting_after}
use Rattle.reading.specs.Turns.{Turn, at_head, at_on, at_part, in_part, turn_after, or_empty, operators_after, next_section}
use Rattle.reading.specs.Rules.{in_turn, lowest_on, bad_values, alone, all_operators}
use Rattle.reading.specs.Trees.{Value, formula, effect, newest, values_after, Before, goal_next, operator_next, effect_next, with_operator, whole, Sofar, nothing, heading, between, inside, read_kind}
use Rattle.reading.proofs.Clean.{Clean}
use Rattle.reading.proofs.Ons.{ons_all, ons_push, add_one_pow}
use Rattle.reading.proofs.Values.{value_sort, value_words, value_depth, ValueBelow, written, Stacked, Applied, applied}

abbrev pub before_width : Before → ℕ
before_width (goal_next n s) = n
before_width (operator_next t) = t.width
before_width (effect_next t c) = t.width

abbrev pub before_initial : Before → ℕ
before_initial (goal_next n s) = s
before_initial (operator_next t) = t.initial
before_initial (effect_next t c) = t.initial

abbrev pub before_count : Before → ℕ
before_count (goal_next n s) = 0
before_count (operator_next t) = length t.operators
before_count (effect_next t c) = length t.operators

abbrev pub before_section : Before → Section
before_section (goal_next n s) = section.Goal
before_section (operator_next t) = section.Precondition
before_section (effect_next t c) = section.Effect

-- the turn, by what is read so far
abbrev pub turn_of : Sofar → Turn
turn_of nothing = at_head
turn_of (heading n s low) = at_on n s low
turn_of (between b) = at_part (before_width b) (before_initial b) (before_count b) (before_section b)
turn_of (inside b left vs) = in_part (before_width b) (before_initial b) (before_count b) (before_section b) left (map value_sort vs)

abbrev pub before_words : Before → List ℕ
before_words (goal_next n s) = word Head n ∷ on_words 0 n s
before_words (operator_next t) = task_words t
before_words (effect_next t c) = task_words t ++ part_words (formula_words c)

-- the words that are read so far
abbrev pub all_written : Sofar → List ℕ
all_written nothing = []
all_written (heading n s low) = word Head n ∷ on_words 0 low s
all_written (between b) = before_words b
all_written (inside b left vs) = before_words b ++ (word Part (length (written vs) + left) ∷ written vs)

-- within the limits, but for the number of words
pub record Nearly (t : TaskTree) : Type 0 where
  pub some : 1 ≤ t.width
  pub narrow : t.width ≤ 64
  pub start : t.initial < 2 ^ t.width
  pub goal : FormulaWithin t.width t.goal
  pub operators : OperatorsWithin t.width t.operators
  pub few : length t.operators ≤ 512

abbrev pub Whole : Before → Type 0
Whole (goal_next n s) = (1 ≤ n) × (n ≤ 64) × (s < 2 ^ n)
Whole (operator_next t) = Nearly t
Whole (effect_next t c) = Nearly t × (length t.operators < 512) × FormulaWithin t.width c

-- a further part may begin
abbrev pub Open : Before → Type 0
Open (goal_next n s) = Unit {0}
Open (operator_next t) = length t.operators < 512
Open (effect_next t c) = Unit {0}

abbrev pub BehindGoal : Before → Type 0
BehindGoal (goal_next n s) = ⊥
BehindGoal (operator_next t) = Unit {0}
BehindGoal (effect_next t c) = Unit {0}

pub record Inside (b : Before) (left : ℕ) (vs : List Value) : Type 0 where
  pub whole : Whole b
  pub open' : Open b
  pub some : 1 ≤ left
  pub short : length (written vs) + left ≤ 4096
  pub stacked : Stacked (before_width b) vs

abbrev pub Valid : Sofar → Type 0
Valid nothing = Unit {0}
Valid (heading n s low) = (1 ≤ n) × (n ≤ 64) × (low ≤ n) × (s < 2 ^ low)
Valid (between b) = Whole b × BehindGoal b
Valid (inside b left vs) = Inside b left vs

pub record Follows (sofar : Sofar) (j : Kind) (l : ℕ) (after : Sofar) : Type 0 where
  pub turn : turn_of after ≡ turn_after (turn_of sofar) j l
  pub words : all_written after ≡ all_written sofar ++ (word j l ∷ [])
  pub valid : Valid after

abbrev pub Next : Sofar → Kind → ℕ → Type 0
Next sofar j l = Follows sofar j l (read_kind sofar j l)

pub kind_is : (j k : Kind) → is_kind j k ≡ true → j ≡ k
kind_is j k e =
    let p : kind_number j ≡ kind_number k = eqb-true (kind_number j) (kind_number k) e in
    let q : Some j ≡ Some k = sym (kind_named_number j) ∙ ap kind_named p ∙ kind_named_number k in
    cc

-- the kinds whose turn it is, in a clean word
pub clean_turn : (turn : Turn) (rest : ℕ) (j : Kind) (l : ℕ) → Clean turn rest j l → in_turn turn j ≡ true
clean_turn turn rest j l c = not-false (in_turn turn j) (or_parts _ _ c.right).0

pub clean_zero : (turn : Turn) (rest : ℕ) (j : Kind) (l : ℕ) → Clean turn rest j l → (is_zero_load (load_sense j) && not (eqb l 0)) ≡ false
clean_zero turn rest j l c = (or_parts _ _ (or_parts _ _ c.right).1).0

clean_rising : (turn : Turn) (rest : ℕ) (j : Kind) (l : ℕ) → Clean turn rest j l → (is_kind On j && ltb l (lowest_on turn)) ≡ false
clean_rising turn rest j l c = (or_parts (is_zero_load (load_sense j) && not (eqb l 0)) (is_kind On j && ltb l (lowest_on turn)) (or_parts (not (in_turn turn j)) _ c.right).1).1

next_head : (rest l : ℕ) → Clean at_head rest Head l → Next nothing Head l
next_head rest l c =
    let w : (eqb l 0 ≡ false) × (ltb 64 l ≡ false) = or_parts (eqb l 0) (ltb 64 l) c.width in
    record {
      turn = refl;
      words = refl;
      valid = (omega (arith, eqb-false l 0 w.0), ltb-false 64 l w.1, omega arith, omega arith);
    }

next_on : (n s low rest l : ℕ) → Valid (heading n s low) → Clean (at_on n s low) rest On l → Next (heading n s low) On l
next_on n s low rest l v c =
    let up : low ≤ l = ltb-false l low (clean_rising (at_on n s low) rest On l c) in
    let lt : l < n = leb-false n l c.below in
    let under : s < 2 ^ l = lt_of_lt_of_le v.3 (pow_mono up) in
    let e : suc l ≡ l + 1 = omega arith in
    record {
      turn = refl;
      words = ap (λ ws. word Head n ∷ ws) (ons_push low l s v.3 up);
      valid = (v.0, v.1, omega arith, subst (λ m. s + 2 ^ l < 2 ^ m) e (add_one_pow s l under));
    }

-- a part begins
begun : (b : Before) (l : ℕ) (before : List ℕ) → before_words b ≡ before → before_words b ++ (word Part (length (written []) + l) ∷ written []) ≡ before ++ (word Part l ∷ [])
begun b l before e =
    let z : 0 + l ≡ l = omega arith in
    ap (λ k. before_words b ++ (word Part k ∷ [])) z ∙ ap (λ ws. ws ++ (word Part l ∷ [])) e

inside_begun : (b : Before) (turn : Turn) (rest l : ℕ) → Whole b → Open b → Clean turn rest Part l → Inside b l []
inside_begun b turn rest l w o c =
    let p = or_parts (eqb l 0) (ltb 4096 l || all_operators turn) c.short in
    let q = or_parts (ltb 4096 l) (all_operators turn) p.1 in
    record {
      whole = w;
      open' = o;
      some = omega (arith, eqb-false l 0 p.0);
      short = omega (arith, ltb-false 4096 l q.0);
      stacked = tt;
    }

next_goal : (n s low rest l : ℕ) → Valid (heading n s low) → Clean (at_on n s low) rest Part l → Next (heading n s low) Part l
next_goal n s low rest l v c = record {
  turn = refl;
  words = begun (goal_next n s) l (word Head n ∷ on_words 0 low s) (ap (λ ws. word Head n ∷ ws) (ons_all low n s v.3 v.2));
  valid = inside_begun (goal_next n s) (at_on n s low) rest l (v.0, v.1, lt_of_lt_of_le v.3 (pow_mono v.2)) tt c;
}

next_heading : (n s low rest : ℕ) (j : Kind) (l : ℕ) → Valid (heading n s low) → Clean (at_on n s low) rest j l → Next (heading n s low) j l
next_heading n s low rest j l v c =
    elim (or_cases (is_kind On j) (is_kind Part j) (clean_turn (at_on n s low) rest j l c)) [
      | inl e ↦ subst (λ k. Clean (at_on n s low) rest k l → Next (heading n s low) k l) (kind_is On j e) (next_on n s low rest l v) c
      | inr e ↦ subst (λ k. Clean (at_on n s low) rest k l → Next (heading n s low) k l) (kind_is Part j e) (next_goal n s low rest l v) c
    ]

opened : (b : Before) (rest l : ℕ) → BehindGoal b → Clean (turn_of (between b)) rest Part l → Open b
opened (goal_next n s) rest l g c = absurd g
opened (operator_next t) rest l g c =
    let p = or_parts (eqb l 0) (ltb 4096 l || leb 512 (length t.operators)) c.short in
    leb-false 512 (length t.operators) (or_parts (ltb 4096 l) (leb 512 (length t.operators)) p.1).1
opened (effect_next t f) rest l g c = tt

next_part : (b : Before) (rest l : ℕ) → Valid (between b) → Clean (turn_of (between b)) rest Part l → Next (between b) Part l
next_part b rest l v c = record {
  turn = refl;
  words = begun b l (before_words b) refl;
  valid = inside_begun b (turn_of (between b)) rest l v.0 (opened b rest l v.1 c) c;
}

-- a part's last word: one value is left, of the part's sort
pub data Single (wanted : Sort) : List Value → Type 0 where
  single : (v : Value) → same_sort wanted (value_sort v) ≡ true → Single wanted (v ∷ [])

pub only_one : (wanted : Sort) (vs : List Value) → alone wanted (map value_sort vs) ≡ true → Single wanted vs
only_one wanted [] e = absurd (true≢false (sym e))
only_one wanted (v ∷ []) e = single v e
only_one wanted (v ∷ u ∷ vs) e = absurd (true≢false (sym e))

pub operators_push : (os : List OperatorTree) (o : OperatorTree) → operators_words (os ++ (o ∷ [])) ≡ operators_words os ++ operator_words o
operators_push [] o = append-nil (operator_words o)
operators_push (p ∷ os) o = ap (λ ws. operator_words p ++ ws) (operators_push os o) ∙ sym (append_assoc (operator_words p) (operators_words os) (operator_words o))

pub within_push : (n : ℕ) (os : List OperatorTree) (o : OperatorTree) → OperatorsWithin n os → FormulaWithin n o.precondition → EffectWithin n o.effect → OperatorsWithin n (os ++ (o ∷ []))
within_push n [] o ws f e = ((f, e), tt)
within_push n (p ∷ os) o ws f e = (ws.0, within_push n os o ws.1 f e)

-- the words of a task with one operator more
task_push : (t : TaskTree) (o : OperatorTree) → task_words (with_operator t o) ≡ task_words t ++ operator_words o
task_push t o =
    let ons = on_words 0 t.width t.initial in
    let goal = part_words (formula_words t.goal) in
    ap (λ ws. word Head t.width ∷ (ons ++ (goal ++ ws))) (operators_push t.operators o)
    ∙ ap (λ ws. word Head t.width ∷ (ons ++ ws)) (sym (append_assoc goal (operators_words t.operators) (operator_words o)))
    ∙ ap (λ ws. word Head t.width ∷ ws) (sym (append_assoc ons (goal ++ operators_words t.operators) (operator_words o)))

pub record Ended (b : Before) (v : Value) : Type 0 where
  pub turn : turn_of (between (whole b v)) ≡ at_part (before_width b) (before_initial b) (operators_after (before_section b) (before_count b)) (next_section (before_section b))
  pub words : before_words (whole b v) ≡ before_words b ++ part_words (value_words v)
  pub valid : Valid (between (whole b v))

pub ended : (b : Before) (v : Value) → same_sort (part_sort (before_section b)) (value_sort v) ≡ true → Whole b → Open b → ValueBelow (before_width b) v → value_depth v ≤ 64 → length (value_words v) ≤ 4096 → Ended b v
ended (goal_next n s) (effect e) same w o below shallow short = absurd (true≢false (sym same))
ended (goal_next n s) (formula g) same w o below shallow short = record {
  turn = refl;
  words = ap (λ ws. word Head n ∷ (on_words 0 n s ++ ws)) (append-nil (part_words (formula_words g)));
  valid = (
    record {
      some = w.0;
      narrow = w.1;
      start = w.2;
      goal = record { below = below; shallow = shallow; short = short };
      operators = tt;
      few = omega arith;
    },
    tt,
  );
}
ended (operator_next t) (effect e) same w o below shallow short = absurd (true≢false (sym same))
ended (operator_next t) (formula c) same w o below shallow short = record {
  turn = refl;
  words = refl;
  valid = ((w, o, record { below = below; shallow = shallow; short = short }), tt);
}
ended (effect_next t c) (formula f) same w o below shallow short = absurd (true≢false (sym same))
ended (effect_next t c) (effect e) same w o below shallow short =
    let op : OperatorTree = record { precondition = c; effect = e } in
    let l : length (t.operators ++ (op ∷ [])) ≡ length t.operators + 1 = length_push t.operators op in
    record {
      turn = ap (λ k. at_part t.width t.initial k section.Precondition) l;
      words = task_push t op ∙ sym (append_assoc (task_words t) (part_words (formula_words c)) (part_words (effect_words e)));
      valid = (
        record {
          some = w.0.some;
          narrow = w.0.narrow;
          start = w.0.start;
          goal = w.0.goal;
          operators = within_push t.width t.operators op w.0.operators w.2 (record { below = below; shallow = shallow; short = short });
          few = omega (arith, l, w.1);
        },
        tt,
      );
    }

push_in : (before ws : List ℕ) (x w : ℕ) → before ++ (x ∷ (ws ++ (w ∷ []))) ≡ (before ++ (x ∷ ws)) ++ (w ∷ [])
push_in before ws x w = sym (append_assoc before (x ∷ ws) (w ∷ []))

module _ (b : Before) (vs : List Value) (j : Kind) (l : ℕ) (a : Applied (before_width b) j l vs) where
  -- the words of the part, with the word just read
  grown : (us : List Value) → values_after j l vs ≡ us → (k m : ℕ) → length (written us) + m ≡ length (written vs) + k → before_words b ++ (word Part (length (written us) + m) ∷ written us) ≡ (before_words b ++ (word Part (length (written vs) + k) ∷ written vs)) ++ (word j l ∷ [])
  grown us e k m same =
      ap (λ n. before_words b ++ (word Part n ∷ written us)) same
      ∙ ap (λ ws. before_words b ++ (word Part (length (written vs) + k) ∷ ws)) (ap written (sym e) ∙ a.words)
      ∙ push_in (before_words b) (written vs) (word Part (length (written vs) + k)) (word j l)

  one_longer : (us : List Value) → values_after j l vs ≡ us → length (written us) ≡ length (written vs) + 1
  one_longer us e = ap (λ x. length (written x)) (sym e) ∙ ap length a.words ∙ length_push (written vs) (word j l)

  next_last : (us : List Value) → values_after j l vs ≡ us → Single (part_sort (before_section b)) us → Inside b 1 vs → Next (inside b 1 vs) j l
  next_last us e (single u same) v =
      let n : length (value_words u) ≡ length (written vs) + 1 = one_longer us e in
      let st : Stacked (before_width b) (u ∷ []) = subst (Stacked (before_width b)) e a.stacked in
      let d : value_depth u ≤ 64 = omega (arith, st.0.1) in
      let short : length (value_words u) ≤ 4096 = omega (arith, n, v.short) in
      let z : length (value_words u) + 0 ≡ length (value_words u) = omega arith in
      let z' : length (value_words u) + 0 ≡ length (written vs) + 1 = omega arith in
      let f : Ended b u = ended b u same v.whole v.open' st.0.0 d short in
      let to : whole b (newest (values_after j l vs)) ≡ whole b u = ap (λ xs. whole b (newest xs)) e in
      record {
        turn = ap (λ x. turn_of (between x)) to ∙ f.turn;
        words = ap before_words to ∙ f.words ∙ ap (λ k. before_words b ++ (word Part k ∷ value_words u)) (sym z) ∙ grown us e 1 0 z';
        valid = subst (λ x. Valid (between x)) (sym to) f.valid;
      }

  next_mid : (left : ℕ) → 2 ≤ left → Inside b left vs → Next (inside b left vs) j l
  next_mid left two v =
      let us = values_after j l vs in
      let off : eqb (left - 1) 0 ≡ false = ne_eqb (left - 1) 0 (λ q. omega arith) in
      let n : length (written us) ≡ length (written vs) + 1 = one_longer us refl in
      let m : length (written us) + (left - 1) ≡ length (written vs) + left = omega arith in
      let mid : Follows (inside b left vs) j l (inside b (left - 1) us) = record {
        turn =
            sym (cond-false (eqb (left - 1) 0) (at_part (before_width b) (before_initial b) (operators_after (before_section b) (before_count b)) (next_section (before_section b))) (in_part (before_width b) (before_initial b) (before_count b) (before_section b) (left - 1) (or_empty (waiting_after j (map value_sort vs)))) off
            ∙ ap (λ x. in_part (before_width b) (before_initial b) (before_count b) (before_section b) (left - 1) (or_empty x)) a.sorts);
        words = grown us refl left (left - 1) m;
        valid = record { whole = v.whole; open' = v.open'; some = omega arith; short = omega (arith, v.short, m); stacked = a.stacked };
      } in
      subst (Follows (inside b left vs) j l) (sym (cond-false (eqb (left - 1) 0) (between (whole b (newest us))) (inside b (left - 1) us) off)) mid

by_left : (b : Before) (left : ℕ) (vs : List Value) (rest : ℕ) (j : Kind) (l : ℕ) → Applied (before_width b) j l vs → Inside b left vs → Clean (turn_of (inside b left vs)) rest j l → Next (inside b left vs) j l
by_left b zero vs rest j l a v c = absurd (omega (arith, v.some))
by_left b (suc zero) vs rest j l a v c =
    let us = values_after j l vs in
    let bad : not (alone (part_sort (before_section b)) (map value_sort us)) ≡ false = subst (λ o. bad_values true (part_sort (before_section b)) o ≡ false) a.sorts c.operands in
    next_last b vs j l a us refl (only_one (part_sort (before_section b)) us (not-false (alone (part_sort (before_section b)) (map value_sort us)) bad)) v
by_left b (suc (suc m)) vs rest j l a v c = next_mid b vs j l a (suc (suc m)) (omega arith) v

next_inside : (b : Before) (left : ℕ) (vs : List Value) (rest : ℕ) (j : Kind) (l : ℕ) → Inside b left vs → Clean (turn_of (inside b left vs)) rest j l → Next (inside b left vs) j l
next_inside b left vs rest j l v c =
    let turn = turn_of (inside b left vs) in
    let a : Applied (before_width b) j l vs = applied (before_width b) l (eqb left 1) (part_sort (before_section b)) j vs v.stacked (clean_turn turn rest j l c) (clean_zero turn rest j l c) c.below c.operands c.waiting in
    by_left b left vs rest j l a v c

-- a faultless word
pub next : (sofar : Sofar) (rest : ℕ) (j : Kind) (l : ℕ) → Valid sofar → Clean (turn_of sofar) rest j l → Next sofar j l
next nothing rest j l v c = subst (λ k. Clean at_head rest k l → Next nothing k l) (kind_is Head j (clean_turn at_head rest j l c)) (next_head rest l) c
next (heading n s low) rest j l v c = next_heading n s low rest j l v c
next (between b) rest j l v c = subst (λ k. Clean (turn_of (between b)) rest k l → Next (between b) k l) (kind_is Part j (clean_turn (turn_of (between b)) rest j l c)) (next_part b rest l v) c
next (inside b left vs) rest j l v c = next_inside b left vs rest j l v c
