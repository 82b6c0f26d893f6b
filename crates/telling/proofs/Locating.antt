-- Each word of a part of a task is told to stand in that part.
-- Assumes nothing.
use Rattle.std.proofs.Common.{◌≡◌, ℕ, zero, suc, ◌+◌, ◌-◌, ◌*◌, ◌%◌, ◌^◌, ◌<◌, ◌≤◌, min, List, [], ◌∷◌, ◌++◌, length, get_or, take, drop, codes, decimal, Some, inl, inr, sym, refl, ap, ap₂, ◌∙◌, arith}
use Rattle.std.proofs.lemmas.Bool.{cases_Bool, lt-ltb, eq-eqb, ne_eqb}
use Rattle.std.proofs.lemmas.List.{append_assoc, length-append, length-take-le, take-append-le, take-append-drop, drop_more}
use Rattle.std.proofs.Math.Seq.{take-append-add}
use Rattle.words.specs.declared.kind.Kind.{Kind}
use Rattle.words.specs.declared.kind.Kind.TheVariants.{Head, On, Part}
use Rattle.words.specs.Words.{word}
use Rattle.words.proofs.Joining.{kind_of_word, load_of_word}
use Rattle.planning.specs.Tree.{bit, TRUE, NIL, OperatorTree, TaskTree}
use Rattle.planning.specs.Render.{formula_words, effect_words, on_words, part_words, operator_words, operators_words, task_words}
use Rattle.planning.specs.Limits.{OperatorsWithin, TaskWithin}
use Rattle.tasks.specs.Places.{goal_place, operator_of, precondition_place, effect_place}
use Rattle.telling.specs.declared.location.Spot.{Spot}
use Rattle.telling.specs.declared.location.PartName.TheVariants.{Precondition, Effect}
use Rattle.telling.specs.Reasons.{part_named, part_name_text}
use Rattle.telling.specs.Locations.{begins_part, spot_after, spot_at, spot_text, location_text, LocationsTold}

abbrev spot : (parts left : ℕ) → Spot
spot p l = record { parts = p; left = l }

-- the words of a part are passed over
passed : (p : ℕ) (xs rest : List ℕ) → spot_after (spot p (length xs)) (xs ++ rest) ≡ spot_after (spot p 0) rest
passed p [] rest = refl
passed p (x ∷ xs) rest =
    let less : suc (length xs) - 1 ≡ length xs = omega arith in
    rw (spot_after, lt-ltb 0 (suc (length xs)) (omega arith)) (ap (λ l. spot_after (spot p l) (xs ++ rest)) less ∙ passed p xs rest)

-- some words of a part
inside : (p l : ℕ) (xs : List ℕ) → length xs ≤ l → spot_after (spot p l) xs ≡ spot p (l - length xs)
inside p l [] h = ap (spot p) (omega arith)
inside p l (x ∷ xs) h = rw (spot_after, lt-ltb 0 l (omega arith)) (inside p (l - 1) xs (omega arith) ∙ ap (spot p) (omega arith))

-- a PART begins a part
begins : (p l : ℕ) (rest : List ℕ) → l < 2 ^ 28 → p + 1 < 2 ^ 32 → spot_after (spot p 0) (word Part l ∷ rest) ≡ spot_after (spot (p + 1) l) rest
begins p l rest small few =
    let least : min (p + 1) (2 ^ 32 - 1) ≡ p + 1 = omega arith in
    rw (kind_of_word Part l small, load_of_word Part l small) (ap (λ n. spot_after (spot n l) rest) least)

part_passed : (p : ℕ) (ws rest : List ℕ) → length ws ≤ 4096 → p + 1 < 2 ^ 32 → spot_after (spot p 0) (part_words ws ++ rest) ≡ spot_after (spot (p + 1) 0) rest
part_passed p ws rest short few = begins p (length ws) (ws ++ rest) (omega arith) few ∙ passed (p + 1) ws rest

-- word i of a part that begins there
part_reached : (p i : ℕ) (ws rest : List ℕ) → i < length ws → length ws ≤ 4096 → p + 1 < 2 ^ 32 → spot_after (spot p 0) (take (suc i) (part_words ws ++ rest)) ≡ spot (p + 1) (length ws - i)
part_reached p i ws rest here short few =
    let some : length (take i ws) ≡ i = length-take-le i ws (omega arith) in
    ap (λ xs. spot_after (spot p 0) (word Part (length ws) ∷ xs)) (take-append-le i ws rest (omega arith))
    ∙ begins p (length ws) (take i ws) (omega arith) few
    ∙ inside (p + 1) (length ws) (take i ws) (omega arith) ∙ ap (λ n. spot (p + 1) (length ws - n)) some

-- behind a part
part_behind : (p m : ℕ) (ws rest : List ℕ) → length ws ≤ 4096 → p + 1 < 2 ^ 32 → spot_after (spot p 0) (take (length (part_words ws) + m) (part_words ws ++ rest)) ≡ spot_after (spot (p + 1) 0) (take m rest)
part_behind p m ws rest short few = ap (spot_after (spot p 0)) (take-append-add (part_words ws) rest m) ∙ part_passed p ws (take m rest) short few

-- a word of another kind begins no part
word_passed : (j : Kind) (l : ℕ) (rest : List ℕ) → l < 2 ^ 28 → begins_part (spot 0 0) (Some j) l ≡ spot 0 0 → spot_after (spot 0 0) (word j l ∷ rest) ≡ spot_after (spot 0 0) rest
word_passed j l rest h same = rw (kind_of_word j l h, load_of_word j l h) (ap (λ s. spot_after s rest) same)

-- nor do the ON words
ons_passed : (v k s : ℕ) (rest : List ℕ) → v + k ≤ 64 → spot_after (spot 0 0) (on_words v k s ++ rest) ≡ spot_after (spot 0 0) rest
ons_passed v zero s rest few = refl
ons_passed v (suc k) s rest few = elim (cases_Bool (bit s v)) [
  | inl on ↦ rw on (word_passed On v (on_words (v + 1) k s ++ rest) (omega arith) refl ∙ ons_passed (v + 1) k s rest (omega arith))
  | inr off ↦ rw off (ons_passed (v + 1) k s rest (omega arith))
]

operators_append : (os ps : List OperatorTree) → operators_words (os ++ ps) ≡ operators_words os ++ operators_words ps
operators_append [] ps = refl
operators_append (o ∷ os) ps = ap (λ ws. operator_words o ++ ws) (operators_append os ps) ∙ sym (append_assoc (operator_words o) (operators_words os) (operators_words ps))

-- operators begin two parts each
operators_passed : (n p : ℕ) (os : List OperatorTree) (rest : List ℕ) → OperatorsWithin n os → p + 2 * length os < 2 ^ 32 → spot_after (spot p 0) (operators_words os ++ rest) ≡ spot_after (spot (p + 2 * length os) 0) rest
operators_passed n p [] rest w few = ap (λ m. spot_after (spot m 0) rest) (omega arith)
operators_passed n p (o ∷ os) rest w few =
    let c = formula_words o.precondition in
    let e = effect_words o.effect in
    let apart : operators_words (o ∷ os) ++ rest ≡ part_words c ++ (part_words e ++ (operators_words os ++ rest)) = simp append_assoc in
    ap (spot_after (spot p 0)) apart ∙ part_passed p c (part_words e ++ (operators_words os ++ rest)) w.0.0.short (omega arith)
    ∙ part_passed (p + 1) e (operators_words os ++ rest) w.0.1.short (omega arith)
    ∙ operators_passed n (p + 1 + 1) os rest w.1 (omega arith) ∙ ap (λ m. spot_after (spot m 0) rest) (omega arith)

-- the first operators are within the limits, and each one
first_within : (n k : ℕ) (os : List OperatorTree) → OperatorsWithin n os → OperatorsWithin n (take k os)
first_within n zero os w = tt
first_within n (suc k) [] w = tt
first_within n (suc k) (o ∷ os) w = (w.0, first_within n k os w.1)

one_within : (n k : ℕ) (os : List OperatorTree) → k < length os → OperatorsWithin n os
    → (length (formula_words (get_or os k (record { precondition = TRUE; effect = NIL })).precondition) ≤ 4096)
    × (length (effect_words (get_or os k (record { precondition = TRUE; effect = NIL })).effect) ≤ 4096)
one_within n k [] lt w = absurd (omega arith)
one_within n zero (o ∷ os) lt w = (w.0.0.short, w.0.1.short)
one_within n (suc k) (o ∷ os) lt w = one_within n k os (omega arith) w.1

-- a word that stands in a part
in_part : (many place p l : ℕ) → place < many → 0 < place → 0 < l → spot_text many place (spot p l) ≡ codes "in " ++ part_name_text (part_named (p - 1))
in_part many place p l inner behind here = rw (lt-ltb place many inner, ne_eqb place 0 (λ e. omega arith), lt-ltb 0 l here) refl

named_precondition : (k : ℕ) → part_named (1 + 2 * k + 1 - 1) ≡ Precondition k
named_precondition k =
    let n : 1 + 2 * k + 1 - 1 ≡ 1 + 2 * k = omega arith in
    ap (λ m. part_named m) n ∙ rw (ne_eqb (1 + 2 * k) 0 (λ e. omega arith), eq-eqb ((1 + 2 * k) % 2) 1 (omega arith)) (ap Precondition (omega arith))

named_effect : (k : ℕ) → part_named (1 + 2 * k + 1 + 1 - 1) ≡ Effect k
named_effect k =
    let n : 1 + 2 * k + 1 + 1 - 1 ≡ 2 + 2 * k = omega arith in
    ap (λ m. part_named m) n ∙ rw (ne_eqb (2 + 2 * k) 0 (λ e. omega arith), ne_eqb ((2 + 2 * k) % 2) 1 (λ e. omega arith)) (ap Effect (omega arith))

-- HEAD, the ON words and the goal's part are passed over
module _ (t : TaskTree) (w : TaskWithin t) where
  abbrev ons : List ℕ
  ons = on_words 0 t.width t.initial

  abbrev goal : List ℕ
  goal = formula_words t.goal

  opening_passed : (rest : List ℕ) → spot_after (spot 0 0) (word Head t.width ∷ (ons ++ rest)) ≡ spot_after (spot 0 0) rest
  opening_passed rest = word_passed Head t.width (ons ++ rest) (omega (arith, w.narrow)) refl ∙ (ons_passed 0 t.width t.initial rest (omega (arith, w.narrow)))

  goal_reached : (i : ℕ) → i < length goal → spot_at (task_words t) (goal_place t + i) ≡ spot 1 (length goal - i)
  goal_reached i here =
      let rest = part_words goal ++ operators_words t.operators in
      let place : goal_place t + i ≡ length (word Head t.width ∷ ons) + suc i = omega arith in
      ap (λ n. spot_after (spot 0 0) (take n (task_words t))) place ∙ ap (spot_after (spot 0 0)) (take-append-add (word Head t.width ∷ ons) rest (suc i))
      ∙ opening_passed (take (suc i) rest) ∙ part_reached 0 i goal (operators_words t.operators) here w.goal.short (omega arith)

  goal_told : (i : ℕ) → i < length goal → location_text (task_words t) (goal_place t + i) ≡ codes "in the goal"
  goal_told i here =
      let many : length (task_words t) ≡ suc (length ons + suc (length goal + length (operators_words t.operators))) = ap suc (length-append ons (part_words goal ++ operators_words t.operators) ∙ ap (λ n. length ons + suc n) (length-append goal (operators_words t.operators))) in
      ap (spot_text (length (task_words t)) (goal_place t + i)) (goal_reached i here) ∙ in_part (length (task_words t)) (goal_place t + i) 1 (length goal - i) (omega arith) (omega arith) (omega arith)

  -- the words before operator k, its own, and those behind it
  module _ (k : ℕ) (lt : k < length t.operators) where
    abbrev o : OperatorTree
    o = operator_of t k

    abbrev before : List ℕ
    before = operators_words (take k t.operators)

    abbrev behind : List ℕ
    behind = operators_words (drop (k + 1) t.operators)

    abbrev needs : List ℕ
    needs = formula_words o.precondition

    abbrev does : List ℕ
    does = effect_words o.effect

    abbrev front : List ℕ
    front = word Head t.width ∷ (ons ++ (part_words goal ++ before))

    abbrev rest : List ℕ
    rest = part_words needs ++ (part_words does ++ behind)

    split : task_words t ≡ front ++ rest
    split =
        let operators : operators_words t.operators ≡ before ++ (operator_words o ++ behind) =
        ap operators_words (sym (take-append-drop k t.operators)) ∙ operators_append (take k t.operators) (drop k t.operators)
        ∙ ap (λ os. before ++ operators_words os) (drop_more t.operators k (record { precondition = TRUE; effect = NIL }) lt) in
        ap (λ ws. word Head t.width ∷ (ons ++ (part_words goal ++ ws))) operators ∙ simp append_assoc

    front_length : length front ≡ goal_place t + length goal + length before
    front_length = ap suc (length-append ons (part_words goal ++ before)) ∙ ap (λ n. suc (length ons + suc n)) (length-append goal before) ∙ omega arith

    short : (length needs ≤ 4096) × (length does ≤ 4096)
    short = one_within t.width k t.operators lt w.operators

    -- the words of operator k are reached behind 1 + 2 × k parts
    reached : (m : ℕ) → spot_at (task_words t) (goal_place t + length goal + length before + m) ≡ spot_after (spot (1 + 2 * k) 0) (take m rest)
    reached m =
        let many : length (take k t.operators) ≡ k = length-take-le k t.operators (omega arith) in
        let apart : front ++ take m rest ≡ word Head t.width ∷ (ons ++ (part_words goal ++ (before ++ take m rest))) = simp append_assoc in
        ap (λ n. spot_after (spot 0 0) (take (n + m) (task_words t))) (sym front_length) ∙ ap (λ ws. spot_after (spot 0 0) (take (length front + m) ws)) split
        ∙ ap (spot_after (spot 0 0)) (take-append-add front rest m ∙ apart)
        ∙ opening_passed (part_words goal ++ (before ++ take m rest)) ∙ part_passed 0 goal (before ++ take m rest) w.goal.short (omega arith)
        ∙ operators_passed t.width 1 (take k t.operators) (take m rest) (first_within t.width k t.operators w.operators) (omega (arith, w.few))
        ∙ ap (λ n. spot_after (spot (1 + 2 * n) 0) (take m rest)) many

    many : length (task_words t) ≡ goal_place t + length goal + length before + (suc (length needs + suc (length does + length behind)))
    many =
        let own : length rest ≡ suc (length needs + suc (length does + length behind)) =
        ap suc (length-append needs (part_words does ++ behind) ∙ ap (λ n. length needs + suc n) (length-append does behind)) in
        ap length split ∙ length-append front rest ∙ ap₂ ◌+◌ front_length own

    needs_told : (i : ℕ) → i < length needs → location_text (task_words t) (precondition_place t k + i) ≡ codes "in the precondition of operator " ++ decimal k
    needs_told i here =
        let place : precondition_place t k + i ≡ goal_place t + length goal + length before + suc i = omega arith in
        let spot_is : spot_at (task_words t) (precondition_place t k + i) ≡ spot (1 + 2 * k + 1) (length needs - i) =
        ap (spot_at (task_words t)) place ∙ reached (suc i) ∙ part_reached (1 + 2 * k) i needs (part_words does ++ behind) here short.0 (omega (arith, w.few)) in
        ap (spot_text (length (task_words t)) (precondition_place t k + i)) spot_is
        ∙ in_part (length (task_words t)) (precondition_place t k + i) (1 + 2 * k + 1) (length needs - i) (omega (arith, many)) (omega arith) (omega arith)
        ∙ ap (λ name. codes "in " ++ part_name_text name) (named_precondition k)

    does_told : (i : ℕ) → i < length does → location_text (task_words t) (effect_place t k + i) ≡ codes "in the effect of operator " ++ decimal k
    does_told i here =
        let place : effect_place t k + i ≡ goal_place t + length goal + length before + (suc (length needs) + suc i) = omega arith in
        let spot_is : spot_at (task_words t) (effect_place t k + i) ≡ spot (1 + 2 * k + 1 + 1) (length does - i) =
        ap (spot_at (task_words t)) place ∙ reached (suc (length needs) + suc i) ∙ part_behind (1 + 2 * k) (suc i) needs (part_words does ++ behind) short.0 (omega (arith, w.few))
        ∙ part_reached (1 + 2 * k + 1) i does behind here short.1 (omega (arith, w.few)) in
        ap (spot_text (length (task_words t)) (effect_place t k + i)) spot_is
        ∙ in_part (length (task_words t)) (effect_place t k + i) (1 + 2 * k + 1 + 1) (length does - i) (omega (arith, many)) (omega arith) (omega arith)
        ∙ ap (λ name. codes "in " ++ part_name_text name) (named_effect k)

pub locations_told : (t : TaskTree) → TaskWithin t → LocationsTold t
locations_told t w = record {
  goal = goal_told t w;
  precondition = λ k i lt here. needs_told t w k lt i here;
  effect = λ k i lt here. does_told t w k lt i here;
}
