-- The loop over the words of a task.
-- Assumes nothing.
use Rattle.std.proofs.Common.{◌≡◌, ℕ, ◌+◌, ◌-◌, ◌<◌, ◌≤◌, true, false, cond, ltb, List, [], ◌∷◌, ◌++◌, length, get_or, take, drop, Some, None, sym, refl, ap, ◌∙◌, subst, arith, length-drop}
use Rattle.std.proofs.lemmas.List.{take_more, take_all, drop_more, drop_all}
use Rattle.std.proofs.lemmas.Bool.{cond-false, cond-true, le-ltb, lt-ltb, true≢false}
use Rattle.words.specs.declared.fault.Fault.{Fault}
use Rattle.words.specs.declared.fault.Refusal.{Refusal}
use Rattle.words.specs.declared.fault.Refusal.TheVariants.{TooLong, WordMissing}
use Rattle.words.specs.Refusals.{task_fault}
use Rattle.words.specs.Words.{kind_of, load_of}
use Rattle.planning.specs.Tree.{TaskTree}
use Rattle.reading.specs.declared.section.Section.{Section}
use Rattle.reading.specs.declared.section.Section.TheVariants as section
use Rattle.reading.specs.declared.section.Sort.{Sort}
use Rattle.reading.specs.Turns.{Turn, at_head, at_part}
use Rattle.reading.specs.Rules.{complete}
use Rattle.reading.specs.Faults.{word_refusal, turn_past, first_or, fault_from, task_fault_of}
use Rattle.reading.specs.Trees.{Sofar, nothing, heading, between, inside, goal_next, operator_next, effect_next, read_word, read_words, task_so_far, task_tree}
use Rattle.reading.proofs.Sound.{turn_of, Valid}
use Rattle.reading.proofs.Accepted.{Onward, onward}
use Rattle.reading.proofs.First.{first_fault_decides}
use Rattle.reading.proofs.Theorem.{accepted_when_rendered}
use Rattle.tasks.specs.declared.progress.Stage.{Stage}
use Rattle.tasks.specs.declared.progress.Stage.TheVariants as stage
use Rattle.tasks.specs.Opening.{Accepts, Refuses}
use Rattle.tasks.specs.Progress.{stage_turn, Bounded}

pub bounded : (sofar : Sofar) → Valid sofar → Bounded (turn_of sofar)
bounded nothing v = tt
bounded (heading n s low) v = (v.1, v.2, v.3)
bounded (between (goal_next n s)) v = absurd v.1
bounded (between (operator_next t)) v = v.0.few
bounded (between (effect_next t c)) v = v.0.0.few
bounded (inside (goal_next n s) left vs) v = (v.some, omega arith)
bounded (inside (operator_next t) left vs) v = (v.some, v.whole.few)
bounded (inside (effect_next t c) left vs) v = (v.some, v.whole.0.few)

read_push : (sofar : Sofar) (ws : List ℕ) (w : ℕ) → read_words sofar (ws ++ (w ∷ [])) ≡ read_word (read_words sofar ws) (kind_of w) (load_of w)
read_push sofar [] w = refl
read_push sofar (x ∷ ws) w = read_push (read_word sofar (kind_of x) (load_of x)) ws w

-- what holds before the word at i, where the progress stands for the turn
pub record Reading (ws : List ℕ) (i : ℕ) (turn : Turn) : Type 0 where
  pub short : length ws ≤ 16384
  pub fault : fault_from turn i (drop i ws) ≡ fault_from at_head 0 ws
  pub turn_is : turn ≡ turn_of (read_words nothing (take i ws))
  pub valid : Valid (read_words nothing (take i ws))

pub begin : (ws : List ℕ) (turn : Turn) → length ws ≤ 16384 → turn ≡ at_head → Reading ws 0 turn
begin ws turn short e = record { short = short; fault = ap (λ t. fault_from t 0 ws) e; turn_is = e; valid = tt }

module _ (ws : List ℕ) (i : ℕ) (turn : Turn) (r : Reading ws i turn) (lt : i < length ws) where
  rest_count : length ws - i - 1 ≡ length (drop (i + 1) ws)
  rest_count = omega (arith, length-drop (i + 1) ws)

  split_fault : fault_from turn i (drop i ws) ≡ first_or (word_refusal turn (length ws - i - 1) (kind_of (get_or ws i 0)) (load_of (get_or ws i 0))) i (fault_from (turn_past turn (kind_of (get_or ws i 0)) (load_of (get_or ws i 0))) (i + 1) (drop (i + 1) ws))
  split_fault =
      ap (fault_from turn i) (drop_more ws i 0 lt)
      ∙ ap (λ n. first_or (word_refusal turn n (kind_of (get_or ws i 0)) (load_of (get_or ws i 0))) i (fault_from (turn_past turn (kind_of (get_or ws i 0)) (load_of (get_or ws i 0))) (i + 1) (drop (i + 1) ws))) (sym rest_count)

  pub again : (after : Turn) → word_refusal turn (length ws - i - 1) (kind_of (get_or ws i 0)) (load_of (get_or ws i 0)) ≡ None → after ≡ turn_past turn (kind_of (get_or ws i 0)) (load_of (get_or ws i 0)) → Reading ws (i + 1) after
  again after fine e =
      let sofar = read_words nothing (take i ws) in
      let o : Onward sofar (get_or ws i 0) (kind_of (get_or ws i 0)) = onward sofar (length ws - i - 1) (get_or ws i 0) r.valid (subst (λ t. word_refusal t (length ws - i - 1) (kind_of (get_or ws i 0)) (load_of (get_or ws i 0)) ≡ None) r.turn_is fine) in
      let next : read_words nothing (take (i + 1) ws) ≡ read_word sofar (kind_of (get_or ws i 0)) (load_of (get_or ws i 0)) = ap (read_words nothing) (take_more ws i 0 lt) ∙ read_push nothing (take i ws) (get_or ws i 0) in
      record {
        short = r.short;
        fault =
            ap (λ t. fault_from t (i + 1) (drop (i + 1) ws)) e
            ∙ ap (λ x. first_or x i (fault_from (turn_past turn (kind_of (get_or ws i 0)) (load_of (get_or ws i 0))) (i + 1) (drop (i + 1) ws))) (sym fine)
            ∙ sym split_fault ∙ r.fault;
        turn_is = e ∙ ap (λ t. turn_past t (kind_of (get_or ws i 0)) (load_of (get_or ws i 0))) r.turn_is ∙ sym o.turn ∙ ap turn_of (sym next);
        valid = subst Valid (sym next) o.valid;
      }

  pub stopped : (why : Refusal) → word_refusal turn (length ws - i - 1) (kind_of (get_or ws i 0)) (load_of (get_or ws i 0)) ≡ Some why → task_fault_of ws ≡ Some (task_fault why i)
  stopped why e =
      cond-false (ltb 16384 (length ws)) (Some (task_fault TooLong 16384)) (fault_from at_head 0 ws) (le-ltb 16384 (length ws) r.short)
      ∙ sym r.fault ∙ split_fault
      ∙ ap (λ x. first_or x i (fault_from (turn_past turn (kind_of (get_or ws i 0)) (load_of (get_or ws i 0))) (i + 1) (drop (i + 1) ws))) e

pub too_long : (ws : List ℕ) → 16384 < length ws → task_fault_of ws ≡ Some (task_fault TooLong 16384)
too_long ws lt = cond-true (ltb 16384 (length ws)) (Some (task_fault TooLong 16384)) (fault_from at_head 0 ws) (lt-ltb 16384 (length ws) lt)

module _ (ws : List ℕ) (i : ℕ) (turn : Turn) (r : Reading ws i turn) (over : length ws ≤ i) (up : i ≤ length ws) where
  at_end : task_fault_of ws ≡ cond (complete turn) None (Some (task_fault WordMissing i))
  at_end =
      cond-false (ltb 16384 (length ws)) (Some (task_fault TooLong 16384)) (fault_from at_head 0 ws) (le-ltb 16384 (length ws) r.short)
      ∙ sym r.fault ∙ ap (fault_from turn i) (drop_all i ws over)

  pub broken_off : complete turn ≡ false → task_fault_of ws ≡ Some (task_fault WordMissing (length ws))
  broken_off e =
      let n : i ≡ length ws = omega arith in
      at_end ∙ cond-false (complete turn) None (Some (task_fault WordMissing i)) e ∙ ap (λ k. Some (task_fault WordMissing k)) n

  pub all_read : complete turn ≡ true → task_fault_of ws ≡ None
  all_read e = at_end ∙ cond-true (complete turn) None (Some (task_fault WordMissing i)) e

  pub ended_turn : turn ≡ turn_of (read_words nothing ws)
  ended_turn = r.turn_is ∙ ap (λ xs. turn_of (read_words nothing xs)) (take_all i ws over)

-- the numbers of a complete reading are those of the task
pub record Told (n s k : ℕ) (t : TaskTree) : Type 0 where
  pub width : n ≡ t.width
  pub initial : s ≡ t.initial
  pub operators : k ≡ length t.operators

part_fields : (at : Stage) (n s low k : ℕ) (here : Section) (left : ℕ) (waiting : List Sort) (n' s' k' : ℕ) (here' : Section) → stage_turn at n s low k here left waiting ≡ at_part n' s' k' here' → (n ≡ n') × (s ≡ s') × (k ≡ k')
part_fields stage.Head n s low k here left waiting n' s' k' here' e = let z : ◌≡◌ {A = ℕ} 0 1 = cc in absurd (omega arith)
part_fields stage.On n s low k here left waiting n' s' k' here' e = let z : ◌≡◌ {A = ℕ} 0 1 = cc in absurd (omega arith)
part_fields stage.Part n s low k here left waiting n' s' k' here' e = (cc, cc, cc)
part_fields stage.Inside n s low k here left waiting n' s' k' here' e = let z : ◌≡◌ {A = ℕ} 0 1 = cc in absurd (omega arith)

pub told : (at : Stage) (n s low k : ℕ) (here : Section) (left : ℕ) (waiting : List Sort) (sofar : Sofar) → stage_turn at n s low k here left waiting ≡ turn_of sofar → complete (turn_of sofar) ≡ true → Valid sofar → Told n s k (task_so_far sofar)
told at n s low k here left waiting nothing e c v = absurd (true≢false (sym c))
told at n s low k here left waiting (heading n' s' low') e c v = absurd (true≢false (sym c))
told at n s low k here left waiting (between (goal_next n' s')) e c v = absurd v.1
told at n s low k here left waiting (between (operator_next t)) e c v =
    let p = part_fields at n s low k here left waiting t.width t.initial (length t.operators) section.Precondition e in
    record { width = p.0; initial = p.1; operators = p.2 }
told at n s low k here left waiting (between (effect_next t f)) e c v = absurd (true≢false (sym c))
told at n s low k here left waiting (inside b left' vs) e c v = absurd (true≢false (sym c))

-- what no fault, or a fault, says of the words
pub accepts : (ws : List ℕ) → task_fault_of ws ≡ None → Accepts ws
accepts ws e = let a = accepted_when_rendered ws in record { faultless = e; renders = a.accepted e; only = a.only }

none_some : (f : Fault) → None ≡ Some f → ⊥
none_some f e = let z : ◌≡◌ {A = ℕ} 0 1 = cc in omega arith

some_same : (f g : Fault) → Some f ≡ Some g → f ≡ g
some_same f g e = cc

pub refuses : (ws : List ℕ) (f : Fault) → task_fault_of ws ≡ Some f → Refuses ws f
refuses ws f e =
    let d = first_fault_decides ws in
    record {
      fault = e;
      nothing = λ t r. none_some f (sym ((accepted_when_rendered ws).rendered t r) ∙ e);
      long = λ h. some_same f (task_fault TooLong 16384) (sym e ∙ d.long h);
      first = λ h. d.found h f e;
    }

-- the words are read to their end, and nothing is missing
pub finished : (ws : List ℕ) (i : ℕ) (at : Stage) (n s low k : ℕ) (here : Section) (left : ℕ) (waiting : List Sort) → Reading ws i (stage_turn at n s low k here left waiting) → length ws ≤ i → i ≤ length ws → complete (stage_turn at n s low k here left waiting) ≡ true → (task_fault_of ws ≡ None) × (n ≡ (task_tree ws).width) × (s ≡ (task_tree ws).initial) × (k ≡ length (task_tree ws).operators)
finished ws i at n s low k here left waiting r over up c =
    let turn = stage_turn at n s low k here left waiting in
    let e : turn ≡ turn_of (read_words nothing ws) = ended_turn ws i turn r over up in
    let v : Valid (read_words nothing ws) = subst (λ xs. Valid (read_words nothing xs)) (take_all i ws over) r.valid in
    let t : Told n s k (task_tree ws) = told at n s low k here left waiting (read_words nothing ws) e (sym (ap complete e) ∙ c) v in
    (all_read ws i turn r over up c, t.width, t.initial, t.operators)
