-- Words with no fault are the words of the task that they are read into.
-- Assumes nothing.
use Rattle.std.proofs.Common.{◌≡◌, ℕ, ◌+◌, ◌≤◌, Bool, true, false, cond, ltb, List, [], ◌∷◌, ◌++◌, length, Some, None, Option, sym, refl, ap, ◌∙◌, subst, arith}
use Rattle.std.proofs.lemmas.List.{append_assoc, append-nil}
use Rattle.std.proofs.lemmas.Bool.{ltb-false, true≢false}
use Rattle.words.specs.declared.fault.Fault.{Fault}
use Rattle.words.specs.declared.fault.Refusal.{Refusal}
use Rattle.words.specs.declared.fault.Refusal.TheVariants.{WordMissing, TooLong}
use Rattle.words.specs.declared.kind.Kind.{Kind}
use Rattle.words.specs.Refusals.{task_fault}
use Rattle.words.specs.Words.{kind_of, load_of}
use Rattle.words.proofs.Joining.{word_of_kind}
use Rattle.planning.specs.Render.{task_words}
use Rattle.planning.specs.Limits.{TaskWithin}
use Rattle.reading.specs.Turns.{at_head}
use Rattle.reading.specs.Rules.{complete}
use Rattle.reading.specs.Faults.{word_refusal, turn_past, first_or, fault_from, task_fault_of}
use Rattle.reading.specs.Trees.{Sofar, nothing, heading, between, inside, goal_next, operator_next, effect_next, read_word, read_words, task_so_far, task_tree}
use Rattle.reading.proofs.Clean.{clean}
use Rattle.reading.proofs.Sound.{turn_of, all_written, Valid, Nearly, Next, next}

-- one word more, as it stands in the words
pub record Onward (sofar : Sofar) (w : ℕ) (o : Option Kind) : Type 0 where
  pub turn : turn_of (read_word sofar o (load_of w)) ≡ turn_past (turn_of sofar) o (load_of w)
  pub words : all_written (read_word sofar o (load_of w)) ≡ all_written sofar ++ (w ∷ [])
  pub valid : Valid (read_word sofar o (load_of w))

onward_as : (sofar : Sofar) (rest w : ℕ) (o : Option Kind) → kind_of w ≡ o → Valid sofar → word_refusal (turn_of sofar) rest o (load_of w) ≡ None → Onward sofar w o
onward_as sofar rest w None e v r = let z : ◌≡◌ {A = ℕ} 0 1 = cc in absurd (omega arith)
onward_as sofar rest w (Some j) e v r =
    let n : Next sofar j (load_of w) = next sofar rest j (load_of w) v (clean (turn_of sofar) rest j (load_of w) r) in
    record {
      turn = n.turn;
      words = n.words ∙ ap (λ x. all_written sofar ++ (x ∷ [])) (sym (word_of_kind w j e));
      valid = n.valid;
    }

pub onward : (sofar : Sofar) (rest w : ℕ) → Valid sofar → word_refusal (turn_of sofar) rest (kind_of w) (load_of w) ≡ None → Onward sofar w (kind_of w)
onward sofar rest w v r = onward_as sofar rest w (kind_of w) refl v r

pub first_none : (o : Option Refusal) (i : ℕ) (later : Option Fault) → first_or o i later ≡ None → (o ≡ None) × (later ≡ None)
first_none None i later e = (refl, e)
first_none (Some r) i later e = let z : ◌≡◌ {A = ℕ} 0 1 = cc in absurd (omega arith)

end_none : (b : Bool) (f : Fault) → cond b None (Some f) ≡ None → b ≡ true
end_none true f e = refl
end_none false f e = let z : ◌≡◌ {A = ℕ} 0 1 = cc in absurd (omega arith)

pub record Read (sofar : Sofar) (ws : List ℕ) : Type 0 where
  pub ends : complete (turn_of (read_words sofar ws)) ≡ true
  pub words : all_written (read_words sofar ws) ≡ all_written sofar ++ ws
  pub valid : Valid (read_words sofar ws)

pub read : (sofar : Sofar) (i : ℕ) (ws : List ℕ) → Valid sofar → fault_from (turn_of sofar) i ws ≡ None → Read sofar ws
read sofar i [] v e = record { ends = end_none (complete (turn_of sofar)) (task_fault WordMissing i) e; words = sym (append-nil (all_written sofar)); valid = v }
read sofar i (w ∷ ws) v e =
    let p = first_none (word_refusal (turn_of sofar) (length ws) (kind_of w) (load_of w)) i (fault_from (turn_past (turn_of sofar) (kind_of w) (load_of w)) (i + 1) ws) e in
    let o = onward sofar (length ws) w v p.0 in
    let r = read (read_word sofar (kind_of w) (load_of w)) (i + 1) ws o.valid (subst (λ t. fault_from t (i + 1) ws ≡ None) (sym o.turn) p.1) in
    record { ends = r.ends; words = r.words ∙ ap (λ xs. xs ++ ws) o.words ∙ append_assoc (all_written sofar) (w ∷ []) ws; valid = r.valid }

-- a complete reading is a whole task
pub whole_task : (sofar : Sofar) → complete (turn_of sofar) ≡ true → Valid sofar → Nearly (task_so_far sofar) × (task_words (task_so_far sofar) ≡ all_written sofar)
whole_task nothing e v = absurd (true≢false (sym e))
whole_task (heading n s low) e v = absurd (true≢false (sym e))
whole_task (between (goal_next n s)) e v = absurd v.1
whole_task (between (operator_next t)) e v = (v.0, refl)
whole_task (between (effect_next t c)) e v = absurd (true≢false (sym e))
whole_task (inside b left vs) e v = absurd (true≢false (sym e))

long_none : (ws : List ℕ) → task_fault_of ws ≡ None → (ltb 16384 (length ws) ≡ false) × (fault_from at_head 0 ws ≡ None)
long_none ws = by (ltb 16384 (length ws)) (fault_from at_head 0 ws)
  where
    by : (b : Bool) (o : Option Fault) → cond b (Some (task_fault TooLong 16384)) o ≡ None → (b ≡ false) × (o ≡ None)
    by true o e = let z : ◌≡◌ {A = ℕ} 0 1 = cc in absurd (omega arith)
    by false o e = (refl, e)

pub accepted : (ws : List ℕ) → task_fault_of ws ≡ None → TaskWithin (task_tree ws) × (task_words (task_tree ws) ≡ ws)
accepted ws e =
    let p = long_none ws e in
    let r = read nothing 0 ws tt p.1 in
    let q = whole_task (read_words nothing ws) r.ends r.valid in
    let n : Nearly (task_tree ws) = q.0 in
    let same : task_words (task_tree ws) ≡ ws = q.1 ∙ r.words in (
      record { some = n.some; narrow = n.narrow; start = n.start; goal = n.goal; operators = n.operators; few = n.few; short = subst (λ xs. length xs ≤ 16384) (sym same) (ltb-false 16384 (length ws) p.0) },
      same,
    )
