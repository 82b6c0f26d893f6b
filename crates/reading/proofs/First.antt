-- The first faulty word decides.
-- Assumes nothing.
use Rattle.std.proofs.Common.{◌≡◌, ℕ, zero, suc, ◌+◌, ◌<◌, ◌≤◌, Bool, true, false, cond, ltb, List, [], ◌∷◌, length, Some, None, Option, sym, refl, ap, ◌∙◌, subst, arith}
use Rattle.std.proofs.lemmas.Bool.{cond-true, cond-false, lt-ltb, le-ltb}
use Rattle.words.specs.declared.fault.Fault.{Fault}
use Rattle.words.specs.declared.fault.Refusal.{Refusal}
use Rattle.words.specs.declared.fault.Refusal.TheVariants.{WordMissing, TooLong}
use Rattle.words.specs.Refusals.{task_fault}
use Rattle.words.specs.Words.{kind_of, load_of}
use Rattle.reading.specs.Turns.{Turn, at_head}
use Rattle.reading.specs.Rules.{complete}
use Rattle.reading.specs.Faults.{word_refusal, turn_past, first_or, fault_from, task_fault_of}
use Rattle.reading.specs.Laws.{refusal_from, FirstAt, FirstFaultDecides}

-- the first refusal of these words is r, at k words from their start
record Leading (turn : Turn) (ws : List ℕ) (k : ℕ) (r : Refusal) : Type 0 where
  pub within : k ≤ length ws
  pub here : refusal_from turn ws k ≡ Some r
  pub before : (j : ℕ) → j < k → refusal_from turn ws j ≡ None

-- the end of the words
end_refused : (b : Bool) (i : ℕ) (r : Refusal) → cond b None (Some WordMissing) ≡ Some r → cond b None (Some (task_fault WordMissing i)) ≡ Some (task_fault r i)
end_refused true i r e = let z : ◌≡◌ {A = ℕ} 0 1 = cc in absurd (omega arith)
end_refused false i r e = let same : WordMissing ≡ r = cc in ap (λ x. Some (task_fault x i)) same

end_found : (b : Bool) (i : ℕ) (f : Fault) → cond b None (Some (task_fault WordMissing i)) ≡ Some f → (cond b None (Some WordMissing) ≡ Some f.refusal) × (f ≡ task_fault f.refusal i)
end_found true i f e = let z : ◌≡◌ {A = ℕ} 0 1 = cc in absurd (omega arith)
end_found false i f e =
    let same : task_fault WordMissing i ≡ f = cc in
    subst (λ x. (◌≡◌ {A = Option Refusal} (Some WordMissing) (Some x.refusal)) × (x ≡ task_fault x.refusal i)) same (refl, refl)

end_clear : (b : Bool) (i : ℕ) → cond b None (Some (task_fault WordMissing i)) ≡ None → cond b None (Some WordMissing) ≡ None
end_clear true i e = refl
end_clear false i e = let z : ◌≡◌ {A = ℕ} 0 1 = cc in absurd (omega arith)

-- one word
word_clear : (o : Option Refusal) (i : ℕ) (later : Option Fault) → first_or o i later ≡ None → (o ≡ None) × (later ≡ None)
word_clear None i later e = (refl, e)
word_clear (Some r) i later e = let z : ◌≡◌ {A = ℕ} 0 1 = cc in absurd (omega arith)

refused : (turn : Turn) (i : ℕ) (ws : List ℕ) (k : ℕ) (r : Refusal) → Leading turn ws k r → fault_from turn i ws ≡ Some (task_fault r (i + k))
refused turn i [] k r a =
    let e : i ≡ i + k = omega (arith, a.within) in
    end_refused (complete turn) i r a.here ∙ ap (λ x. Some (task_fault r x)) e
refused turn i (w ∷ ws) zero r a =
    let e : i ≡ i + zero = omega arith in
    ap (λ o. first_or o i (fault_from (turn_past turn (kind_of w) (load_of w)) (i + 1) ws)) a.here ∙ ap (λ x. Some (task_fault r x)) e
refused turn i (w ∷ ws) (suc k) r a =
    let e : i + 1 + k ≡ i + suc k = omega arith in
    let more : Leading (turn_past turn (kind_of w) (load_of w)) ws k r = record { within = omega (arith, a.within); here = a.here; before = λ j h. a.before (suc j) (omega arith) } in
    ap (λ o. first_or o i (fault_from (turn_past turn (kind_of w) (load_of w)) (i + 1) ws)) (a.before zero (omega arith))
    ∙ refused (turn_past turn (kind_of w) (load_of w)) (i + 1) ws k r more
    ∙ ap (λ x. Some (task_fault r x)) e

-- the first faulty word behind a fault
record Found (turn : Turn) (i : ℕ) (ws : List ℕ) (f : Fault) : Type 0 where
  pub at : ℕ
  pub leading : Leading turn ws at f.refusal
  pub same : f ≡ task_fault f.refusal (i + at)

found_here : (turn : Turn) (i w : ℕ) (ws : List ℕ) (f : Fault) (r : Refusal) → word_refusal turn (length ws) (kind_of w) (load_of w) ≡ Some r → Some (task_fault r i) ≡ Some f → Found turn i (w ∷ ws) f
found_here turn i w ws f r o e =
    let same : task_fault r i ≡ f = cc in
    let z : i ≡ i + 0 = omega arith in
    subst (Found turn i (w ∷ ws)) same (record {
      at = 0;
      leading = record { within = omega arith; here = o; before = λ j h. absurd (omega arith) };
      same = ap (task_fault r) z;
    })

before_more : (turn : Turn) (w : ℕ) (ws : List ℕ) (k : ℕ) → word_refusal turn (length ws) (kind_of w) (load_of w) ≡ None → ((j : ℕ) → j < k → refusal_from (turn_past turn (kind_of w) (load_of w)) ws j ≡ None) → (j : ℕ) → j < suc k → refusal_from turn (w ∷ ws) j ≡ None
before_more turn w ws k o h zero b = o
before_more turn w ws k o h (suc j) b = h j (omega arith)

found_later : (turn : Turn) (i w : ℕ) (ws : List ℕ) (f : Fault) → word_refusal turn (length ws) (kind_of w) (load_of w) ≡ None → Found (turn_past turn (kind_of w) (load_of w)) (i + 1) ws f → Found turn i (w ∷ ws) f
found_later turn i w ws f o a =
    let e : i + 1 + a.at ≡ i + suc a.at = omega arith in
    record {
      at = suc a.at;
      leading = record { within = omega (arith, a.leading.within); here = a.leading.here; before = before_more turn w ws a.at o a.leading.before };
      same = a.same ∙ ap (task_fault f.refusal) e;
    }

-- a fault at the word, or among the words after it
found_as : (turn : Turn) (i w : ℕ) (ws : List ℕ) (f : Fault) (o : Option Refusal) → (fault_from (turn_past turn (kind_of w) (load_of w)) (i + 1) ws ≡ Some f → Found (turn_past turn (kind_of w) (load_of w)) (i + 1) ws f) → word_refusal turn (length ws) (kind_of w) (load_of w) ≡ o → first_or o i (fault_from (turn_past turn (kind_of w) (load_of w)) (i + 1) ws) ≡ Some f → Found turn i (w ∷ ws) f
found_as turn i w ws f None more o e = found_later turn i w ws f o (more e)
found_as turn i w ws f (Some r) more o e = found_here turn i w ws f r o e

found : (turn : Turn) (i : ℕ) (ws : List ℕ) (f : Fault) → fault_from turn i ws ≡ Some f → Found turn i ws f
found turn i [] f e =
    let p = end_found (complete turn) i f e in
    let z : i ≡ i + 0 = omega arith in
    record {
      at = 0;
      leading = record { within = omega arith; here = p.0; before = λ j h. absurd (omega arith) };
      same = p.1 ∙ ap (task_fault f.refusal) z;
    }
found turn i (w ∷ ws) f e = found_as turn i w ws f (word_refusal turn (length ws) (kind_of w) (load_of w)) (found (turn_past turn (kind_of w) (load_of w)) (i + 1) ws f) refl e

clear : (turn : Turn) (i : ℕ) (ws : List ℕ) → fault_from turn i ws ≡ None → (k : ℕ) → k ≤ length ws → refusal_from turn ws k ≡ None
clear turn i [] e k h = end_clear (complete turn) i e
clear turn i (w ∷ ws) e zero h = (word_clear (word_refusal turn (length ws) (kind_of w) (load_of w)) i _ e).0
clear turn i (w ∷ ws) e (suc k) h = clear (turn_past turn (kind_of w) (load_of w)) (i + 1) ws (word_clear (word_refusal turn (length ws) (kind_of w) (load_of w)) i _ e).1 k (omega arith)

short : (ws : List ℕ) → length ws ≤ 16384 → task_fault_of ws ≡ fault_from at_head 0 ws
short ws h = cond-false (ltb 16384 (length ws)) (Some (task_fault TooLong 16384)) (fault_from at_head 0 ws) (le-ltb 16384 (length ws) h)

first : (ws : List ℕ) (i : ℕ) (r : Refusal) → FirstAt ws i r → fault_from at_head 0 ws ≡ Some (task_fault r i)
first ws i r a =
    let e : 0 + i ≡ i = omega arith in
    refused at_head 0 ws i r (record { within = a.within; here = a.here; before = a.before }) ∙ ap (λ x. Some (task_fault r x)) e

first_found : (ws : List ℕ) (f : Fault) → Found at_head 0 ws f → FirstAt ws f.place f.refusal × (f ≡ task_fault f.refusal f.place)
first_found ws f a =
    let e : 0 + a.at ≡ a.at = omega arith in
    let same : f ≡ task_fault f.refusal a.at = a.same ∙ ap (task_fault f.refusal) e in
    let there : a.at ≡ f.place = sym (ap (λ x. x.place) same) in
    let lead : FirstAt ws a.at f.refusal = record { within = a.leading.within; here = a.leading.here; before = a.leading.before } in
    subst (λ p. FirstAt ws p f.refusal × (f ≡ task_fault f.refusal p)) there (lead, same)

pub first_fault_decides : (ws : List ℕ) → FirstFaultDecides ws
first_fault_decides ws = record {
  long = λ h. cond-true (ltb 16384 (length ws)) (Some (task_fault TooLong 16384)) (fault_from at_head 0 ws) (lt-ltb 16384 (length ws) h);
  first = λ h i r a. short ws h ∙ first ws i r a;
  found = λ h f e. first_found ws f (found at_head 0 ws f (sym (short ws h) ∙ e));
  none = λ h e i b. clear at_head 0 ws (sym (short ws h) ∙ e) i b;
}
