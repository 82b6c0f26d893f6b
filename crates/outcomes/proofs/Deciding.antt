-- How a plan is decided, step by step.
-- Assumes nothing.
use Rattle.std.proofs.Common.{◌≡◌, ℕ, ◌+◌, ◌<◌, ◌≤◌, true, false, eqb, ◌⊎◌, List, [], ◌∷◌, ◌++◌, length, sym, refl, ap, ◌∙◌, subst, ap₂, inl, inr, zero-add, arith}
use Rattle.std.proofs.lemmas.Bool.{cases_Bool, eq-eqb}
use Rattle.words.specs.declared.fault.Fault.{Fault}
use Rattle.words.specs.declared.fault.Refusal.TheVariants.{GoalMissed}
use Rattle.words.specs.Refusals.{run_fault}
use Rattle.planning.specs.Tree.{TaskTree}
use Rattle.planning.specs.Truth.{truth}
use Rattle.planning.specs.Steps.{Fits}
use Rattle.planning.specs.Sequences.{Leads, NumbersBelow, named}
use Rattle.planning.proofs.Leading.{leads_first}
use Rattle.tasks.specs.Places.{operator_of, goal_place}
use Rattle.outcomes.specs.Runs.{accepted, refused, state_after, changes_by, run_outcome, plan_outcome}
use Rattle.outcomes.specs.Laws.{total_changes, Accepted, NoNext, Stops, Refused, PlanDecided}
use Rattle.outcomes.proofs.Stepping.{Steps, Blocks, step_or_block, fitting_steps}

-- a run to the end of its numbers, into the goal
record Ends (t : TaskTree) (made c s : ℕ) (ks : List ℕ) : Type 0 where
  end : ℕ
  outcome : run_outcome t made c s ks ≡ accepted (made + length ks) (c + total_changes t.width (named t.operators ks) s) end
  few : made + length ks ≤ 4096
  numbers : NumbersBelow (length t.operators) ks
  leads : Leads t.width (named t.operators ks) s end
  goal : truth end t.goal ≡ true

-- a run that stops
record Fails (t : TaskTree) (made c s : ℕ) (ks : List ℕ) : Type 0 where
  fault : Fault
  outcome : run_outcome t made c s ks ≡ refused fault
  done : List ℕ
  left : List ℕ
  split : done ++ left ≡ ks
  few : made + length done ≤ 4096
  numbers : NumbersBelow (length t.operators) done
  state : ℕ
  leads : Leads t.width (named t.operators done) s state
  stops : Stops t (made + length done) state left fault

run_decided : (t : TaskTree) (made c s : ℕ) (ks : List ℕ) → made ≤ 4096 → Ends t made c s ks ⊎ Fails t made c s ks
run_decided t made c s [] l = goal (cases_Bool (truth s t.goal))
  where
    same : eqb t.width t.width ≡ true
    same = eq-eqb t.width t.width refl

    goal : (truth s t.goal ≡ true) ⊎ (truth s t.goal ≡ false) → Ends t made c s [] ⊎ Fails t made c s []
    goal (inl h) = inl (record {
      end = s;
      outcome = rw (same, h) (ap₂ (λ steps changes. accepted steps changes s) (omega arith) (omega arith));
      few = omega arith;
      numbers = tt;
      leads = refl;
      goal = h;
    })
    goal (inr h) = inr (record {
      fault = run_fault GoalMissed made (goal_place t);
      outcome = rw (same, h) refl;
      done = [];
      left = [];
      split = refl;
      few = omega arith;
      numbers = tt;
      state = s;
      leads = refl;
      stops = (h, ap (λ m. run_fault GoalMissed m (goal_place t)) (omega arith));
    })
run_decided t made c s (k ∷ ks) l = step (step_or_block t t.width s made k) (λ m. run_decided t (made + 1) (c + changes_by t k s) (state_after t k s) ks (omega arith))
  where
    after : Steps t t.width s made k
        → Ends t (made + 1) (c + changes_by t k s) (state_after t k s) ks ⊎ Fails t (made + 1) (c + changes_by t k s) (state_after t k s) ks
        → Ends t made c s (k ∷ ks) ⊎ Fails t made c s (k ∷ ks)
    after p (inl e) = inl (record {
      end = e.end;
      outcome = rw p.none (e.outcome ∙ ap₂ (λ steps changes. accepted steps changes e.end) (omega arith) (omega arith));
      few = let b = e.few in omega arith;
      numbers = (p.number, e.numbers);
      leads = (leads_first t.width (operator_of t k) (named t.operators ks) s e.end).1 (p.fit, e.leads);
      goal = e.goal;
    })
    after p (inr f) = inr (record {
      fault = f.fault;
      outcome = rw p.none f.outcome;
      done = k ∷ f.done;
      left = f.left;
      split = ap (λ xs. k ∷ xs) f.split;
      few = let b = f.few in omega arith;
      numbers = (p.number, f.numbers);
      state = f.state;
      leads = (leads_first t.width (operator_of t k) (named t.operators f.done) s f.state).1 (p.fit, f.leads);
      stops = subst (λ m. Stops t m f.state f.left f.fault) (omega arith) f.stops;
    })

    within_limit : {f : Fault} → NoNext t t.width s made k f → Stops t made s (k ∷ ks) f
    within_limit (inl other) = absurd (other.0 refl)
    within_limit (inr (same, inl (over, e))) = inl (omega arith, e)
    within_limit (inr (same, inr why)) = inr why

    step : Steps t t.width s made k ⊎ Blocks t t.width s made k
        → (made < 4096 → Ends t (made + 1) (c + changes_by t k s) (state_after t k s) ks ⊎ Fails t (made + 1) (c + changes_by t k s) (state_after t k s) ks)
        → Ends t made c s (k ∷ ks) ⊎ Fails t made c s (k ∷ ks)
    step (inl p) rest = after p (rest p.room)
    step (inr b) rest = inr (record {
      fault = b.fault;
      outcome = rw b.some refl;
      done = [];
      left = k ∷ ks;
      split = refl;
      few = omega arith;
      numbers = tt;
      state = s;
      leads = refl;
      stops = subst (λ m. Stops t m s (k ∷ ks) b.fault) (omega arith) (within_limit b.reason);
    })

-- a plan that leads into the goal is run to its end
solved_ends : (t : TaskTree) (made c s end : ℕ) (ks : List ℕ) → made + length ks ≤ 4096 → NumbersBelow (length t.operators) ks
    → Leads t.width (named t.operators ks) s end → truth end t.goal ≡ true
    → (steps : ℕ) × (changes : ℕ) × (last : ℕ) × (run_outcome t made c s ks ≡ accepted steps changes last)
solved_ends t made c s end [] l numbers leads goal = (made, c, s, rw (eq-eqb t.width t.width refl, ap (λ x. truth x t.goal) leads ∙ goal) refl)
solved_ends t made c s end (k ∷ ks) l numbers leads goal =
    let n : ℕ = t.width in
    let first : Fits n (operator_of t k) s × Leads n (named t.operators ks) (state_after t k s) end = (leads_first n (operator_of t k) (named t.operators ks) s end).0 leads in
    let rest = solved_ends t (made + 1) (c + changes_by t k s) (state_after t k s) end ks (omega arith) numbers.1 first.1 goal in
    (rest.0, rest.1, rest.2, rw (fitting_steps t n s made k refl (omega arith) numbers.0 first.0) rest.3)

pub plan_decided : (t : TaskTree) (plan : List ℕ) → PlanDecided t plan
plan_decided t plan = record {
  solved = λ p l. solved_ends t 0 0 t.initial p.reaches.end plan (omega arith) p.numbers p.reaches.leads p.reaches.goal;
  accepts = λ steps changes end h. accepts steps changes end h (run_decided t 0 0 t.initial plan (omega arith));
  refuses = λ f h. refuses f h (run_decided t 0 0 t.initial plan (omega arith));
}
  where
    accepts : (steps changes end : ℕ) → plan_outcome t plan ≡ accepted steps changes end
        → Ends t 0 0 t.initial plan ⊎ Fails t 0 0 t.initial plan → Accepted t plan steps changes end
    accepts steps changes end h (inl e) =
        let all : accepted steps changes end ≡ accepted (0 + length plan) (0 + total_changes t.width (named t.operators plan) t.initial) e.end = sym h ∙ e.outcome in
        let last : end ≡ e.end = cc in
        let leads : Leads t.width (named t.operators plan) t.initial end = subst (λ x. Leads t.width (named t.operators plan) t.initial x) (sym last) e.leads in
        let goal : truth end t.goal ≡ true = ap (λ x. truth x t.goal) last ∙ e.goal in
        let steps_are : steps ≡ 0 + length plan = cc in
        let changes_are : changes ≡ 0 + total_changes t.width (named t.operators plan) t.initial = cc in
        record {
          solves = record { numbers = e.numbers; reaches = record { end = end; leads = leads; goal = goal } };
          few = let b = e.few in omega arith;
          all = omega arith;
          leads = leads;
          goal = goal;
          sum = omega arith;
        }
    accepts steps changes end h (inr f) = let both : accepted steps changes end ≡ refused f.fault = sym h ∙ f.outcome in let z : ◌≡◌ {A = ℕ} 0 1 = cc in absurd (omega arith)

    refuses : (f : Fault) → plan_outcome t plan ≡ refused f → Ends t 0 0 t.initial plan ⊎ Fails t 0 0 t.initial plan → Refused t plan f
    refuses f h (inl e) = let both : refused f ≡ accepted _ _ _ = sym h ∙ e.outcome in let z : ◌≡◌ {A = ℕ} 0 1 = cc in absurd (omega arith)
    refuses f h (inr g) =
        let both : refused f ≡ refused g.fault = sym h ∙ g.outcome in
        let same : g.fault ≡ f = cc in
        record {
          done = g.done;
          left = g.left;
          split = g.split;
          few = let b = g.few in omega arith;
          numbers = g.numbers;
          state = g.state;
          leads = g.leads;
          stops = subst (λ x. Stops t (length g.done) g.state g.left x) same (subst (λ m. Stops t m g.state g.left g.fault) (zero-add (length g.done)) g.stops);
        }
