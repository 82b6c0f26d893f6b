-- How a step of a run and its finish are decided.
-- Assumes nothing.
use Rattle.std.proofs.Common.{◌≡◌, ℕ, ◌+◌, ◌<◌, ◌≤◌, true, false, ◌⊎◌, length, Some, None, Option, sym, refl, ◌∙◌, subst, inl, inr, arith}
use Rattle.std.proofs.lemmas.Bool.{cases_Bool, cases_eq, cases_lt, and_from, and_parts, lt-ltb, le-ltb, eq-eqb, ne_eqb}
use Rattle.words.specs.declared.fault.Fault.{Fault}
use Rattle.words.specs.declared.fault.Refusal.TheVariants.{TooLong, WrongWidth, NoSuchOperator, PreconditionFalse, SetAndCleared, GoalMissed}
use Rattle.words.specs.Refusals.{run_fault}
use Rattle.planning.specs.Tree.{TaskTree}
use Rattle.planning.specs.Truth.{truth}
use Rattle.planning.specs.Steps.{Fits, clash_free}
use Rattle.planning.proofs.Stepping.{fits_agrees, result_is}
use Rattle.tasks.specs.Places.{operator_of, goal_place, precondition_place, effect_place}
use Rattle.outcomes.specs.Runs.{first_clash, step_refusal, finish_refusal}
use Rattle.outcomes.specs.Laws.{NoNext, StepDecided, NoFinish, FinishDecided}
use Rattle.outcomes.proofs.Clashes.{first_clash_found}

-- no refusal is both there and not there
pub not_both : {r : Option Fault} {f : Fault} → r ≡ None → r ≡ Some f → ⊥
not_both {r} {f} none some = let both : ◌≡◌ {A = Option Fault} None (Some f) = sym none ∙ some in let z : ◌≡◌ {A = ℕ} 0 1 = cc in absurd (omega arith)

module _ (t : TaskTree) (width s made k : ℕ) where
  -- a step is made
  pub record Steps : Type 0 where
    pub none : step_refusal t width s made k ≡ None
    pub wide : width ≡ t.width
    pub room : made < 4096
    pub number : k < length t.operators
    pub fit : Fits t.width (operator_of t k) s

  -- or it is refused, and why
  pub record Blocks : Type 0 where
    pub fault : Fault
    pub some : step_refusal t width s made k ≡ Some fault
    pub reason : NoNext t width s made k fault

pub step_or_block : (t : TaskTree) (width s made k : ℕ) → Steps t width s made k ⊎ Blocks t width s made k
step_or_block t width s made k = wide (cases_eq width t.width)
  where
    free : width ≡ t.width → made < 4096 → k < length t.operators → truth s (operator_of t k).precondition ≡ true
        → (clash_free t.width (operator_of t k).effect s ≡ true) ⊎ (clash_free t.width (operator_of t k).effect s ≡ false) → Steps t width s made k ⊎ Blocks t width s made k
    free w m n h (inl c) = inl (record {
      none = rw (eq-eqb width t.width w, lt-ltb made 4096 m, lt-ltb k (length t.operators) n, h, c) refl;
      wide = w;
      room = m;
      number = n;
      fit = (fits_agrees t.width (operator_of t k) s).0 (and_from _ _ h c);
    })
    free w m n h (inr c) = inr (record {
      fault = run_fault SetAndCleared made (effect_place t k + first_clash t.width (operator_of t k).effect s);
      some = rw (eq-eqb width t.width w, lt-ltb made 4096 m, lt-ltb k (length t.operators) n, h, c) refl;
      reason = inr (w, inr (m, inr (n, inr (h, (first_clash t.width (operator_of t k).effect s, first_clash_found t.width (operator_of t k).effect s c, refl)))));
    })

    needs : width ≡ t.width → made < 4096 → k < length t.operators
        → (truth s (operator_of t k).precondition ≡ true) ⊎ (truth s (operator_of t k).precondition ≡ false) → Steps t width s made k ⊎ Blocks t width s made k
    needs w m n (inl h) = free w m n h (cases_Bool (clash_free t.width (operator_of t k).effect s))
    needs w m n (inr h) = inr (record {
      fault = run_fault PreconditionFalse made (precondition_place t k);
      some = rw (eq-eqb width t.width w, lt-ltb made 4096 m, lt-ltb k (length t.operators) n, h) refl;
      reason = inr (w, inr (m, inr (n, inl (h, refl))));
    })

    number : width ≡ t.width → made < 4096 → (k < length t.operators) ⊎ (length t.operators ≤ k) → Steps t width s made k ⊎ Blocks t width s made k
    number w m (inl n) = needs w m n (cases_Bool (truth s (operator_of t k).precondition))
    number w m (inr n) = inr (record {
      fault = run_fault NoSuchOperator made 0;
      some = rw (eq-eqb width t.width w, lt-ltb made 4096 m, le-ltb k (length t.operators) n) refl;
      reason = inr (w, inr (m, inl (n, refl)));
    })

    room : width ≡ t.width → (made < 4096) ⊎ (4096 ≤ made) → Steps t width s made k ⊎ Blocks t width s made k
    room w (inl m) = number w m (cases_lt k (length t.operators))
    room w (inr m) = inr (record {
      fault = run_fault TooLong made 0;
      some = rw (eq-eqb width t.width w, le-ltb made 4096 m) refl;
      reason = inr (w, inl (m, refl));
    })

    wide : (width ≡ t.width) ⊎ (width ≡ t.width → ⊥) → Steps t width s made k ⊎ Blocks t width s made k
    wide (inl w) = room w (cases_lt made 4096)
    wide (inr w) = inr (record {
      fault = run_fault WrongWidth made 0;
      some = rw (ne_eqb width t.width w) refl;
      reason = inl (w, refl);
    })

-- a step that may be made is not refused
pub fitting_steps : (t : TaskTree) (width s made k : ℕ) → width ≡ t.width → made < 4096 → k < length t.operators → Fits t.width (operator_of t k) s
    → step_refusal t width s made k ≡ None
fitting_steps t width s made k w m n fit =
    let both : (truth s (operator_of t k).precondition ≡ true) × (clash_free t.width (operator_of t k).effect s ≡ true) = and_parts _ _ ((fits_agrees t.width (operator_of t k) s).1 fit) in
    rw (eq-eqb width t.width w, lt-ltb made 4096 m, lt-ltb k (length t.operators) n, both.0, both.1) refl

pub step_decided : (t : TaskTree) (width s made k : ℕ) → StepDecided t width s made k
step_decided t width s made k = go (step_or_block t width s made k)
  where
    go : Steps t width s made k ⊎ Blocks t width s made k → StepDecided t width s made k
    go (inl p) = record {
      exactly = (λ none. (p.wide, p.room, p.number, p.fit), λ h. p.none);
      leads = λ none. record { fit = p.fit; leads = result_is t.width (operator_of t k) s p.fit };
      refuses = λ f some. absurd (not_both p.none some);
    }
    go (inr b) = record {
      exactly = (λ none. absurd (not_both none b.some), λ h. fitting_steps t width s made k h.0 h.1 h.2 h.3);
      leads = λ none. absurd (not_both none b.some);
      refuses = λ f some. let both : Some b.fault ≡ Some f = sym b.some ∙ some in let same : b.fault ≡ f = cc in subst (λ x. NoNext t width s made k x) same b.reason;
    }

pub finish_decided : (t : TaskTree) (width s made : ℕ) → FinishDecided t width s made
finish_decided t width s made = wide (cases_eq width t.width)
  where
    blocked : (f : Fault) → finish_refusal t width s made ≡ Some f → NoFinish t width s made f → FinishDecided t width s made
    blocked g some reason = record {
      exactly = (λ none. absurd (not_both none some), λ h. rw (eq-eqb width t.width h.0, h.1) refl);
      refuses = λ f other. let both : Some g ≡ Some f = sym some ∙ other in let same : g ≡ f = cc in subst (λ x. NoFinish t width s made x) same reason;
    }

    goal : width ≡ t.width → (truth s t.goal ≡ true) ⊎ (truth s t.goal ≡ false) → FinishDecided t width s made
    goal w (inl h) =
        let done : finish_refusal t width s made ≡ None = rw (eq-eqb width t.width w, h) refl in
        record { exactly = (λ none. (w, h), λ both. done); refuses = λ f some. absurd (not_both done some) }
    goal w (inr h) = blocked (run_fault GoalMissed made (goal_place t)) (rw (eq-eqb width t.width w, h) refl) (inr (w, h, refl))

    wide : (width ≡ t.width) ⊎ (width ≡ t.width → ⊥) → FinishDecided t width s made
    wide (inl w) = goal w (cases_Bool (truth s t.goal))
    wide (inr w) = blocked (run_fault WrongWidth made 0) (rw (ne_eqb width t.width w) refl) (inl (w, refl))
