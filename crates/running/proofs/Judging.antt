-- The run of a plan, number by number, and what its outcome says.
use Rattle.std.proofs.Common.{◌≡◌, ℕ, ◌+◌, ◌<◌, ◌≤◌, true, List, length, get_or, drop, is_ok, Some, Ok, Err, Result, sym, refl, ap, ◌∙◌, ap₂, arith}
use Rattle.std.proofs.lemmas.List.{drop_more, drop_all}
use Rattle.std.proofs.lemmas.Bool.{true≢false}
use Rattle.words.specs.declared.fault.Fault.{Fault}
use Rattle.planning.specs.Tree.{TaskTree}
use Rattle.planning.specs.Sequences.{Solves}
use Rattle.tasks.specs.declared.state.State.{State}
use Rattle.outcomes.specs.Runs.{Outcome, accepted, refused, refused_or, step_refusal, finish_refusal, state_after, changes_by, run_outcome, plan_outcome}
use Rattle.outcomes.proofs.Deciding.{plan_decided}
use Rattle.outcomes.specs.declared.reached.Accepted.{Accepted}
use Rattle.running.specs.Answers.{FinishAnswer, outcome_of, Judged}
use Rattle.running.specs.Moves.{Moved}
use Rattle.running.specs.declared.run.Running.{Running}

module _ (t : TaskTree) (plan : List ℕ) (i n s made changes : ℕ) (wide : n ≡ t.width) (inv : run_outcome t made changes s (drop i plan) ≡ plan_outcome t plan) where
  -- the outcome of the numbers behind the next one
  abbrev rest : Outcome
  rest = run_outcome t (made + 1) (changes + changes_by t (get_or plan i 0) s) (state_after t (get_or plan i 0) s) (drop (i + 1) plan)

  at_next : i < length plan → plan_outcome t plan ≡ refused_or (step_refusal t n s made (get_or plan i 0)) rest
  at_next lt =
      sym inv ∙ ap (run_outcome t made changes s) (drop_more plan i 0 lt)
      ∙ ap (λ m. refused_or (step_refusal t m s made (get_or plan i 0)) rest) (sym wide)

  pub stops : (f : Fault) → i < length plan → step_refusal t n s made (get_or plan i 0) ≡ Some f → refused f ≡ plan_outcome t plan
  stops f lt e = sym (at_next lt ∙ ap (λ o. refused_or o rest) e)

  at_end : length plan ≤ i → plan_outcome t plan ≡ refused_or (finish_refusal t n s made) (accepted made changes s)
  at_end over = sym inv ∙ ap (run_outcome t made changes s) (drop_all i plan over) ∙ ap (λ m. refused_or (finish_refusal t m s made) (accepted made changes s)) (sym wide)

-- the next number of the plan, by a run that goes on
pub goes_on : (t : TaskTree) (plan : List ℕ) (i : ℕ) (run next : Running) → run.state.width ≡ t.width → run_outcome t run.steps run.changes run.state.bits (drop i plan) ≡ plan_outcome t plan →
    i < length plan → Moved t (get_or plan i 0) run next →
    (next.state.width ≡ t.width) × (run_outcome t next.steps next.changes next.state.bits (drop (i + 1) plan) ≡ plan_outcome t plan)
goes_on t plan i run next wide inv lt m = (
  m.wide ∙ wide,
  ap (λ x. run_outcome t next.steps next.changes x (drop (i + 1) plan)) m.after
      ∙ ap₂ (λ x y. run_outcome t x y (state_after t (get_or plan i 0) run.state.bits) (drop (i + 1) plan)) m.one m.sum
      ∙ sym (at_next t plan i run.state.width run.state.bits run.steps run.changes wide inv lt ∙ ap (λ o. refused_or o (rest t plan i run.state.width run.state.bits run.steps run.changes wide inv)) m.fits),
)

-- the outcome at the end
pub ended : (t : TaskTree) (plan : List ℕ) (i : ℕ) (s : State) (made changes : ℕ) (r : Result Accepted Fault) → s.width ≡ t.width →
    run_outcome t made changes s.bits (drop i plan) ≡ plan_outcome t plan → length plan ≤ i → FinishAnswer t s made changes r → outcome_of r ≡ plan_outcome t plan
ended t plan i s made changes (Ok a) wide inv over f =
    ap (λ x. accepted x.steps x.changes x.end.bits) f.1
    ∙ sym (at_end t plan i s.width s.bits made changes wide inv over ∙ ap (λ o. refused_or o (accepted made changes s.bits)) f.0)
ended t plan i s made changes (Err e) wide inv over f =
    sym (at_end t plan i s.width s.bits made changes wide inv over ∙ ap (λ o. refused_or o (accepted made changes s.bits)) f)

-- an accepted run ends in the state that it had, of the task's width
pub ended_wide : (t : TaskTree) (s : State) (made changes : ℕ) (r : Result Accepted Fault) → s.width ≡ t.width → FinishAnswer t s made changes r →
    (a : Accepted) → r ≡ Ok a → a.end.width ≡ t.width
ended_wide t s made changes (Ok b) wide f a q = let same : b ≡ a = cc in ap (λ x. x.end.width) (sym same ∙ f.1) ∙ wide
ended_wide t s made changes (Err e) wide f a q = let z : ◌≡◌ {A = ℕ} 0 1 = cc in absurd (omega arith)

-- a refused one ends in no state
pub refused_wide : (t : TaskTree) (e : Fault) (a : Accepted) → Err e ≡ Ok a → a.end.width ≡ t.width
refused_wide t e a q = let z : ◌≡◌ {A = ℕ} 0 1 = cc in absurd (omega arith)

-- what the outcome says of the task and the plan
module _ (t : TaskTree) (plan : List ℕ) where
  ok_solves : (r : Result Accepted Fault) → outcome_of r ≡ plan_outcome t plan → is_ok r ≡ true → Solves t plan × (length plan ≤ 4096)
  ok_solves (Ok a) e ok = let d = (plan_decided t plan).accepts _ _ _ (sym e) in (d.solves, d.few)
  ok_solves (Err f) e ok = absurd (true≢false (sym ok))

  solves_ok : (r : Result Accepted Fault) (steps changes end : ℕ) → outcome_of r ≡ accepted steps changes end → is_ok r ≡ true
  solves_ok (Ok a) steps changes end e = refl
  solves_ok (Err f) steps changes end e = let z : ◌≡◌ {A = ℕ} 0 1 = cc in absurd (omega arith)

  pub judged : (r : Result Accepted Fault) → outcome_of r ≡ plan_outcome t plan → ((a : Accepted) → r ≡ Ok a → a.end.width ≡ t.width) → Judged t plan r
  judged r e wide = record {
    accepts = λ a q. (plan_decided t plan).accepts _ _ _ (sym e ∙ ap outcome_of q);
    wide = wide;
    refuses = λ f q. (plan_decided t plan).refuses f (sym e ∙ ap outcome_of q);
    exactly = (
      ok_solves r e,
      λ p. let d = (plan_decided t plan).solved p.0 p.1 in solves_ok r d.0 d.1 d.2 (e ∙ d.3),
    );
  }
