-- The steps of a run: an operator that the task hands out is the tree's operator of that number.
use Rattle.std.proofs.Common.{◌≡◌, ℕ, ◌^◌, ◌<◌, ◌≤◌, true, cond, eqb, ltb, List, length, Some, None, Ok, Err, Result, sym, ap, ◌∙◌, ap₂, arith}
use Rattle.std.proofs.lemmas.Bool.{cond-true, and_from, eq-eqb, lt-ltb}
use Rattle.std.proofs.lemmas.Bool.Decides.{nat_tests}
use Rattle.words.specs.declared.fault.Fault.{Fault}
use Rattle.words.specs.declared.fault.Refusal.TheVariants.{WrongWidth, GoalMissed}
use Rattle.words.specs.Refusals.{run_fault}
use Rattle.planning.specs.Tree.{Formula, Effect}
use Rattle.planning.specs.Changes.{change_count}
use Rattle.planning.specs.Render.{formula_words}
use Rattle.planning.specs.Steps.{result}
use Rattle.planning.specs.Truth.{truth}
use Rattle.planning.proofs.Wording.{formula_below_more, effect_below_more}
use Rattle.reading.specs.Faults.{is_accepted}
use Rattle.reading.specs.Parts.{formula_of, effect_of}
use Rattle.reading.specs.Trees.{task_tree}
use Rattle.reading.proofs.PartTrees.{formula_of_words, effect_of_words}
use Rattle.tasks.specs.declared.part.Part.{Part}
use Rattle.tasks.specs.declared.part.Formula.{Formula as OneFormula}
use Rattle.tasks.specs.declared.part.Operator.{Operator}
use Rattle.tasks.specs.Handed.{IsOperator}
use Rattle.tasks.specs.Places.{operator_of, goal_place, precondition_place, effect_place}
use Rattle.tasks.proofs.Walking.{within, operator_within}
use Rattle.outcomes.specs.Runs.{operator_refusal, step_refusal, finish_refusal, state_after}
use Rattle.outcomes.specs.declared.reached.Stepped.{Stepped}
use Rattle.running.specs.Stepping.{tree_of, has_width, refusal_in, StepAnswer, NextAnswer}

narrow : (ws : List ℕ) → is_accepted ws ≡ true → (task_tree ws).width ≤ 2 ^ 28
narrow ws faultless = let h = (within ws faultless).narrow in omega arith

module _ (ws : List ℕ) (faultless : is_accepted ws ≡ true) (o : Operator) (n s made k : ℕ) (lt : k < length (task_tree ws).operators) (handed : IsOperator (task_tree ws) k o) (wide : n ≡ (task_tree ws).width) (few : made < 4096) where
  same_tree : tree_of o ≡ operator_of (task_tree ws) k
  same_tree =
      let n = (task_tree ws).width in
      let f = (operator_of (task_tree ws) k).precondition in
      let g = (operator_of (task_tree ws) k).effect in
      let p = operator_within ws faultless k lt in
      let small : n ≤ 2 ^ 28 = narrow ws faultless in
      let c : formula_of o.precondition.words.now ≡ f = ap (λ xs. formula_of xs) handed.precondition_words ∙ formula_of_words f (formula_below_more n (2 ^ 28) f small p.0.below) in
      let e : effect_of o.effect.words.now ≡ g = ap (λ xs. effect_of xs) handed.effect_words_are ∙ effect_of_words g (effect_below_more n (2 ^ 28) g small p.1.below) in
      ap₂ (λ (x : Formula) (y : Effect). record { precondition = x; effect = y }) c e

  -- the operator's refusal is the run's
  pub same_refusal : step_refusal (task_tree ws) n s made k ≡ refusal_in o n s made
  same_refusal =
      cond-true (eqb n (task_tree ws).width) _ _ (eq-eqb n (task_tree ws).width wide)
      ∙ cond-true (ltb made 4096) _ _ (lt-ltb made 4096 few)
      ∙ cond-true (ltb k (length (task_tree ws).operators)) _ _ (lt-ltb k (length (task_tree ws).operators) lt)
      ∙ ap (λ m. operator_refusal m (operator_of (task_tree ws) k) (precondition_place (task_tree ws) k) (effect_place (task_tree ws) k) s made) (sym wide)
      ∙ ap (λ p. operator_refusal n p (precondition_place (task_tree ws) k) (effect_place (task_tree ws) k) s made) (sym same_tree)
      ∙ ap₂ (λ p e. operator_refusal n (tree_of o) p e s made) (sym handed.precondition_at) (sym handed.effect_at)
      ∙ sym (cond-true (has_width o n) _ _ (and_from (eqb o.precondition.width n) (eqb o.effect.width n) (eq-eqb o.precondition.width n (handed.precondition_width ∙ sym wide)) (eq-eqb o.effect.width n (handed.effect_width ∙ sym wide))))

  same_result : result n (tree_of o).effect s ≡ state_after (task_tree ws) k s
  same_result = ap₂ (λ m p. result m p.effect s) wide same_tree

  pub next_answer : (r : Result Stepped Fault) → StepAnswer o n s made r → NextAnswer (task_tree ws) n s made k r
  next_answer (Ok r) a = record {
    fits = same_refusal ∙ a.fits;
    wide = a.wide;
    after = a.after ∙ same_result;
    count = a.count ∙ ap₂ (λ m x. change_count m s x) wide same_result;
    few = a.few;
  }
  next_answer (Err f) a = same_refusal ∙ a

-- the goal that the task hands out is the tree's
module _ (ws : List ℕ) (faultless : is_accepted ws ≡ true) (n s made : ℕ) {g : _} (goal : Part OneFormula g)
    (words : goal.words.now ≡ formula_words (task_tree ws).goal) (place : goal.place ≡ goal_place (task_tree ws)) (wide : goal.width ≡ (task_tree ws).width) where
  same_goal : formula_of goal.words.now ≡ (task_tree ws).goal
  same_goal =
      let f = (task_tree ws).goal in
      ap (λ xs. formula_of xs) words ∙ formula_of_words f (formula_below_more (task_tree ws).width (2 ^ 28) f (narrow ws faultless) (within ws faultless).goal.below)

  eqb_turned : (a b : ℕ) → eqb a b ≡ eqb b a
  eqb_turned a b = grind (arith, nat_tests)

  pub finish_told : finish_refusal (task_tree ws) n s made
      ≡ cond (eqb goal.width n) (cond (truth s (formula_of goal.words.now)) None (Some (run_fault GoalMissed made goal.place))) (Some (run_fault WrongWidth made 0))
  finish_told =
      ap (λ b. cond b (cond (truth s (task_tree ws).goal) None (Some (run_fault GoalMissed made (goal_place (task_tree ws))))) (Some (run_fault WrongWidth made 0))) (eqb_turned n (task_tree ws).width ∙ ap (λ m. eqb m n) (sym wide))
      ∙ ap₂ (λ (f : Formula) (k : ℕ). cond (eqb goal.width n) (cond (truth s f) None (Some (run_fault GoalMissed made k))) (Some (run_fault WrongWidth made 0))) (sym same_goal) (sym place)
