-- One step: the state after a change, and the refusals of an operator.
use Rattle.std.proofs.Common.{◌≡◌, ℕ, ◌+◌, ◌^◌, ◌<◌, ◌≤◌, Bool, true, false, cond, ◌&&◌, eqb, ltb, leb, ◌⊎◌, Some, None, Ok, Err, Option, sym, refl, ap, ◌∙◌, subst, inl, inr, arith, MatchOption}
use lib.Bits.{bit_and}
use Rattle.std.proofs.lemmas.Bool.{both_ways, cases_Bool, cond-true, cond-false, and_from, le-leb, lt-ltb}
use Rattle.words.specs.declared.fault.Fault.{Fault}
use Rattle.words.specs.declared.fault.Refusal.TheVariants.{WrongWidth, PreconditionFalse, SetAndCleared}
use Rattle.words.specs.Refusals.{bank_fault, run_fault}
use Rattle.planning.specs.Tree.{bit, Effect}
use Rattle.planning.specs.Truth.{truth}
use Rattle.planning.specs.Changes.{change_count, Smallest}
use Rattle.planning.specs.Steps.{clash_free, masked, result, set_mask, clear_mask, FirstClash}
use Rattle.planning.proofs.Bits.{bit_none, gather_below}
use Rattle.planning.proofs.Counting.{change_count_wider}
use Rattle.planning.proofs.Masking.{clash_mask_none, clash_mask_first, masked_wider, result_masked}
use Rattle.reading.specs.Parts.{formula_of, effect_of}
use Rattle.tasks.specs.declared.part.Part.{Part}
use Rattle.tasks.specs.declared.part.Formula.{Formula}
use Rattle.tasks.specs.declared.part.Effect.{Effect as EffectMark}
use Rattle.tasks.specs.declared.part.Operator.{Operator}
use Rattle.tasks.specs.States.{is_state, state_refusal}
use Rattle.outcomes.specs.Runs.{first_clash}
use Rattle.outcomes.proofs.Clashes.{first_clash_is}
use Rattle.planning.specs.declared.change.Change.{Change}
use Rattle.valuing.specs.Changing.{change_in}
use Rattle.running.specs.Stepping.{tree_of, has_width, refusal_in, misfit_of}

-- a change within the width leads to a state of that width
after_below : (n s set clear : ℕ) → n ≤ 64 → s < 2 ^ n → set < 2 ^ n → masked 64 s set clear < 2 ^ n
after_below n s set clear narrow h k = subst (λ x. x < 2 ^ n) (sym (masked_wider n 64 s set clear narrow h k)) (gather_below n _)

state_accepted : (n s : ℕ) → 1 ≤ n → n ≤ 64 → s < 2 ^ n → state_refusal n s ≡ None
state_accepted n s some narrow h =
    cond-true (is_state n s) None _ (and_from (leb 1 n) (leb n 64 && ltb s (2 ^ n)) (le-leb 1 n some) (and_from (leb n 64) (ltb s (2 ^ n)) (le-leb n 64 narrow) (lt-ltb s (2 ^ n) h)))

-- where a variable clashes, not none does
clash_not_free : (n : ℕ) (e : Effect) (s v : ℕ) → FirstClash n e s v → clash_free n e s ≡ false
clash_not_free n e s v f = go (cases_Bool (clash_free n e s))
  where
    go : (clash_free n e s ≡ true) ⊎ (clash_free n e s ≡ false) → clash_free n e s ≡ false
    go (inl h) =
        let m = ((clash_mask_first n e s v).1 f).holds in
        absurd (both_ways (bit (bit_and (set_mask n e s) (clear_mask n e s)) v) (ap (λ x. bit x v) ((clash_mask_none n e s).1 h) ∙ bit_none v) m)
    go (inr h) = h

-- what is answered where the widths are the same
ok_told : {X : Type 0} (b : Bool) (x y : X) (f : Fault) → Ok x ≡ cond b (Ok y) (Err f) → (b ≡ true) × (x ≡ y)
ok_told true x y f e = (refl, cc)
ok_told false x y f e = let z : ◌≡◌ {A = ℕ} 0 1 = cc in absurd (omega arith)

module _ (o : Operator) (n s made : ℕ) (c : Part Formula _) (e : Part EffectMark _) (same_c : c ≡ o.precondition) (same_e : e ≡ o.effect) (holds : Bool) (change : Change)
    (told : Ok holds ≡ cond (eqb c.width n) (Ok (truth s (formula_of c.words.now))) (Err (bank_fault WrongWidth)))
    (does : Ok change ≡ cond (eqb e.width n) (Ok (change_in n s (effect_of e.words.now))) (Err (bank_fault WrongWidth))) where
  needs_told : (eqb o.precondition.width n ≡ true) × (holds ≡ truth s (tree_of o).precondition)
  needs_told = subst (λ x. (eqb x.width n ≡ true) × (holds ≡ truth s (formula_of x.words.now))) same_c (ok_told (eqb c.width n) holds _ (bank_fault WrongWidth) told)

  does_told : (eqb o.effect.width n ≡ true) × (change ≡ change_in n s (tree_of o).effect)
  does_told = subst (λ x. (eqb x.width n ≡ true) × (change ≡ change_in n s (effect_of x.words.now))) same_e (ok_told (eqb e.width n) change _ (bank_fault WrongWidth) does)

  set_below : change.set < 2 ^ n
  set_below = subst (λ d. d.set < 2 ^ n) (sym does_told.1) (gather_below n _)

  pub end_accepted : 1 ≤ n → n ≤ 64 → s < 2 ^ n → state_refusal n (masked 64 s change.set change.clear) ≡ None
  end_accepted some narrow h = state_accepted n _ some narrow (after_below n s change.set change.clear narrow h set_below)

  -- the smallest variable of both masks is the first that clashes
  abbrev clashing : Option Fault
  clashing = cond (clash_free n (tree_of o).effect s) None (Some (run_fault SetAndCleared made (o.effect.place + first_clash n (tree_of o).effect s)))

  clash_told : (clash : Option ℕ) → MatchOption clash (bit_and change.set change.clear ≡ 0) (λ v. (v < 64) × Smallest (bit_and change.set change.clear) v) →
      clashing ≡ misfit_of true clash o.precondition.place o.effect.place made
  clash_told None apart = cond-true (clash_free n (tree_of o).effect s) None _ ((clash_mask_none n (tree_of o).effect s).0 (subst (λ d. bit_and d.set d.clear ≡ 0) does_told.1 apart))
  clash_told (Some v) m =
      let f : FirstClash n (tree_of o).effect s v = (clash_mask_first n (tree_of o).effect s v).0 (subst (λ d. Smallest (bit_and d.set d.clear) v) does_told.1 m.1) in
      cond-false (clash_free n (tree_of o).effect s) None _ (clash_not_free n (tree_of o).effect s v f)
      ∙ ap (λ k. Some (run_fault SetAndCleared made (o.effect.place + k))) (first_clash_is n (tree_of o).effect s v f)

  by_holds : (b : Bool) (clash : Option ℕ) → clashing ≡ misfit_of true clash o.precondition.place o.effect.place made →
      cond b clashing (Some (run_fault PreconditionFalse made o.precondition.place)) ≡ misfit_of b clash o.precondition.place o.effect.place made
  by_holds true clash h = h
  by_holds false clash h = refl

  pub misfit_told : (clash : Option ℕ) → MatchOption clash (bit_and change.set change.clear ≡ 0) (λ v. (v < 64) × Smallest (bit_and change.set change.clear) v) →
      refusal_in o n s made ≡ misfit_of holds clash o.precondition.place o.effect.place made
  misfit_told clash h =
      cond-true (has_width o n) _ _ (and_from (eqb o.precondition.width n) (eqb o.effect.width n) needs_told.0 does_told.0)
      ∙ ap (λ b. cond b clashing (Some (run_fault PreconditionFalse made o.precondition.place))) (sym needs_told.1)
      ∙ by_holds holds clash (clash_told clash h)

  -- the state after the change is the operator's result
  pub stepped : (t : ℕ) → n ≤ 64 → s < 2 ^ n → t ≡ masked 64 s change.set change.clear → t ≡ result n (tree_of o).effect s
  stepped t narrow h is = is ∙ masked_wider n 64 s change.set change.clear narrow h set_below ∙ ap (λ d. masked n s d.set d.clear) does_told.1 ∙ result_masked n (tree_of o).effect s

  pub counted : (t count : ℕ) → n ≤ 64 → s < 2 ^ n → t ≡ masked 64 s change.set change.clear → count ≡ change_count 64 s t → count ≡ change_count n s (result n (tree_of o).effect s)
  counted t count narrow h is counts =
      counts ∙ ap (change_count 64 s) (stepped t narrow h is) ∙ change_count_wider n 64 s (result n (tree_of o).effect s) narrow h (gather_below n _)
