-- Change sets, when an operator fits, and its result.
use Rattle.std.proofs.Common.{◌≡◌, ℕ, zero, suc, ◌^◌, ◌<◌, Bool, true, false, not, ◌&&◌, ◌||◌, ◌⊎◌, ◌↔◌, sym, refl, ap, ◌∙◌, subst, ap₂, inl, inr, arith}
use Rattle.std.proofs.lemmas.Bool.{both_ways, not-true, and_parts, and_from, cases_Bool, cases_eq}
use Rattle.planning.specs.Tree.{bit, AND, Effect, NIL, SET, CLEAR, BOTH, WHEN, OperatorTree}
use Rattle.planning.specs.Truth.{truth}
use Rattle.planning.specs.ChangeSet.{Literal, is, isnt, same, makes, constant, EC}
use Rattle.planning.specs.Steps.{Fits, ResultIs, clash, clash_free, fits, after, result}
use Rattle.planning.proofs.Bits.{bit_gather, gather_below, bits_same}

truth_constant : (s : ℕ) (b : Bool) → truth s (constant b) ≡ b
truth_constant s true = refl
truth_constant s false = refl

-- a literal is in the change set exactly if its condition is true
pub literal_in_change_set : (s : ℕ) (l : Literal) (e : Effect) → truth s (EC l e) ≡ makes s e l
literal_in_change_set s l NIL = refl
literal_in_change_set s l (SET v) = truth_constant s (same (is v) l)
literal_in_change_set s l (CLEAR v) = truth_constant s (same (isnt v) l)
literal_in_change_set s l (BOTH d e) = ap₂ ◌||◌ (literal_in_change_set s l d) (literal_in_change_set s l e)
literal_in_change_set s l (WHEN c e) = ap (λ b. truth s c && b) (literal_in_change_set s l e)

-- the test `fits` and the record `Fits` say the same
clash_one : (p q : Bool) → not (p && q) ≡ true → p ≡ true → q ≡ true → ⊥
clash_one true true h k l = both_ways true (sym h) refl
clash_one true false h k l = both_ways false refl l
clash_one false q h k l = both_ways false refl k

clash_none : (p q : Bool) → (p ≡ true → q ≡ true → ⊥) → not (p && q) ≡ true
clash_none true true h = absurd (h refl refl)
clash_none true false h = refl
clash_none false q h = refl

apart_from : (n : ℕ) (e : Effect) (s : ℕ) → clash_free n e s ≡ true → (v : ℕ) → v < n → makes s e (is v) ≡ true → makes s e (isnt v) ≡ true → ⊥
unfolding clash_free
apart_from zero e s h v l = absurd (omega arith)
apart_from (suc n) e s h v l = go (apart_from n e s parts.1 v) (cases_eq v n)
  where
    parts : (not (clash s e n) ≡ true) × (clash_free n e s ≡ true)
    parts = and_parts (not (clash s e n)) (clash_free n e s) h

    go : (v < n → makes s e (is v) ≡ true → makes s e (isnt v) ≡ true → ⊥) → (v ≡ n) ⊎ (v ≡ n → ⊥) → makes s e (is v) ≡ true → makes s e (isnt v) ≡ true → ⊥
    go before (inl same) = subst (λ w. makes s e (is w) ≡ true → makes s e (isnt w) ≡ true → ⊥) (sym same) (clash_one (makes s e (is n)) (makes s e (isnt n)) parts.0)
    go before (inr other) = before (omega arith)

free_from : (n : ℕ) (e : Effect) (s : ℕ) → ((v : ℕ) → v < n → makes s e (is v) ≡ true → makes s e (isnt v) ≡ true → ⊥) → clash_free n e s ≡ true
unfolding clash_free
free_from zero e s h = refl
free_from (suc n) e s h =
    and_from (not (clash s e n)) (clash_free n e s)
    (clash_none (makes s e (is n)) (makes s e (isnt n)) (h n (omega arith)))
    (free_from n e s (λ v l. h v (omega arith)))

pub fits_agrees : (n : ℕ) (o : OperatorTree) (s : ℕ) → (fits n o s ≡ true) ↔ Fits n o s
fits_agrees n o s = (
  (λ h.
      let p = and_parts (truth s o.precondition) (clash_free n o.effect s) h in
      record { holds = p.0; apart = apart_from n o.effect s p.1 }),
  (λ f. and_from (truth s o.precondition) (clash_free n o.effect s) f.holds (free_from n o.effect s f.apart)),
)

-- the result
pub result_below : (n : ℕ) (e : Effect) (s : ℕ) → result n e s < 2 ^ n
result_below n e s = gather_below n (after e s)

pub bit_result : (n : ℕ) (e : Effect) (s v : ℕ) → v < n → bit (result n e s) v ≡ after e s v
bit_result n e s v h = bit_gather n (after e s) v h

value_on : (p q b : Bool) → p ≡ true → (p || (b && not q)) ≡ true
value_on true q b h = refl
value_on false q b h = absurd (both_ways false refl h)

value_off : (p q b : Bool) → (p ≡ true → q ≡ true → ⊥) → q ≡ true → (p || (b && not q)) ≡ false
value_off true q b h k = absurd (h refl k)
value_off false true true h k = refl
value_off false true false h k = refl
value_off false false b h k = absurd (both_ways false refl k)

value_stays : (p q b : Bool) → p ≡ false → q ≡ false → (p || (b && not q)) ≡ b
value_stays false false true h k = refl
value_stays false false false h k = refl
value_stays false true b h k = absurd (both_ways true k refl)
value_stays true q b h k = absurd (both_ways true h refl)

pub result_is : (n : ℕ) (o : OperatorTree) (s : ℕ) → Fits n o s → ResultIs n o s (result n o.effect s)
result_is n o s f =
    let e : Effect = o.effect in
    record {
      within = result_below n e s;
      on = λ v l h. bit_result n e s v l ∙ value_on (makes s e (is v)) (makes s e (isnt v)) (bit s v) h;
      off = λ v l h. bit_result n e s v l ∙ value_off (makes s e (is v)) (makes s e (isnt v)) (bit s v) (f.apart v l) h;
      stays = λ v l h k. bit_result n e s v l ∙ value_stays (makes s e (is v)) (makes s e (isnt v)) (bit s v) h k;
    }

-- a state has one result at most
pub result_one : (n : ℕ) (o : OperatorTree) (s t u : ℕ) → ResultIs n o s t → ResultIs n o s u → t ≡ u
result_one n o s t u p q = bits_same n t u p.within q.within (λ v l. go v l (cases_Bool (makes s o.effect (is v))) (cases_Bool (makes s o.effect (isnt v))))
  where
    go : (v : ℕ) → v < n → (makes s o.effect (is v) ≡ true) ⊎ (makes s o.effect (is v) ≡ false)
        → (makes s o.effect (isnt v) ≡ true) ⊎ (makes s o.effect (isnt v) ≡ false) → bit t v ≡ bit u v
    go v l (inl h) c = p.on v l h ∙ sym (q.on v l h)
    go v l (inr h) (inl k) = p.off v l k ∙ sym (q.off v l k)
    go v l (inr h) (inr k) = p.stays v l h k ∙ sym (q.stays v l h k)

pub result_exact : (n : ℕ) (o : OperatorTree) (s : ℕ) → Fits n o s → (t : ℕ) → ResultIs n o s t ↔ (t ≡ result n o.effect s)
result_exact n o s f t = (
  (λ r. result_one n o s t (result n o.effect s) r (result_is n o s f)),
  (λ e. subst (λ x. ResultIs n o s x) (sym e) (result_is n o s f)),
)

-- fitting, by conditions
pub fits_conditions : (n : ℕ) (o : OperatorTree) (s : ℕ) → Fits n o s ↔ ((truth s o.precondition ≡ true)
    × ((v : ℕ) → v < n → truth s (AND (EC (is v) o.effect) (EC (isnt v) o.effect)) ≡ false))
fits_conditions n o s = (
  (λ f. (f.holds, λ v l. both v ∙ not_both (makes s o.effect (is v)) (makes s o.effect (isnt v)) (f.apart v l))),
  (λ p. record { holds = p.0; apart = λ v l h k. both_ways (truth s (AND (EC (is v) o.effect) (EC (isnt v) o.effect))) (p.1 v l) (both v ∙ and_from (makes s o.effect (is v)) (makes s o.effect (isnt v)) h k) }),
)
  where
    both : (v : ℕ) → truth s (AND (EC (is v) o.effect) (EC (isnt v) o.effect)) ≡ (makes s o.effect (is v) && makes s o.effect (isnt v))
    both v = ap₂ ◌&&◌ (literal_in_change_set s (is v) o.effect) (literal_in_change_set s (isnt v) o.effect)

    not_both : (p q : Bool) → (p ≡ true → q ≡ true → ⊥) → (p && q) ≡ false
    not_both p q h = not-true (p && q) (clash_none p q h)
