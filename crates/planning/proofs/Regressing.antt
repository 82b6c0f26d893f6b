-- Regression is exact.
use Rattle.std.proofs.Common.{◌≡◌, ℕ, zero, suc, ◌<◌, Bool, true, false, not, ◌&&◌, ◌||◌, ◌↔◌, sym, refl, ap, ◌∙◌, ap₂}
use Rattle.std.proofs.lemmas.Bool.{and_parts, and_from}
use Rattle.planning.specs.Tree.{bit, Formula, TRUE, FALSE, VAR, NOT, AND, OR, Effect, OperatorTree}
use Rattle.planning.specs.Limits.{FormulaBelow}
use Rattle.planning.specs.Truth.{truth}
use Rattle.planning.specs.ChangeSet.{is, isnt}
use Rattle.planning.specs.Steps.{Fits, clash, clash_free, fits, after, result}
use Rattle.planning.specs.Regression.{value_after, replaced, without_clash, regress}
use Rattle.planning.proofs.Stepping.{literal_in_change_set, fits_agrees, bit_result}

pub truth_value_after : (e : Effect) (s v : ℕ) → truth s (value_after e v) ≡ after e s v
truth_value_after e s v = ap₂ (λ p q. p || (bit s v && not q)) (literal_in_change_set s (is v) e) (literal_in_change_set s (isnt v) e)

pub value_after_step : (n : ℕ) (e : Effect) (s v : ℕ) → v < n → bit (result n e s) v ≡ truth s (value_after e v)
value_after_step n e s v h = bit_result n e s v h ∙ sym (truth_value_after e s v)

pub truth_replaced : (n : ℕ) (e : Effect) (s : ℕ) (f : Formula) → FormulaBelow n f → truth s (replaced e f) ≡ truth (result n e s) f
truth_replaced n e s TRUE h = refl
truth_replaced n e s FALSE h = refl
truth_replaced n e s (VAR v) h = sym (value_after_step n e s v h)
truth_replaced n e s (NOT f) h = ap not (truth_replaced n e s f h)
truth_replaced n e s (AND f g) h = ap₂ ◌&&◌ (truth_replaced n e s f h.0) (truth_replaced n e s g h.1)
truth_replaced n e s (OR f g) h = ap₂ ◌||◌ (truth_replaced n e s f h.0) (truth_replaced n e s g h.1)

reorder : (f d b : Bool) → ((f && d) && not b) ≡ (f && (not b && d))
reorder true true true = refl
reorder true true false = refl
reorder true false true = refl
reorder true false false = refl
reorder false d b = refl

and_assoc : (a b c : Bool) → (a && b && c) ≡ (a && (b && c))
and_assoc true b c = refl
and_assoc false b c = refl

and_turn : (a b c : Bool) → ((a && b) && c) ≡ ((b && c) && a)
and_turn true true true = refl
and_turn true true false = refl
and_turn true false c = refl
and_turn false true true = refl
and_turn false true false = refl
and_turn false false c = refl

truth_without_clash : (n : ℕ) (e : Effect) (s : ℕ) (f : Formula) → truth s (without_clash n e f) ≡ (truth s f && clash_free n e s)
unfolding clash_free without_clash
truth_without_clash zero e s f = go (truth s f)
  where
    go : (b : Bool) → b ≡ (b && true)
    go true = refl
    go false = refl
truth_without_clash (suc n) e s f =
    ap₂ (λ p q. p && not q) (truth_without_clash n e s f) (ap₂ ◌&&◌ (literal_in_change_set s (is n) e) (literal_in_change_set s (isnt n) e))
    ∙ reorder (truth s f) (clash_free n e s) (clash s e n)

pub regression_value : (n : ℕ) (o : OperatorTree) (f : Formula) (s : ℕ) → FormulaBelow n f → truth s (regress n o f) ≡ (fits n o s && truth (result n o.effect s) f)
regression_value n o f s h =
    truth_without_clash n o.effect s (AND (replaced o.effect f) o.precondition)
    ∙ ap (λ b. b && truth s o.precondition && clash_free n o.effect s) (truth_replaced n o.effect s f h)
    ∙ and_turn (truth (result n o.effect s) f) (truth s o.precondition) (clash_free n o.effect s)

pub regression_exact : (n : ℕ) (o : OperatorTree) (f : Formula) (s : ℕ) → FormulaBelow n f
    → (truth s (regress n o f) ≡ true) ↔ (Fits n o s × (truth (result n o.effect s) f ≡ true))
regression_exact n o f s h = (
  (λ t.
      let p = and_parts (fits n o s) (truth (result n o.effect s) f) (sym (regression_value n o f s h) ∙ t) in
      ((fits_agrees n o s).0 p.0, p.1)),
  (λ p. regression_value n o f s h ∙ and_from (fits n o s) (truth (result n o.effect s) f) ((fits_agrees n o s).1 p.0) p.1),
)
