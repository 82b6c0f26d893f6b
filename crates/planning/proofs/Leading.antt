-- Sequences of operators.
use Rattle.std.proofs.Common.{◌≡◌, ℕ, zero, suc, ◌^◌, ◌<◌, Bool, true, false, ◌&&◌, ◌↔◌, List, [], ◌∷◌, ◌++◌, get_or, sym, refl, ap, ◌∙◌, subst}
use Rattle.std.proofs.lemmas.Bool.{and_parts, and_from}
use Rattle.planning.specs.Tree.{Formula, TRUE, FALSE, VAR, NOT, AND, OR, Effect, NIL, SET, CLEAR, BOTH, WHEN, OperatorTree, TaskTree}
use Rattle.planning.specs.Limits.{FormulaBelow, EffectBelow, OperatorsWithin}
use Rattle.planning.specs.Truth.{truth}
use Rattle.planning.specs.ChangeSet.{Literal, is, isnt, same, constant, EC}
use Rattle.planning.specs.Steps.{Fits, fits, result}
use Rattle.planning.specs.Sequences.{Leads, Reaches, NumbersBelow, idle, named, leads_into}
use Rattle.planning.specs.Regression.{replaced, without_clash, regress, regress_all, OperatorsBelow}
use Rattle.planning.proofs.Stepping.{fits_agrees, result_is, result_one}
use Rattle.planning.proofs.Regressing.{regression_value}

pub leads_one : (n : ℕ) (os : List OperatorTree) (s t u : ℕ) → Leads n os s t → Leads n os s u → t ≡ u
leads_one n [] s t u p q = sym p ∙ q
leads_one n (o ∷ os) s t u p q =
    let e : p.0 ≡ q.0 = result_one n o s p.0 q.0 p.1.leads q.1.leads in
    leads_one n os q.0 t u (subst (λ x. Leads n os x t) e p.2) q.2

pub leads_below : (n : ℕ) (os : List OperatorTree) (s t : ℕ) → s < 2 ^ n → Leads n os s t → t < 2 ^ n
leads_below n [] s t h p = subst (λ x. x < 2 ^ n) p h
leads_below n (o ∷ os) s t h p = leads_below n os p.0 t p.1.leads.within p.2

pub leads_split : (n : ℕ) (ps qs : List OperatorTree) (s t : ℕ) → Leads n (ps ++ qs) s t → (u : ℕ) × Leads n ps s u × Leads n qs u t
leads_split n [] qs s t p = (s, refl, p)
leads_split n (o ∷ ps) qs s t p =
    let rest = leads_split n ps qs p.0 t p.2 in
    (rest.0, (p.0, p.1, rest.1), rest.2)

pub leads_join : (n : ℕ) (ps qs : List OperatorTree) (s u t : ℕ) → Leads n ps s u → Leads n qs u t → Leads n (ps ++ qs) s t
leads_join n [] qs s u t p q = subst (λ x. Leads n qs x t) (sym p) q
leads_join n (o ∷ ps) qs s u t p q = (p.0, p.1, leads_join n ps qs p.0 u t p.2 q)

-- the first step by the worked-out result
pub leads_first : (n : ℕ) (o : OperatorTree) (os : List OperatorTree) (s t : ℕ)
    → Leads n (o ∷ os) s t ↔ (Fits n o s × Leads n os (result n o.effect s) t)
leads_first n o os s t = (
  (λ p. (p.1.fit, subst (λ x. Leads n os x t) (result_one n o s p.0 (result n o.effect s) p.1.leads (result_is n o s p.1.fit)) p.2)),
  (λ p. (result n o.effect s, record { fit = p.0; leads = result_is n o s p.0 }, p.1)),
)

pub leads_joined : (n : ℕ) (ps qs : List OperatorTree) (s t : ℕ) → Leads n (ps ++ qs) s t ↔ ((u : ℕ) × Leads n ps s u × Leads n qs u t)
leads_joined n ps qs s t = (leads_split n ps qs s t, λ p. leads_join n ps qs s p.0 t p.1 p.2)

-- leading into P
pub into_leads : (n : ℕ) (os : List OperatorTree) (P : ℕ → Bool) (s : ℕ) → leads_into n os P s ≡ true → (t : ℕ) × Leads n os s t × (P t ≡ true)
into_leads n [] P s h = (s, refl, h)
into_leads n (o ∷ os) P s h =
    let p = and_parts (fits n o s) (leads_into n os P (result n o.effect s)) h in
    let rest = into_leads n os P (result n o.effect s) p.1 in
    (rest.0, (leads_first n o os s rest.0).1 ((fits_agrees n o s).0 p.0, rest.1), rest.2)

pub leads_intos : (n : ℕ) (os : List OperatorTree) (P : ℕ → Bool) (s t : ℕ) → Leads n os s t → P t ≡ true → leads_into n os P s ≡ true
leads_intos n [] P s t p h = subst (λ x. P x ≡ true) (sym p) h
leads_intos n (o ∷ os) P s t p h =
    let q = (leads_first n o os s t).0 p in
    and_from (fits n o s) (leads_into n os P (result n o.effect s)) ((fits_agrees n o s).1 q.0) (leads_intos n os P (result n o.effect s) t q.1 h)

pub leads_into_exact : (n : ℕ) (os : List OperatorTree) (P : ℕ → Bool) (s : ℕ)
    → (leads_into n os P s ≡ true) ↔ ((t : ℕ) × Leads n os s t × (P t ≡ true))
leads_into_exact n os P s = (into_leads n os P s, λ p. leads_intos n os P s p.0 p.1 p.2)

-- regression keeps the variables below n
constant_below : (n : ℕ) (b : Bool) → FormulaBelow n (constant b)
constant_below n true = tt
constant_below n false = tt

pub condition_below : (n : ℕ) (l : Literal) (e : Effect) → EffectBelow n e → FormulaBelow n (EC l e)
condition_below n l NIL h = tt
condition_below n l (SET v) h = constant_below n (same (is v) l)
condition_below n l (CLEAR v) h = constant_below n (same (isnt v) l)
condition_below n l (BOTH d e) h = (condition_below n l d h.0, condition_below n l e h.1)
condition_below n l (WHEN c e) h = (h.0, condition_below n l e h.1)

replaced_below : (n : ℕ) (e : Effect) (f : Formula) → EffectBelow n e → FormulaBelow n f → FormulaBelow n (replaced e f)
replaced_below n e TRUE h k = tt
replaced_below n e FALSE h k = tt
replaced_below n e (VAR v) h k = (condition_below n (is v) e h, (k, condition_below n (isnt v) e h))
replaced_below n e (NOT f) h k = replaced_below n e f h k
replaced_below n e (AND f g) h k = (replaced_below n e f h k.0, replaced_below n e g h k.1)
replaced_below n e (OR f g) h k = (replaced_below n e f h k.0, replaced_below n e g h k.1)

without_clash_below : (n m : ℕ) (e : Effect) (f : Formula) → EffectBelow n e → FormulaBelow n f → FormulaBelow n (without_clash m e f)
unfolding without_clash
without_clash_below n zero e f h k = k
without_clash_below n (suc m) e f h k = (without_clash_below n m e f h k, (condition_below n (is m) e h, condition_below n (isnt m) e h))

pub regress_below : (n : ℕ) (o : OperatorTree) (f : Formula) → FormulaBelow n o.precondition → EffectBelow n o.effect → FormulaBelow n f → FormulaBelow n (regress n o f)
regress_below n o f p h k = without_clash_below n n o.effect (AND (replaced o.effect f) o.precondition) h (replaced_below n o.effect f h k, p)

pub regress_all_below : (n : ℕ) (os : List OperatorTree) (f : Formula) → OperatorsBelow n os → FormulaBelow n f → FormulaBelow n (regress_all n os f)
regress_all_below n [] f h k = k
regress_all_below n (o ∷ os) f h k = regress_below n o (regress_all n os f) h.0.0 h.0.1 (regress_all_below n os f h.1 k)

pub regress_all_value : (n : ℕ) (os : List OperatorTree) (f : Formula) (s : ℕ) → OperatorsBelow n os → FormulaBelow n f
    → truth s (regress_all n os f) ≡ leads_into n os (λ t. truth t f) s
regress_all_value n [] f s h k = refl
regress_all_value n (o ∷ os) f s h k =
    regression_value n o (regress_all n os f) s (regress_all_below n os f h.1 k)
    ∙ ap (λ b. fits n o s && b) (regress_all_value n os f (result n o.effect s) h.1 k)

pub leads_into_append : (n : ℕ) (ps qs : List OperatorTree) (P : ℕ → Bool) (s : ℕ) → leads_into n (ps ++ qs) P s ≡ leads_into n ps (leads_into n qs P) s
leads_into_append n [] qs P s = refl
leads_into_append n (o ∷ ps) qs P s = ap (λ b. fits n o s && b) (leads_into_append n ps qs P (result n o.effect s))

pub leads_into_at : (n : ℕ) (ps : List OperatorTree) (P : ℕ → Bool) (s t : ℕ) → Leads n ps s t → leads_into n ps P s ≡ P t
leads_into_at n [] P s t p = ap P p
leads_into_at n (o ∷ ps) P s t p =
    let q = (leads_first n o ps s t).0 p in
    ap (λ b. b && leads_into n ps P (result n o.effect s)) ((fits_agrees n o s).1 q.0) ∙ leads_into_at n ps P (result n o.effect s) t q.1

pub leads_into_after : (n : ℕ) (ps qs : List OperatorTree) (P : ℕ → Bool) (s t : ℕ) → Leads n ps s t → leads_into n (ps ++ qs) P s ≡ leads_into n qs P t
leads_into_after n ps qs P s t p = leads_into_append n ps qs P s ∙ leads_into_at n ps (leads_into n qs P) s t p

-- reaching a task's goal
pub reaches_exact : (t : TaskTree) (os : List OperatorTree) (s : ℕ) → Reaches t os s ↔ (leads_into t.width os (λ x. truth x t.goal) s ≡ true)
reaches_exact t os s = (
  (λ r. leads_intos t.width os (λ x. truth x t.goal) s r.end r.leads r.goal),
  (λ h. let p = into_leads t.width os (λ x. truth x t.goal) s h in record { end = p.0; leads = p.1; goal = p.2 }),
)

-- operators named by numbers
pub named_append : (os : List OperatorTree) (ks js : List ℕ) → named os (ks ++ js) ≡ named os ks ++ named os js
named_append os [] js = refl
named_append os (k ∷ ks) js = ap (λ ps. get_or os k idle ∷ ps) (named_append os ks js)

pub numbers_below_append : (count : ℕ) (ks js : List ℕ) → NumbersBelow count ks → NumbersBelow count js → NumbersBelow count (ks ++ js)
numbers_below_append count [] js h k = k
numbers_below_append count (x ∷ ks) js h k = (h.0, numbers_below_append count ks js h.1 k)

-- the named operators have their variables below n
pub operator_below : (n : ℕ) (os : List OperatorTree) (k : ℕ) → OperatorsBelow n os → FormulaBelow n (get_or os k idle).precondition × EffectBelow n (get_or os k idle).effect
operator_below n [] zero h = (tt, tt)
operator_below n [] (suc k) h = (tt, tt)
operator_below n (o ∷ os) zero h = h.0
operator_below n (o ∷ os) (suc k) h = operator_below n os k h.1

pub named_below : (n : ℕ) (os : List OperatorTree) (ks : List ℕ) → OperatorsBelow n os → OperatorsBelow n (named os ks)
named_below n os [] h = tt
named_below n os (k ∷ ks) h = (operator_below n os k h, named_below n os ks h)

pub within_below : (n : ℕ) (os : List OperatorTree) → OperatorsWithin n os → OperatorsBelow n os
within_below n [] h = tt
within_below n (o ∷ os) h = ((h.0.0.below, h.0.1.below), within_below n os h.1)
