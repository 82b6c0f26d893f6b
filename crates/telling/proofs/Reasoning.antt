-- The variable of a clash is told.
-- Assumes nothing.
use Rattle.std.proofs.Common.{◌≡◌, ℕ, ◌+◌, ◌-◌, ◌<◌, length, codes, decimal, ◌++◌, inl, inr, sym, ap, ◌∙◌, arith}
use Rattle.std.proofs.lemmas.Bool.{lt-ltb}
use Rattle.words.specs.declared.fault.Fault.{Fault}
use Rattle.words.specs.declared.fault.Refusal.{Refusal}
use Rattle.words.specs.declared.fault.Refusal.TheVariants.{TooLong, WrongWidth, NoSuchOperator, PreconditionFalse, SetAndCleared}
use Rattle.words.specs.Refusals.{number}
use Rattle.planning.specs.Tree.{TaskTree}
use Rattle.planning.specs.Steps.{FirstClash}
use Rattle.tasks.specs.Places.{operator_of, effect_place}
use Rattle.outcomes.specs.Laws.{NoNext}
use Rattle.outcomes.proofs.Stepping.{step_decided}
use Rattle.telling.specs.Reasons.{reason_text, ReasonsTold}

-- the operator's effect and the variable make the place
named : (t : TaskTree) (k v : ℕ) → k < length t.operators → reason_text t k SetAndCleared (effect_place t k + v) ≡ codes "it sets and clears v" ++ (decimal v ++ codes " together")
named t k v lt =
    let behind : effect_place t k + v - effect_place t k ≡ v = omega arith in
    rw (lt-ltb k (length t.operators) lt) (ap (λ n. codes "it sets and clears v" ++ (decimal n ++ codes " together")) behind)

module _ (t : TaskTree) (width s made k : ℕ) (f : Fault) (clash : f.refusal ≡ SetAndCleared) where
  -- a fault of another number is no clash
  other : (r : Refusal) → f.refusal ≡ r → (number r ≡ 11 → ⊥) → ⊥
  other r e differs = differs (sym (ap number e) ∙ ap number clash)

  told : NoNext t width s made k f → (v : ℕ) × FirstClash t.width (operator_of t k).effect s v × (reason_text t k f.refusal f.place ≡ codes "it sets and clears v" ++ (decimal v ++ codes " together"))
  told (inl (w, e)) = absurd (other WrongWidth (ap (λ g. g.refusal) e) (λ z. omega arith))
  told (inr (w, inl (o, e))) = absurd (other TooLong (ap (λ g. g.refusal) e) (λ z. omega arith))
  told (inr (w, inr (o, inl (n, e)))) = absurd (other NoSuchOperator (ap (λ g. g.refusal) e) (λ z. omega arith))
  told (inr (w, inr (o, inr (lt, inl (h, e))))) = absurd (other PreconditionFalse (ap (λ g. g.refusal) e) (λ z. omega arith))
  told (inr (w, inr (o, inr (lt, inr (h, (v, first, e)))))) = (v, first, ap (λ g. reason_text t k g.refusal g.place) e ∙ named t k v lt)

pub reasons_told : (t : TaskTree) (width s made k : ℕ) (f : Fault) → ReasonsTold t width s made k f
reasons_told t width s made k f = record { clash = λ h clash. told t width s made k f clash ((step_decided t width s made k).refuses f h) }
