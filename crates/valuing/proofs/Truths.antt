-- The truth of a formula in a single state.
use Rattle.std.proofs.Common.{◌≡◌, ℕ, Bool, true, false, cond, eqb, ltb, Some, None, Ok, Err, Result, refl, ap, ◌∙◌, arith}
use Rattle.words.specs.declared.fault.Fault.{Fault}
use Rattle.words.specs.declared.fault.Refusal.TheVariants.{WrongWidth, BankFull}
use Rattle.words.specs.Refusals.{bank_fault}
use Rattle.planning.specs.Tree.{Formula}
use Rattle.planning.specs.Truth.{truth}
use Rattle.valuing.specs.Meaning.{state_meaning}
use Rattle.valuing.specs.Working.{Worked, part_refusal}

pub truth_told : (n s n' s' width len : ℕ) (f : Formula) (x : ℕ) → part_refusal (state_meaning n s) width len ≡ None → Worked (state_meaning n s) (state_meaning n' s') len f x
    → ◌≡◌ {A = Result Bool Fault} (Ok (eqb x 1)) (cond (eqb width n) (Ok (truth s f)) (Err (bank_fault WrongWidth)))
truth_told n s n' s' width len f x none worked = by (eqb width n) none
  where
    is : eqb x 1 ≡ truth s f
    is = worked.good.means 0 refl ∙ ap (λ t. truth t f) (worked.kept.state 0)

    by : (b : Bool) → cond b (cond (ltb 65536 len) (Some (bank_fault BankFull)) None) (Some (bank_fault WrongWidth)) ≡ None → ◌≡◌ {A = Result Bool Fault} (Ok (eqb x 1)) (cond b (Ok (truth s f)) (Err (bank_fault WrongWidth)))
    by true h = ap (λ (t : Bool). Ok t) is
    by false h = let z : ◌≡◌ {A = ℕ} 0 1 = cc in absurd (omega arith)
