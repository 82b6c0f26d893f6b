-- Truth and change sets depend only on the variables that occur.
use Rattle.std.proofs.Common.{◌≡◌, ℕ, ◌<◌, not, ◌&&◌, ◌||◌, refl, ap, ap₂}
use Rattle.planning.specs.Tree.{bit, Formula, TRUE, FALSE, VAR, NOT, AND, OR, Effect, NIL, SET, CLEAR, BOTH, WHEN}
use Rattle.planning.specs.Limits.{FormulaBelow, EffectBelow}
use Rattle.planning.specs.Truth.{truth}
use Rattle.planning.specs.ChangeSet.{Literal, makes}

module _ (n s t : ℕ) (agree : (v : ℕ) → v < n → bit s v ≡ bit t v) where
  pub truth_agrees : (f : Formula) → FormulaBelow n f → truth s f ≡ truth t f
  truth_agrees TRUE h = refl
  truth_agrees FALSE h = refl
  truth_agrees (VAR v) h = agree v h
  truth_agrees (NOT f) h = ap not (truth_agrees f h)
  truth_agrees (AND f g) h = ap₂ ◌&&◌ (truth_agrees f h.0) (truth_agrees g h.1)
  truth_agrees (OR f g) h = ap₂ ◌||◌ (truth_agrees f h.0) (truth_agrees g h.1)

  pub makes_agrees : (e : Effect) (l : Literal) → EffectBelow n e → makes s e l ≡ makes t e l
  makes_agrees NIL l h = refl
  makes_agrees (SET v) l h = refl
  makes_agrees (CLEAR v) l h = refl
  makes_agrees (BOTH d e) l h = ap₂ ◌||◌ (makes_agrees d l h.0) (makes_agrees e l h.1)
  makes_agrees (WHEN c e) l h = ap₂ ◌&&◌ (truth_agrees c h.0) (makes_agrees e l h.1)
