-- A word is faultless exactly where no rule refuses it.
-- Assumes nothing.
use Rattle.std.proofs.Common.{◌≡◌, ℕ, Bool, true, false, cond, Some, None, Option, refl, ◌∙◌, arith}
use Rattle.std.proofs.lemmas.Bool.{cond-false}
use Rattle.words.specs.declared.fault.Refusal.{Refusal}
use Rattle.words.specs.declared.fault.Refusal.TheVariants.{WrongWord, VariableOutside, WrongOperand, TooManyWaiting, TooLong, WordMissing, WrongWidth}
use Rattle.words.specs.declared.kind.Kind.{Kind}
use Rattle.reading.specs.Turns.{Turn}
use Rattle.reading.specs.Rules.{wrong_word, variable_outside, wrong_operand, too_many_waiting, too_long, past_the_end, wrong_width}
use Rattle.reading.specs.Faults.{kind_refusal}

pub record Clean (turn : Turn) (rest : ℕ) (j : Kind) (l : ℕ) : Type 0 where
  pub right : wrong_word turn j l ≡ false
  pub below : variable_outside turn j l ≡ false
  pub operands : wrong_operand turn j ≡ false
  pub waiting : too_many_waiting turn j ≡ false
  pub short : too_long turn j l ≡ false
  pub enough : past_the_end rest j l ≡ false
  pub width : wrong_width j l ≡ false

cond_none : (b : Bool) (r : Refusal) (o : Option Refusal) → cond b (Some r) o ≡ None → (b ≡ false) × (o ≡ None)
cond_none true r o e = let z : ◌≡◌ {A = ℕ} 0 1 = cc in absurd (omega arith)
cond_none false r o e = (refl, e)

pub clean : (turn : Turn) (rest : ℕ) (j : Kind) (l : ℕ) → kind_refusal turn rest j l ≡ None → Clean turn rest j l
clean turn rest j l e =
    let a = cond_none (wrong_word turn j l) WrongWord _ e in
    let b = cond_none (variable_outside turn j l) VariableOutside _ a.1 in
    let c = cond_none (wrong_operand turn j) WrongOperand _ b.1 in
    let d = cond_none (too_many_waiting turn j) TooManyWaiting _ c.1 in
    let f = cond_none (too_long turn j l) TooLong _ d.1 in
    let g = cond_none (past_the_end rest j l) WordMissing _ f.1 in
    let h = cond_none (wrong_width j l) WrongWidth _ g.1 in
    record { right = a.0; below = b.0; operands = c.0; waiting = d.0; short = f.0; enough = g.0; width = h.0 }

pub unrefused : (turn : Turn) (rest : ℕ) (j : Kind) (l : ℕ) → Clean turn rest j l → kind_refusal turn rest j l ≡ None
unrefused turn rest j l c =
    cond-false (wrong_word turn j l) (Some WrongWord) _ c.right
    ∙ cond-false (variable_outside turn j l) (Some VariableOutside) _ c.below
    ∙ cond-false (wrong_operand turn j) (Some WrongOperand) _ c.operands
    ∙ cond-false (too_many_waiting turn j) (Some TooManyWaiting) _ c.waiting
    ∙ cond-false (too_long turn j l) (Some TooLong) _ c.short
    ∙ cond-false (past_the_end rest j l) (Some WordMissing) _ c.enough
    ∙ cond-false (wrong_width j l) (Some WrongWidth) None c.width
