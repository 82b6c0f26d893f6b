-- At one word, the smaller number decides.
-- Assumes nothing.
use Rattle.std.proofs.Common.{◌≡◌, ℕ, ◌<◌, Bool, true, false, cond, Some, None, Option, refl, subst, arith}
use Rattle.words.specs.declared.fault.Refusal.{Refusal}
use Rattle.words.specs.declared.fault.Refusal.TheVariants.{LooseBytes, WrongWord, VariableOutside, WrongOperand, TooManyWaiting, TooLong, WordMissing, WrongWidth, NoSuchOperator, PreconditionFalse, SetAndCleared, TooManyStanding, BankFull, UnknownFormula, GoalMissed, NothingToWithdraw, OutputTooSmall}
use Rattle.words.specs.declared.kind.Kind.{Kind}
use Rattle.words.specs.Refusals.{number}
use Rattle.reading.specs.Turns.{Turn}
use Rattle.reading.specs.Rules.{wrong_word, variable_outside, wrong_operand, too_many_waiting, too_long, past_the_end, wrong_width}
use Rattle.reading.specs.Faults.{kind_refusal}
use Rattle.reading.specs.Laws.{breaks, SmallerNumberDecides}
use Rattle.reading.proofs.Clean.{clean}

-- a refusal that comes of a test or of what is tested after it
hit : (P : Refusal → Bool) (b : Bool) (q : Refusal) (later : Option Refusal) → P q ≡ b → ((r : Refusal) → later ≡ Some r → P r ≡ true) → (r : Refusal) → cond b (Some q) later ≡ Some r → P r ≡ true
hit P true q later p more r e = let same : q ≡ r = cc in subst (λ x. P x ≡ true) same p
hit P false q later p more r e = more r e

never : (P : Refusal → Bool) (r : Refusal) → None ≡ Some r → P r ≡ true
never P r e = let z : ◌≡◌ {A = ℕ} 0 1 = cc in absurd (omega arith)

-- a refusal of a larger number comes of what is tested later
pass : (b : Bool) (q : Refusal) (later : Option Refusal) (r : Refusal) → cond b (Some q) later ≡ Some r → number q < number r → (b ≡ false) × (later ≡ Some r)
pass true q later r e h = let same : number q ≡ number r = cc in absurd (omega arith)
pass false q later r e h = (refl, e)

module _ (turn : Turn) (rest : ℕ) (j : Kind) (l : ℕ) where
  broken : (r : Refusal) → kind_refusal turn rest j l ≡ Some r → breaks r turn rest j l ≡ true
  broken =
      let P : Refusal → Bool = λ r. breaks r turn rest j l in
      hit P (wrong_word turn j l) WrongWord _ refl
      (hit P (variable_outside turn j l) VariableOutside _ refl
      (hit P (wrong_operand turn j) WrongOperand _ refl
      (hit P (too_many_waiting turn j) TooManyWaiting _ refl
      (hit P (too_long turn j l) TooLong _ refl
      (hit P (past_the_end rest j l) WordMissing _ refl
      (hit P (wrong_width j l) WrongWidth None refl (never P)))))))

  none : kind_refusal turn rest j l ≡ None → (q : Refusal) → breaks q turn rest j l ≡ false
  none e LooseBytes = refl
  none e WrongWord = (clean turn rest j l e).right
  none e VariableOutside = (clean turn rest j l e).below
  none e WrongOperand = (clean turn rest j l e).operands
  none e TooManyWaiting = (clean turn rest j l e).waiting
  none e TooLong = (clean turn rest j l e).short
  none e WordMissing = (clean turn rest j l e).enough
  none e WrongWidth = (clean turn rest j l e).width
  none e NoSuchOperator = refl
  none e PreconditionFalse = refl
  none e SetAndCleared = refl
  none e TooManyStanding = refl
  none e BankFull = refl
  none e UnknownFormula = refl
  none e GoalMissed = refl
  none e NothingToWithdraw = refl
  none e OutputTooSmall = refl

  -- what the rules of a larger number than k say
  abbrev after_8 : Option Refusal
  after_8 = None

  abbrev after_7 : Option Refusal
  after_7 = cond (wrong_width j l) (Some WrongWidth) after_8

  abbrev after_6 : Option Refusal
  after_6 = cond (past_the_end rest j l) (Some WordMissing) after_7

  abbrev after_5 : Option Refusal
  after_5 = cond (too_long turn j l) (Some TooLong) after_6

  abbrev after_4 : Option Refusal
  after_4 = cond (too_many_waiting turn j) (Some TooManyWaiting) after_5

  abbrev after_3 : Option Refusal
  after_3 = cond (wrong_operand turn j) (Some WrongOperand) after_4

  abbrev after_2 : Option Refusal
  after_2 = cond (variable_outside turn j l) (Some VariableOutside) after_3

  module _ (r : Refusal) (e : kind_refusal turn rest j l ≡ Some r) where
    past_2 : 2 < number r → (wrong_word turn j l ≡ false) × (after_2 ≡ Some r)
    past_2 h = pass (wrong_word turn j l) WrongWord after_2 r e h

    past_3 : 3 < number r → (variable_outside turn j l ≡ false) × (after_3 ≡ Some r)
    past_3 h = pass (variable_outside turn j l) VariableOutside after_3 r (past_2 (omega arith)).1 h

    past_4 : 4 < number r → (wrong_operand turn j ≡ false) × (after_4 ≡ Some r)
    past_4 h = pass (wrong_operand turn j) WrongOperand after_4 r (past_3 (omega arith)).1 h

    past_5 : 5 < number r → (too_many_waiting turn j ≡ false) × (after_5 ≡ Some r)
    past_5 h = pass (too_many_waiting turn j) TooManyWaiting after_5 r (past_4 (omega arith)).1 h

    past_6 : 6 < number r → (too_long turn j l ≡ false) × (after_6 ≡ Some r)
    past_6 h = pass (too_long turn j l) TooLong after_6 r (past_5 (omega arith)).1 h

    past_7 : 7 < number r → (past_the_end rest j l ≡ false) × (after_7 ≡ Some r)
    past_7 h = pass (past_the_end rest j l) WordMissing after_7 r (past_6 (omega arith)).1 h

    past_8 : 8 < number r → (wrong_width j l ≡ false) × (after_8 ≡ Some r)
    past_8 h = pass (wrong_width j l) WrongWidth after_8 r (past_7 (omega arith)).1 h

    smallest : (q : Refusal) → number q < number r → breaks q turn rest j l ≡ false
    smallest LooseBytes h = refl
    smallest WrongWord h = (past_2 h).0
    smallest VariableOutside h = (past_3 h).0
    smallest WrongOperand h = (past_4 h).0
    smallest TooManyWaiting h = (past_5 h).0
    smallest TooLong h = (past_6 h).0
    smallest WordMissing h = (past_7 h).0
    smallest WrongWidth h = (past_8 h).0
    smallest NoSuchOperator h = refl
    smallest PreconditionFalse h = refl
    smallest SetAndCleared h = refl
    smallest TooManyStanding h = refl
    smallest BankFull h = refl
    smallest UnknownFormula h = refl
    smallest GoalMissed h = refl
    smallest NothingToWithdraw h = refl
    smallest OutputTooSmall h = refl

pub smaller_number_decides : (turn : Turn) (rest : ℕ) (j : Kind) (l : ℕ) → SmallerNumberDecides turn rest j l
smaller_number_decides turn rest j l = record {
  broken = broken turn rest j l;
  smallest = λ r q e h. smallest turn rest j l r e q h;
  none = none turn rest j l;
}
