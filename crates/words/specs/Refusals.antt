-- The refusals: their numbers, and the faults that the layers make of them.
-- Assumes nothing.
use Rattle.std.specs.Prelude.{ℕ}
use Rattle.words.specs.declared.fault.Refusal.{Refusal}
use Rattle.words.specs.declared.fault.Refusal.TheVariants.{LooseBytes, WrongWord, VariableOutside, WrongOperand, TooManyWaiting, TooLong, WordMissing, WrongWidth, NoSuchOperator, PreconditionFalse, SetAndCleared, TooManyStanding, BankFull, UnknownFormula, GoalMissed, NothingToWithdraw, OutputTooSmall}
use Rattle.words.specs.declared.fault.Layer.TheVariants.{File, Task, Bank, Run}
use Rattle.words.specs.declared.fault.Fault.{Fault}

-- the number of each refusal; where several hold of one word, the smaller number is given
abbrev pub number : Refusal → ℕ
-- a file's bytes are not a multiple of 4
number LooseBytes = 1
-- a kind that is unused or out of turn, or of effects in a formula's part; a load that should be 0 and is not; ON not rising
number WrongWord = 2
-- a variable that is not under the width
number VariableOutside = 3
-- an operand missing or of the wrong sort; at a part's last word, anything but one value of the part's sort
number WrongOperand = 4
-- a 65th value waiting
number TooManyWaiting = 5
-- too many words, steps or operators, or a part's length that is 0 or over 4,096
number TooLong = 6
-- a PART that promises more words than are left, or a needed word that is absent
number WordMissing = 7
-- a number of variables that is not 1 to 64, a state that does not fit its width, or two widths that should be equal and are not
number WrongWidth = 8
-- no operator has the number
number NoSuchOperator = 9
-- the operator's precondition is false
number PreconditionFalse = 10
-- the operator sets and clears one variable together
number SetAndCleared = 11
-- 64 steps stand already
number TooManyStanding = 12
-- the bank has too little room
number BankFull = 13
-- the valuer or bank does not know the formula
number UnknownFormula = 14
-- the run is finished and the goal is false
number GoalMissed = 15
-- no step stands that could be withdrawn
number NothingToWithdraw = 16
-- the output has too few words for the result
number OutputTooSmall = 17

-- a fault of the file layer: the place is a word of the file
abbrev pub file_fault : Refusal → ℕ → Fault
file_fault why at = record { layer = File; refusal = why; step = 0; place = at }

-- a fault of the task layer: the place is a word of the task
abbrev pub task_fault : Refusal → ℕ → Fault
task_fault why at = record { layer = Task; refusal = why; step = 0; place = at }

-- a fault of the bank layer, which has neither step nor place
abbrev pub bank_fault : Refusal → Fault
bank_fault why = record { layer = Bank; refusal = why; step = 0; place = 0 }

-- a fault of the run layer: after how many steps, and at which word or number
abbrev pub run_fault : Refusal → ℕ → ℕ → Fault
run_fault why steps at = record { layer = Run; refusal = why; step = steps; place = at }
