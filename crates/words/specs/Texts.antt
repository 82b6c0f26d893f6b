-- The texts of layers, refusals and faults.
-- Assumes nothing.
use Rattle.std.specs.Prelude.{ℕ, List, ◌++◌, codes, decimal}
use Rattle.words.specs.declared.fault.Refusal.{Refusal}
use Rattle.words.specs.declared.fault.Refusal.TheVariants.{LooseBytes, WrongWord, VariableOutside, WrongOperand, TooManyWaiting, TooLong, WordMissing, WrongWidth, NoSuchOperator, PreconditionFalse, SetAndCleared, TooManyStanding, BankFull, UnknownFormula, GoalMissed, NothingToWithdraw, OutputTooSmall}
use Rattle.words.specs.declared.fault.Layer.{Layer}
use Rattle.words.specs.declared.fault.Layer.TheVariants.{File, Task, Bank, Run}
use Rattle.words.specs.declared.fault.Fault.{Fault}
use Rattle.words.specs.Refusals.{number}

-- the name of each layer
abbrev pub layer_text : Layer → List ℕ
layer_text File = codes "file"
layer_text Task = codes "task"
layer_text Bank = codes "bank"
layer_text Run = codes "run"

-- what each refusal means, in words
abbrev pub refusal_text : Refusal → List ℕ
refusal_text LooseBytes = codes "the number of bytes is not a multiple of 4"
refusal_text WrongWord = codes "a word of this kind or with this load may not stand here"
refusal_text VariableOutside = codes "the variable is not one of the task's"
refusal_text WrongOperand = codes "an operand is missing or of the wrong sort, or the part does not end with one value of its sort"
refusal_text TooManyWaiting = codes "a 65th value would wait for a later word"
refusal_text TooLong = codes "a limit is passed: of words, of a part's length, of operators or of steps"
refusal_text WordMissing = codes "words are missing"
refusal_text WrongWidth = codes "the number of variables does not fit"
refusal_text NoSuchOperator = codes "the task has no operator with the number that the plan asks for"
refusal_text PreconditionFalse = codes "the operator's precondition is false"
refusal_text SetAndCleared = codes "the operator sets and clears one variable together"
refusal_text TooManyStanding = codes "64 steps stand already"
refusal_text BankFull = codes "the bank has too little room"
refusal_text UnknownFormula = codes "the formula is not known"
refusal_text GoalMissed = codes "the plan is done and the goal is false"
refusal_text NothingToWithdraw = codes "no step stands that could be withdrawn"
refusal_text OutputTooSmall = codes "the output has too few words"

-- a fault by its layer, its refusal's number, its step and its place
abbrev pub fault_text : Fault → List ℕ
fault_text f =
    layer_text f.layer ++ codes " " ++ decimal (number f.refusal) ++ codes ", step " ++ decimal f.step ++ codes ", place " ++ decimal f.place
