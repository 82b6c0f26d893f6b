-- What a making of a valuer answers: its refusals in their order, or the value.
-- Assumes nothing.
use Rattle.std.specs.Prelude.{◌≡◌, ℕ, Bool, cond, ◌&&◌, Some, None, Ok, Err, Option, Result, ◌==◌, nat_lt}
use Rattle.words.specs.declared.fault.Fault.{Fault}
use Rattle.words.specs.declared.fault.Refusal.TheVariants.{VariableOutside, BankFull, UnknownFormula}
use Rattle.words.specs.Refusals.{bank_fault}
use Rattle.valuing.specs.Meaning.{Meaning, Made}

-- refused exactly if the room is 0
abbrev pub full_refusal : Meaning → Option Fault
full_refusal m = cond (m.room == 0) (Some (bank_fault BankFull)) None

-- a variable outside the width first
abbrev pub variable_refusal : Meaning → (v : ℕ) → Option Fault
variable_refusal m v = cond (nat_lt v m.width) (full_refusal m) (Some (bank_fault VariableOutside))

-- an unknown operand first
abbrev pub operand_refusal : Meaning → (a : ℕ) → Option Fault
operand_refusal m a = cond (m.known a) (full_refusal m) (Some (bank_fault UnknownFormula))

abbrev pub operands_refusal : Meaning → (a b : ℕ) → Option Fault
operands_refusal m a b = cond (m.known a && m.known b) (full_refusal m) (Some (bank_fault UnknownFormula))

-- refused exactly with that fault, and the whole meaning left; else a value is made that is true where P says
abbrev pub Answers : Meaning → Meaning → Option Fault → (ℕ → Bool) → Result ℕ Fault → Type 0
Answers m m' refusal P (Ok x) = (refusal ≡ None) × Made m m' P x
Answers m m' refusal P (Err e) = (refusal ≡ Some e) × (m' ≡ m)
