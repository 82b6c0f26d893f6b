-- When a width and a number are a state.
-- Assumes nothing.
use Rattle.std.specs.Prelude.{ℕ, ◌^◌, Bool, cond, ◌&&◌, Some, None, Option, nat_le, nat_lt}
use Rattle.words.specs.declared.fault.Fault.{Fault}
use Rattle.words.specs.declared.fault.Refusal.TheVariants.{WrongWidth}
use Rattle.words.specs.Refusals.{bank_fault}

-- 1 to 64 variables, and no bit at or above the width
abbrev pub is_state : ℕ → ℕ → Bool
is_state n s = nat_le 1 n && (nat_le n 64 && nat_lt s (2 ^ n))

abbrev pub state_refusal : ℕ → ℕ → Option Fault
state_refusal n s = cond (is_state n s) None (Some (bank_fault WrongWidth))
