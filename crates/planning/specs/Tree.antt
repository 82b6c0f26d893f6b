-- States, formulas, effects, operators and tasks, as trees.
-- Assumes nothing.
use Rattle.std.specs.Prelude.{ℕ, ◌/◌, ◌%◌, ◌^◌, Bool, List, ◌==◌}

-- a state is a number: variable v is true in s if bit v of s is 1
abbrev pub bit : ℕ → ℕ → Bool
bit s v = s / 2 ^ v % 2 == 1

pub data Formula : Type 0 where
  TRUE FALSE : Formula
  VAR : ℕ → Formula
  NOT : Formula → Formula
  AND OR : Formula → Formula → Formula

pub data Effect : Type 0 where
  NIL : Effect
  SET CLEAR : ℕ → Effect
  BOTH : Effect → Effect → Effect
  WHEN : Formula → Effect → Effect

pub record OperatorTree : Type 0 where
  pub precondition : Formula
  pub effect : Effect

-- variables are numbered from 0 to the width less 1
pub record TaskTree : Type 0 where
  pub width : ℕ
  pub initial : ℕ
  pub goal : Formula
  pub operators : List OperatorTree
