-- Worked examples: the cell with a clamp, a probe and a part, and an effect that clashes everywhere.
-- Assumes nothing.
use Rattle.std.specs.Prelude.{◌≡◌, ℕ, ◌<◌, List, [], ◌∷◌, codes}
use Rattle.words.specs.declared.kind.Kind.TheVariants.{True, Var, Not, And, Set, Clear, Both, When, Head, On, Part}
use Rattle.words.specs.Words.{word}
use Rattle.words.specs.Files.{bytes_of}
use Rattle.planning.specs.Tree.{Formula, SET, CLEAR, BOTH}
use Rattle.planning.specs.Steps.{Fits}
use Rattle.lines.specs.Lines.{hex_digits}
use Rattle.outcomes.specs.Verdicts.{verdict_bytes}

-- variables: 0 clamped, 1 probe out, 2 part set. The probe is out at the start; the goal: the part is set and not clamped.
-- Operator 0 clamps, or lets go if it is clamped; operator 1, with the probe in, sets the part if it is clamped; operator 2
-- draws the probe in.
abbrev pub example_words : List ℕ
example_words =
    word Head 3 ∷ word On 1
    ∷ word Part 4 ∷ word Var 2 ∷ word Var 0 ∷ word Not 0 ∷ word And 0
    ∷ word Part 1 ∷ word True 0
    ∷ word Part 8 ∷ word Var 0 ∷ word Clear 0 ∷ word When 0 ∷ word Var 0 ∷ word Not 0 ∷ word Set 0 ∷ word When 0 ∷ word Both 0
    ∷ word Part 2 ∷ word Var 1 ∷ word Not 0
    ∷ word Part 3 ∷ word Var 0 ∷ word Set 2 ∷ word When 0
    ∷ word Part 1 ∷ word True 0
    ∷ word Part 1 ∷ word Clear 1 ∷ []

-- the verdict's line on that task and a plan
abbrev pub example_line : (plan : List ℕ) → List ℕ
example_line plan = verdict_bytes (bytes_of example_words) (bytes_of plan)

pub record WorkedExamples : Type 0 where
  pub solved : example_line (2 ∷ 0 ∷ 1 ∷ 0 ∷ []) ≡ codes "ACCEPT 4 4 0000000000000004\n"
  -- a step that changes nothing: the number of steps and that of changes differ
  pub repeated : example_line (2 ∷ 2 ∷ 0 ∷ 1 ∷ 0 ∷ []) ≡ codes "ACCEPT 5 4 0000000000000004\n"
  pub stopped : example_line (0 ∷ 1 ∷ 0 ∷ []) ≡ codes "REFUSE 10 1 19\n"
  pub empty : example_line [] ≡ codes "REFUSE 15 0 3\n"
  -- each hexadecimal digit once
  pub digits : hex_digits 16 0xfedcba9876543210 ≡ codes "fedcba9876543210"
  -- set and cleared together: it fits no state, whatever the precondition
  pub nowhere : (n : ℕ) (c : Formula) (s : ℕ) → 0 < n → Fits n (record { precondition = c; effect = BOTH (SET 0) (CLEAR 0) }) s → ⊥
