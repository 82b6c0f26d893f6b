-- The worked examples, computed.
-- Assumes nothing.
use Rattle.std.proofs.Common.{◌≡◌, ℕ, ◌<◌, [], ◌∷◌, codes, refl}
use Rattle.std.specs.Fmt.{digits}
use Rattle.planning.specs.Tree.{Formula, SET, CLEAR, BOTH}
use Rattle.planning.specs.Steps.{Fits, clash_free, gather}
use Rattle.planning.specs.Changes.{change_count}
use Rattle.lines.specs.Lines.{hex_digits}
use Rattle.outcomes.specs.Worked.{example_line, WorkedExamples}

solved : example_line (2 ∷ 0 ∷ 1 ∷ 0 ∷ []) ≡ codes "ACCEPT 4 4 0000000000000004\n"
unfolding gather clash_free change_count hex_digits digits
solved = refl

repeated : example_line (2 ∷ 2 ∷ 0 ∷ 1 ∷ 0 ∷ []) ≡ codes "ACCEPT 5 4 0000000000000004\n"
unfolding gather clash_free change_count hex_digits digits
repeated = refl

stopped : example_line (0 ∷ 1 ∷ 0 ∷ []) ≡ codes "REFUSE 10 1 19\n"
unfolding gather clash_free digits
stopped = refl

empty : example_line [] ≡ codes "REFUSE 15 0 3\n"
unfolding digits
empty = refl

all_digits : hex_digits 16 0xfedcba9876543210 ≡ codes "fedcba9876543210"
unfolding hex_digits
all_digits = refl

nowhere : (n : ℕ) (c : Formula) (s : ℕ) → 0 < n → Fits n (record { precondition = c; effect = BOTH (SET 0) (CLEAR 0) }) s → ⊥
nowhere n c s l f = f.apart 0 l refl refl

pub worked_examples : WorkedExamples
worked_examples = record { solved = solved; repeated = repeated; stopped = stopped; empty = empty; digits = all_digits; nowhere = nowhere }
