-- The line that tells the verdict, as bytes.
-- Assumes nothing.
use Rattle.std.specs.Prelude.{ℕ, List}
use Rattle.lines.specs.Lines.{accept_bytes, refuse_bytes}
use Rattle.outcomes.specs.Runs.{Outcome, accepted, refused}

abbrev pub outcome_bytes : Outcome → List ℕ
outcome_bytes (accepted steps changes end) = accept_bytes steps changes end
outcome_bytes (refused f) = refuse_bytes f
