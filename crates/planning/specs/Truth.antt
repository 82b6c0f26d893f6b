-- Truth of a formula in a state.
-- Assumes nothing.
use Rattle.std.specs.Prelude.{ℕ, Bool, true, false, not, ◌&&◌, ◌||◌}
use Rattle.planning.specs.Tree.{bit, Formula, TRUE, FALSE, VAR, NOT, AND, OR}

abbrev pub truth : ℕ → Formula → Bool
truth s TRUE = true
truth s FALSE = false
truth s (VAR v) = bit s v
truth s (NOT f) = not (truth s f)
truth s (AND f g) = truth s f && truth s g
truth s (OR f g) = truth s f || truth s g
