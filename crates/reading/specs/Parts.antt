-- The words of one part, read alone.
-- Assumes nothing.
use Rattle.std.specs.Prelude.{ℕ, Bool, not, List, [], ◌∷◌, length, is_some, Some, None, Option}
use Rattle.words.specs.declared.fault.Fault.{Fault}
use Rattle.words.specs.declared.kind.Kind.{Kind}
use Rattle.words.specs.Words.{kind_of, load_of}
use Rattle.planning.specs.Tree.{Formula, Effect}
use Rattle.reading.specs.declared.section.Section.TheVariants as section
use Rattle.reading.specs.Turns.{in_part}
use Rattle.reading.specs.Faults.{fault_from}
use Rattle.reading.specs.Trees.{Value, as_formula, as_effect, newest, values_after}

-- the first fault in the words of a formula over n variables, as those of a goal are read
abbrev pub formula_fault : ℕ → List ℕ → Option Fault
formula_fault n ws = fault_from (in_part n 0 0 section.Goal (length ws) []) 0 ws

-- the first fault in the words of an effect over n variables
abbrev pub effect_fault : ℕ → List ℕ → Option Fault
effect_fault n ws = fault_from (in_part n 0 0 section.Effect (length ws) []) 0 ws

-- the words are those of a formula, or of an effect, over n variables
abbrev pub is_formula : ℕ → List ℕ → Bool
is_formula n ws = not (is_some (formula_fault n ws))

abbrev pub is_effect : ℕ → List ℕ → Bool
is_effect n ws = not (is_some (effect_fault n ws))

-- what waits after a word, and after the words of a part
abbrev pub values_past : Option Kind → ℕ → List Value → List Value
values_past None l vs = vs
values_past (Some j) l vs = values_after j l vs

abbrev pub part_values : List Value → List ℕ → List Value
part_values vs [] = vs
part_values vs (w ∷ ws) = part_values (values_past (kind_of w) (load_of w) vs) ws

-- the formula whose words these are, and the effect
abbrev pub formula_of : List ℕ → Formula
formula_of ws = as_formula (newest (part_values [] ws))

abbrev pub effect_of : List ℕ → Effect
effect_of ws = as_effect (newest (part_values [] ws))
