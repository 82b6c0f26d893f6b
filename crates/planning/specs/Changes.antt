-- Numbers read as sets of variables: how many variables differ between two states, and the smallest variable of a set.
-- Assumes nothing.
use Rattle.std.specs.Prelude.{◌≡◌, ℕ, zero, suc, ◌+◌, ◌^◌, ◌<◌, Bool, true, false, cond, not, nat_lt}
use Rattle.planning.specs.Tree.{bit}

-- exactly one of the two is true
abbrev pub differ : Bool → Bool → Bool
differ true b = not b
differ false b = b

-- how many of the variables below n have another value in t than in s
unfoldable pub change_count : (n s t : ℕ) → ℕ
change_count zero s t = 0
change_count (suc n) s t = cond (differ (bit s n) (bit t n)) 1 0 + change_count n s t

-- the mask of one variable: bit v for variable v; a state has no variable from 64 on
abbrev pub mask_of : ℕ → ℕ
mask_of v = cond (nat_lt v 64) (2 ^ v) 0

-- v is the smallest variable that is true in s
pub record Smallest (s v : ℕ) : Type 0 where
  pub holds : bit s v ≡ true
  pub first : (w : ℕ) → w < v → bit s w ≡ false
