-- Values that wait for a later word to take them, the newest first.
-- Assumes nothing.
use Rattle.std.specs.Prelude.{cond, List, [], ◌∷◌, length, nat_lt}

-- one more waits, unless 64 wait already
abbrev pub put_on : {X : Type 0} → List X → X → List X
put_on xs x = cond (nat_lt (length xs) 64) (x ∷ xs) xs

-- the newest, or another value if none waits
abbrev pub newest : {X : Type 0} → X → List X → X
newest missing [] = missing
newest missing (x ∷ xs) = x

-- all but the newest
abbrev pub older : {X : Type 0} → List X → List X
older [] = []
older (x ∷ xs) = xs
