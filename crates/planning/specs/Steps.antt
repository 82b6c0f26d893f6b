-- When an operator fits a state, and what its result is there. Variables are those below n.
-- Assumes nothing.
use Rattle.std.specs.Prelude.{◌≡◌, ℕ, zero, suc, ◌+◌, ◌^◌, ◌<◌, Bool, true, false, cond, not, ◌&&◌, ◌||◌, ◌≢◌}
use Rattle.planning.specs.Tree.{bit, Effect, OperatorTree}
use Rattle.planning.specs.Truth.{truth}
use Rattle.planning.specs.ChangeSet.{is, isnt, makes}

-- the operator may be run in s: its precondition is true there, and it sets and clears no variable together
pub record Fits (n : ℕ) (o : OperatorTree) (s : ℕ) : Type 0 where
  pub holds : truth s o.precondition ≡ true
  pub apart : (v : ℕ) → v < n → makes s o.effect (is v) ≡ true → makes s o.effect (isnt v) ≢ true

-- t is where it leads: a variable that is made true is true, one that is made false is false, any other stays
pub record ResultIs (n : ℕ) (o : OperatorTree) (s t : ℕ) : Type 0 where
  pub within : t < 2 ^ n
  pub on : (v : ℕ) → v < n → makes s o.effect (is v) ≡ true → bit t v ≡ true
  pub off : (v : ℕ) → v < n → makes s o.effect (isnt v) ≡ true → bit t v ≡ false
  pub stays : (v : ℕ) → v < n → makes s o.effect (is v) ≡ false → makes s o.effect (isnt v) ≡ false → bit t v ≡ bit s v

-- e sets and clears v together in s
abbrev pub clash : ℕ → Effect → ℕ → Bool
clash s e v = makes s e (is v) && makes s e (isnt v)

-- no variable below n is set and cleared together
unfoldable pub clash_free : ℕ → Effect → ℕ → Bool
clash_free zero e s = true
clash_free (suc n) e s = not (clash s e n) && clash_free n e s

-- Fits, worked out
abbrev pub fits : ℕ → OperatorTree → ℕ → Bool
fits n o s = truth s o.precondition && clash_free n o.effect s

-- the state in which exactly the variables below n that P says are true
unfoldable pub gather : ℕ → (ℕ → Bool) → ℕ
gather zero P = 0
gather (suc n) P = gather n P + cond (P n) (2 ^ n) 0

-- the value of v after e: made true, or true and not made false
abbrev pub after : Effect → ℕ → ℕ → Bool
after e s v = makes s e (is v) || (bit s v && not (makes s e (isnt v)))

-- the state after e
abbrev pub result : ℕ → Effect → ℕ → ℕ
result n e s = gather n (after e s)

-- v is the smallest variable that e sets and clears together in s
pub record FirstClash (n : ℕ) (e : Effect) (s v : ℕ) : Type 0 where
  pub below : v < n
  pub clashes : clash s e v ≡ true
  pub first : (w : ℕ) → w < v → clash s e w ≡ false

-- the variables below n that e sets in s, and those that it clears, as numbers: bit v for variable v
abbrev pub set_mask : ℕ → Effect → ℕ → ℕ
set_mask n e s = gather n (λ v. makes s e (is v))

abbrev pub clear_mask : ℕ → Effect → ℕ → ℕ
clear_mask n e s = gather n (λ v. makes s e (isnt v))

-- the state with the variables of one set made true and those of another made false, any other left; one in both is made true
abbrev pub masked : ℕ → ℕ → ℕ → ℕ → ℕ
masked n s set clear = gather n (λ v. bit set v || (bit s v && not (bit clear v)))
