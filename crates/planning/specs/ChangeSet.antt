-- What an effect changes in a state: its change set, and the condition EC as a formula.
-- Assumes nothing.
use Rattle.std.specs.Prelude.{ℕ, Bool, true, false, ◌&&◌, ◌||◌, ◌==◌}
use Rattle.planning.specs.Tree.{Formula, TRUE, FALSE, AND, OR, Effect, NIL, SET, CLEAR, BOTH, WHEN}
use Rattle.planning.specs.Truth.{truth}

-- a literal: a variable, or its negation
pub data Literal : Type 0 where
  is isnt : ℕ → Literal

abbrev pub same : Literal → Literal → Bool
same (is v) (is w) = v == w
same (is v) (isnt w) = false
same (isnt v) (is w) = false
same (isnt v) (isnt w) = v == w

-- is l in the change set of e in s, that is, does e make l true there?
abbrev pub makes : ℕ → Effect → Literal → Bool
makes s NIL l = false
makes s (SET v) l = same (is v) l
makes s (CLEAR v) l = same (isnt v) l
makes s (BOTH d e) l = makes s d l || makes s e l
makes s (WHEN c e) l = truth s c && makes s e l

abbrev pub constant : Bool → Formula
constant true = TRUE
constant false = FALSE

-- the condition under which e makes l true: e with the atomic effect that makes l true changed to TRUE,
-- other atomic effects and NIL to FALSE, BOTH to OR and WHEN to AND
abbrev pub EC : Literal → Effect → Formula
EC l NIL = FALSE
EC l (SET v) = constant (same (is v) l)
EC l (CLEAR v) = constant (same (isnt v) l)
EC l (BOTH d e) = OR (EC l d) (EC l e)
EC l (WHEN c e) = AND c (EC l e)
