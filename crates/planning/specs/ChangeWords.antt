-- EC over words: each word of an effect changed, the words of its conditions left.
-- Assumes nothing.
use Rattle.std.specs.Prelude.{ℕ, Bool, true, false, Some, None, Option}
use Rattle.words.specs.declared.kind.Kind.{Kind}
use Rattle.words.specs.declared.kind.Kind.TheVariants.{True, False, Var, Not, And, Or, Nil, Set, Clear, Both, When, Head, On, Part}
use Rattle.words.specs.Words.{word, kind_of, load_of}
use Rattle.planning.specs.ChangeSet.{Literal, is, isnt, same}

abbrev pub constant_word : Bool → ℕ
constant_word true = word True 0
constant_word false = word False 0

-- the atomic effect that makes l true to TRUE, other atomic effects and NIL to FALSE, BOTH to OR, WHEN to AND
abbrev pub changed_as : Literal → Option Kind → ℕ → ℕ
changed_as l (Some Nil) w = word False 0
changed_as l (Some Set) w = constant_word (same (is (load_of w)) l)
changed_as l (Some Clear) w = constant_word (same (isnt (load_of w)) l)
changed_as l (Some Both) w = word Or 0
changed_as l (Some When) w = word And 0
changed_as l (Some True) w = w
changed_as l (Some False) w = w
changed_as l (Some Var) w = w
changed_as l (Some Not) w = w
changed_as l (Some And) w = w
changed_as l (Some Or) w = w
changed_as l (Some Head) w = w
changed_as l (Some On) w = w
changed_as l (Some Part) w = w
changed_as l None w = w

abbrev pub changed_word : Literal → ℕ → ℕ
changed_word l w = changed_as l (kind_of w) w
