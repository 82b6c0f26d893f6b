-- What the words of a formula make, one after the other, over the formulas that wait.
-- Assumes nothing.
use Rattle.std.specs.Prelude.{◌≡◌, ℕ, ◌<◌, ◌≤◌, List, [], ◌∷◌, length, Some, None, Option}
use Rattle.words.specs.declared.kind.Kind.{Kind}
use Rattle.words.specs.declared.kind.Kind.TheVariants as kind
use Rattle.words.specs.Words.{kind_of, load_of}
use Rattle.planning.specs.ChangeSet as change-set
use Rattle.planning.specs.ChangeWords.{changed_word}
use Rattle.planning.specs.Tree.{Formula, TRUE, FALSE, VAR, NOT, AND, OR}
use Rattle.reading.specs.Trees.{one_to_one, two_to_one}
use Rattle.valuing.specs.declared.making.Making.{Making}
use Rattle.valuing.specs.declared.making.Making.TheVariants.{True, False, Variable, Not, And, Or, Nothing}
use Rattle.valuing.specs.declared.making.Literal.{Literal}
use Rattle.valuing.specs.declared.making.Literal.TheVariants.{Is, IsNot}
use Rattle.valuing.specs.declared.making.Reading.{Reading}
use Rattle.valuing.specs.declared.making.Reading.TheVariants as reading

-- what a word of that kind and load makes
abbrev pub making_of : Option Kind → ℕ → Making
making_of None l = Nothing
making_of (Some kind.True) l = True
making_of (Some kind.False) l = False
making_of (Some kind.Var) l = Variable l
making_of (Some kind.Not) l = Not
making_of (Some kind.And) l = And
making_of (Some kind.Or) l = Or
making_of (Some kind.Nil) l = Nothing
making_of (Some kind.Set) l = Nothing
making_of (Some kind.Clear) l = Nothing
making_of (Some kind.Both) l = Nothing
making_of (Some kind.When) l = Nothing
making_of (Some kind.Head) l = Nothing
making_of (Some kind.On) l = Nothing
making_of (Some kind.Part) l = Nothing

abbrev pub literal_of : Literal → change-set.Literal
literal_of (Is v) = change-set.is v
literal_of (IsNot v) = change-set.isnt v

-- a word as it is read: in a condition, changed
abbrev pub read_as : Reading → ℕ → ℕ
read_as reading.Formula w = w
read_as (reading.Condition l) w = changed_word (literal_of l) w

-- a word can be worked out over the formulas that wait: its operands are there, and a 65th value does not wait
abbrev pub Ready : (width : ℕ) → Making → List Formula → Type 0
Ready width True st = length st < 64
Ready width False st = length st < 64
Ready width (Variable v) st = (length st < 64) × (v < width)
Ready width Not st = 1 ≤ length st
Ready width And st = 2 ≤ length st
Ready width Or st = 2 ≤ length st
Ready width Nothing st = ⊥

-- the formulas that wait then
abbrev pub after : Making → List Formula → List Formula
after True st = TRUE ∷ st
after False st = FALSE ∷ st
after (Variable v) st = VAR v ∷ st
after Not st = one_to_one NOT st
after And st = two_to_one AND st
after Or st = two_to_one OR st
after Nothing st = st

-- what a word makes, read so
abbrev pub word_making : Reading → ℕ → Making
word_making reading w = making_of (kind_of (read_as reading w)) (load_of (read_as reading w))

-- the words, read so over what waits, can all be worked out and leave f alone
abbrev pub Runs : (width : ℕ) → Reading → List ℕ → List Formula → Formula → Type 0
Runs width reading [] st f = st ≡ f ∷ []
Runs width reading (w ∷ ws) st f = Ready width (word_making reading w) st × Runs width reading ws (after (word_making reading w) st) f
