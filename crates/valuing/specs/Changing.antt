-- What an effect's words do in a state, one after the other, over the formulas and the effects that wait.
-- Assumes nothing.
use Rattle.std.specs.Prelude.{◌≡◌, ℕ, ◌<◌, ◌≤◌, List, [], ◌∷◌, length, Some, None, Ok, Err, Option, Result}
use Rattle.words.specs.declared.fault.Fault.{Fault}
use Rattle.words.specs.declared.kind.Kind.{Kind}
use Rattle.words.specs.declared.kind.Kind.TheVariants as kind
use Rattle.words.specs.Words.{kind_of, load_of}
use Rattle.planning.specs.Tree.{Formula, Effect, NIL, SET, CLEAR, BOTH, WHEN}
use Rattle.planning.specs.Steps.{set_mask, clear_mask}
use Rattle.planning.specs.declared.change.Change.{Change}
use Rattle.valuing.specs.declared.change.Doing.{Doing}
use Rattle.valuing.specs.declared.change.Doing.TheVariants.{Nothing, Sets, Clears, Joins, Guards, Condition}
use Rattle.waiting.specs.Waits.{older}
use Rattle.reading.specs.Trees.{two_to_one}
use Rattle.valuing.specs.Makings.{making_of, Ready, after}
use Rattle.valuing.specs.Meaning.{state_meaning}
use Rattle.valuing.specs.Working.{Stands}

-- what the effect sets in s, and what it clears, of the variables below n
abbrev pub change_in : (n s : ℕ) → Effect → Change
change_in n s e = record { set = set_mask n e s; clear = clear_mask n e s }

-- what a word of that kind and load does
abbrev pub doing_of : Option Kind → ℕ → Doing
doing_of None l = Condition (making_of None l)
doing_of (Some kind.True) l = Condition (making_of (Some kind.True) l)
doing_of (Some kind.False) l = Condition (making_of (Some kind.False) l)
doing_of (Some kind.Var) l = Condition (making_of (Some kind.Var) l)
doing_of (Some kind.Not) l = Condition (making_of (Some kind.Not) l)
doing_of (Some kind.And) l = Condition (making_of (Some kind.And) l)
doing_of (Some kind.Or) l = Condition (making_of (Some kind.Or) l)
doing_of (Some kind.Nil) l = Nothing
doing_of (Some kind.Set) l = Sets l
doing_of (Some kind.Clear) l = Clears l
doing_of (Some kind.Both) l = Joins
doing_of (Some kind.When) l = Guards
doing_of (Some kind.Head) l = Condition (making_of (Some kind.Head) l)
doing_of (Some kind.On) l = Condition (making_of (Some kind.On) l)
doing_of (Some kind.Part) l = Condition (making_of (Some kind.Part) l)

-- the operands of a word wait, and a 65th value does not
abbrev pub EffectReady : (n : ℕ) → Doing → List Formula → List Effect → Type 0
EffectReady n Nothing st es = length es < 64
EffectReady n (Sets v) st es = (length es < 64) × (v < n)
EffectReady n (Clears v) st es = (length es < 64) × (v < n)
EffectReady n Joins st es = 2 ≤ length es
EffectReady n Guards st es = (1 ≤ length st) × (1 ≤ length es)
EffectReady n (Condition making) st es = Ready n making st

-- the formulas that wait then
abbrev pub formulas_after : Doing → List Formula → List Formula
formulas_after Nothing st = st
formulas_after (Sets v) st = st
formulas_after (Clears v) st = st
formulas_after Joins st = st
-- WHEN takes its condition
formulas_after Guards st = older st
formulas_after (Condition making) st = after making st

abbrev pub when_of : List Formula → List Effect → List Effect
when_of [] es = []
when_of (c ∷ st) [] = []
when_of (c ∷ st) (e ∷ es) = WHEN c e ∷ es

-- the effects that wait then
abbrev pub effects_after : Doing → List Formula → List Effect → List Effect
effects_after Nothing st es = NIL ∷ es
effects_after (Sets v) st es = SET v ∷ es
effects_after (Clears v) st es = CLEAR v ∷ es
effects_after Joins st es = two_to_one BOTH es
effects_after Guards st es = when_of st es
effects_after (Condition making) st es = es

abbrev pub word_doing : ℕ → Doing
word_doing w = doing_of (kind_of w) (load_of w)

-- the words, over what waits, can all be read and leave the effect e alone
abbrev pub EffectRuns : (n : ℕ) → List ℕ → List Formula → List Effect → Effect → Type 0
EffectRuns n [] st es e = es ≡ e ∷ []
EffectRuns n (w ∷ ws) st es e = EffectReady n (word_doing w) st es × EffectRuns n ws (formulas_after (word_doing w) st) (effects_after (word_doing w) st es) e

-- the changes that wait are those of effects in s, one for one
abbrev pub ChangesStand : (n s : ℕ) → List Change → List Effect → Type 0
ChangesStand n s [] [] = Unit {0}
ChangesStand n s [] (e ∷ es) = ⊥
ChangesStand n s (c ∷ cs) [] = ⊥
ChangesStand n s (c ∷ cs) (e ∷ es) = (c ≡ change_in n s e) × ChangesStand n s cs es

-- what waits stands for formulas and effects
pub record Waits (n s : ℕ) (vs : List ℕ) (cs : List Change) (st : List Formula) (es : List Effect) : Type 0 where
  pub values : Stands (state_meaning n s) vs st
  pub changes : ChangesStand n s cs es

-- one word: what waits then stands for what waits then; a word that can be read is not refused
abbrev pub WalkAnswer : (n s : ℕ) → Doing → (vs vs' : List ℕ) (cs cs' : List Change) → Result (Unit {0}) Fault → Type 0
WalkAnswer n s doing vs vs' cs cs' (Ok _) = (st : List Formula) (es : List Effect) → Waits n s vs cs st es → EffectReady n doing st es → Waits n s vs' cs' (formulas_after doing st) (effects_after doing st es)
WalkAnswer n s doing vs vs' cs cs' (Err e) = (st : List Formula) (es : List Effect) → Waits n s vs cs st es → EffectReady n doing st es → ⊥
