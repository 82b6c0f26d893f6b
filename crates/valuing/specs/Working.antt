-- What is worked out: the values that wait stand for formulas, and the value of a part for its formula.
-- Assumes nothing.
use Rattle.std.specs.Prelude.{◌≡◌, ℕ, ◌+◌, ◌<◌, ◌≤◌, true, cond, List, [], ◌∷◌, Some, None, Ok, Err, Option, Result, ◌==◌, nat_lt}
use Rattle.words.specs.declared.fault.Fault.{Fault}
use Rattle.words.specs.declared.fault.Refusal.TheVariants.{WrongWidth, BankFull}
use Rattle.words.specs.Refusals.{bank_fault}
use Rattle.planning.specs.Tree.{Formula}
use Rattle.planning.specs.Truth.{truth}
use Rattle.valuing.specs.declared.making.Making.{Making}
use Rattle.valuing.specs.Makings.{Ready, after}
use Rattle.valuing.specs.Meaning.{Meaning, Kept}

-- the value v stands for the formula f: it is known, and true in exactly the worlds whose state makes f true
pub record Good (m : Meaning) (v : ℕ) (f : Formula) : Type 0 where
  pub known : m.known v ≡ true
  pub means : (w : ℕ) → m.world w ≡ true → m.truth v w ≡ truth (m.state w) f

-- the values that wait stand for formulas, one for one
abbrev pub Stands : Meaning → List ℕ → List Formula → Type 0
Stands m [] [] = Unit {0}
Stands m [] (f ∷ st) = ⊥
Stands m (v ∷ vs) [] = ⊥
Stands m (v ∷ vs) (f ∷ st) = Good m v f × Stands m vs st

-- one word: older values keep their worlds, at most 1 is taken from the room, and what waits then stands for the formulas
-- that wait then
pub record Moved (m m' : Meaning) (making : Making) (vs vs' : List ℕ) : Type 0 where
  pub kept : Kept m m'
  pub room : m.room ≤ m'.room + 1
  pub no_more : m'.room ≤ m.room
  pub stands : (st : List Formula) → Stands m vs st → Ready m.width making st → Stands m' vs' (after making st)

-- a word that can be worked out is not refused while there is room
abbrev pub MakingAnswer : Meaning → Meaning → Making → List ℕ → List ℕ → Result (Unit {0}) Fault → Type 0
MakingAnswer m m' making vs vs' (Ok _) = Moved m m' making vs vs'
MakingAnswer m m' making vs vs' (Err e) = (st : List Formula) → Stands m vs st → Ready m.width making st → 0 < m.room → ⊥

-- x is worked out for f from n words: it stands for f, older values keep their worlds, and at most n is taken from the room
pub record Worked (m m' : Meaning) (n : ℕ) (f : Formula) (x : ℕ) : Type 0 where
  pub kept : Kept m m'
  pub good : Good m' x f
  pub room : m.room ≤ m'.room + n
  pub no_more : m'.room ≤ m.room

-- words that leave one formula are worked out where the room is not under their number
abbrev pub WordsAnswer : Meaning → Meaning → (n : ℕ) → Formula → Result ℕ Fault → Type 0
WordsAnswer m m' n f (Ok x) = Worked m m' n f x
WordsAnswer m m' n f (Err e) = ⊥

-- why a part of n words over so many variables is refused: another width, then too little room
abbrev pub part_refusal : Meaning → (width n : ℕ) → Option Fault
part_refusal m width n =
    cond (width == m.width)
    (cond (nat_lt m.room n) (Some (bank_fault BankFull)) None)
    (Some (bank_fault WrongWidth))

-- refused exactly with that fault, and the whole meaning left; else worked out
abbrev pub PartAnswer : Meaning → Meaning → (width n : ℕ) → Formula → Result ℕ Fault → Type 0
PartAnswer m m' width n f (Ok x) = (part_refusal m width n ≡ None) × Worked m m' n f x
PartAnswer m m' width n f (Err e) = (part_refusal m width n ≡ Some e) × (m' ≡ m)
