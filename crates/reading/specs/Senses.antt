-- The sense of each kind of word, from the table: what it takes, what it gives, what its load is.
-- Assumes nothing.
use Rattle.std.specs.Prelude.{Bool, true, false, cond, List, [], ◌∷◌, Some, None, Option, ◌==◌}
use Rattle.words.specs.declared.kind.Kind.{Kind}
use Rattle.words.specs.declared.kind.Kind.TheVariants.{True, False, Var, Not, And, Or, Nil, Set, Clear, Both, When, Head, On, Part}
use Rattle.words.specs.Words.{kind_number}
use Rattle.reading.specs.declared.section.Sort.{Sort}
use Rattle.reading.specs.declared.section.Sort.TheVariants as sort
use Rattle.reading.specs.declared.section.Load.{Load}
use Rattle.reading.specs.declared.section.Load.TheVariants as load
use Rattle.reading.specs.declared.section.Section.{Section}
use Rattle.reading.specs.declared.section.Section.TheVariants as section

-- the sorts of the waiting values that a word takes, the newest first: WHEN takes a formula, then an effect
abbrev pub takes : Kind → List Sort
takes True = []
takes False = []
takes Var = []
takes Not = sort.Formula ∷ []
takes And = sort.Formula ∷ sort.Formula ∷ []
takes Or = sort.Formula ∷ sort.Formula ∷ []
takes Nil = []
takes Set = []
takes Clear = []
takes Both = sort.Effect ∷ sort.Effect ∷ []
takes When = sort.Effect ∷ sort.Formula ∷ []
takes Head = []
takes On = []
takes Part = []

-- the sort of the value that a word gives; HEAD, ON and PART give none
abbrev pub gives : Kind → Option Sort
gives True = Some sort.Formula
gives False = Some sort.Formula
gives Var = Some sort.Formula
gives Not = Some sort.Formula
gives And = Some sort.Formula
gives Or = Some sort.Formula
gives Nil = Some sort.Effect
gives Set = Some sort.Effect
gives Clear = Some sort.Effect
gives Both = Some sort.Effect
gives When = Some sort.Effect
gives Head = None
gives On = None
gives Part = None

-- what the load of a word is
abbrev pub load_sense : Kind → Load
load_sense True = load.Zero
load_sense False = load.Zero
load_sense Var = load.Variable
load_sense Not = load.Zero
load_sense And = load.Zero
load_sense Or = load.Zero
load_sense Nil = load.Zero
load_sense Set = load.Variable
load_sense Clear = load.Variable
load_sense Both = load.Zero
load_sense When = load.Zero
load_sense Head = load.Number
load_sense On = load.Variable
load_sense Part = load.Number

abbrev pub is_zero_load : Load → Bool
is_zero_load load.Zero = true
is_zero_load load.Variable = false
is_zero_load load.Number = false

abbrev pub is_variable : Load → Bool
is_variable load.Zero = false
is_variable load.Variable = true
is_variable load.Number = false

abbrev pub is_kind : Kind → Kind → Bool
is_kind j k = kind_number j == kind_number k

abbrev pub same_sort : Sort → Sort → Bool
same_sort sort.Formula sort.Formula = true
same_sort sort.Formula sort.Effect = false
same_sort sort.Effect sort.Formula = false
same_sort sort.Effect sort.Effect = true

-- the sort of the one value that a part gives
abbrev pub part_sort : Section → Sort
part_sort section.Goal = sort.Formula
part_sort section.Precondition = sort.Formula
part_sort section.Effect = sort.Effect

-- what waits once the operands are taken off, or none where one is missing or of the wrong sort
abbrev pub operands_off : List Sort → List Sort → Option (List Sort)
operands_off [] waiting = Some waiting
operands_off (a ∷ more) [] = None
operands_off (a ∷ more) (b ∷ waiting) = cond (same_sort a b) (operands_off more waiting) None

abbrev pub given : Option Sort → Option (List Sort) → Option (List Sort)
given None left = None
given (Some g) None = None
given (Some g) (Some left) = Some (g ∷ left)

-- what waits after a word, the newest first
abbrev pub waiting_after : Kind → List Sort → Option (List Sort)
waiting_after k waiting = given (gives k) (operands_off (takes k) waiting)
