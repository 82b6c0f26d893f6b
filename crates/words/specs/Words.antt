-- Words: the table of kinds, and how a kind and a load make a word.
-- Assumes nothing.
use Rattle.std.specs.Prelude.{◌≡◌, ℕ, ◌+◌, ◌*◌, ◌/◌, ◌%◌, ◌^◌, ◌<◌, cond, Some, None, Ok, Err, Option, Result, ◌==◌, List, ◌++◌, codes, decimal}
use Rattle.words.specs.declared.kind.Kind.{Kind}
use Rattle.words.specs.declared.kind.UnusedKind.{UnusedKind}
use Rattle.words.specs.declared.kind.Kind.TheVariants.{True, False, Var, Not, And, Or, Nil, Set, Clear, Both, When, Head, On, Part}

-- the number of each kind, in the table's order
abbrev pub kind_number : Kind → ℕ
kind_number True = 1
kind_number False = 2
kind_number Var = 3
kind_number Not = 4
kind_number And = 5
kind_number Or = 6
kind_number Nil = 7
kind_number Set = 8
kind_number Clear = 9
kind_number Both = 10
kind_number When = 11
kind_number Head = 12
kind_number On = 13
kind_number Part = 14

-- a word: its kind in the top 4 bits, its load in the low 28
abbrev pub word : Kind → ℕ → ℕ
word k load = kind_number k * 2 ^ 28 + load

-- the kind with a number; 0 and 15 are no kind's
abbrev pub kind_named : ℕ → Option Kind
kind_named n =
    cond (n == 1) (Some True) (cond (n == 2) (Some False) (cond (n == 3) (Some Var) (cond (n == 4) (Some Not)
    (cond (n == 5) (Some And) (cond (n == 6) (Some Or) (cond (n == 7) (Some Nil) (cond (n == 8) (Some Set)
    (cond (n == 9) (Some Clear) (cond (n == 10) (Some Both) (cond (n == 11) (Some When) (cond (n == 12) (Some Head)
    (cond (n == 13) (Some On) (cond (n == 14) (Some Part) None)))))))))))))

-- the result is the kind with this number, or says that no kind has it
abbrev pub KindNamed : ℕ → Result Kind UnusedKind → Type 0
KindNamed n (Ok k) = kind_named n ≡ Some k
KindNamed n (Err e) = (kind_named n ≡ None) × (e.0 ≡ n)

-- the text of a number that no kind has
abbrev pub unused_text : UnusedKind → List ℕ
unused_text e = codes "no kind of word has the number " ++ decimal e.0

abbrev pub kind_of : ℕ → Option Kind
kind_of w = kind_named (w / 2 ^ 28)

abbrev pub load_of : ℕ → ℕ
load_of w = w % 2 ^ 28

-- a kind and a load make a word of 32 bits that has them, and a word with a kind is made of its kind and its load
pub record WordLaws : Type 0 where
  pub fits : (k : Kind) (load : ℕ) → load < 2 ^ 28 → word k load < 2 ^ 32
  pub kind_back : (k : Kind) (load : ℕ) → load < 2 ^ 28 → kind_of (word k load) ≡ Some k
  pub load_back : (k : Kind) (load : ℕ) → load < 2 ^ 28 → load_of (word k load) ≡ load
  pub word_back : (w : ℕ) (k : Kind) → kind_of w ≡ Some k → w ≡ word k (load_of w)
  pub load_small : (w : ℕ) → load_of w < 2 ^ 28
