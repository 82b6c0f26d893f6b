-- How an account writes a state, and what differs between two of them.
-- Assumes nothing.
use Rattle.std.specs.Prelude.{ℕ, zero, suc, cond, List, [], ◌∷◌, ◌++◌, codes, decimal}
use Rattle.planning.specs.Tree.{bit}

-- what stands before one more text in a list: a space, if the list has begun
abbrev pub between : List ℕ → List ℕ
between [] = []
between (c ∷ cs) = codes " "

abbrev pub one_more : (listed text : List ℕ) → List ℕ
one_more listed [] = listed
one_more listed (c ∷ cs) = listed ++ (between listed ++ (c ∷ cs))

-- the texts of the variables below n, with a space between two of them; a variable without a text is left out
unfoldable pub listed : (text : ℕ → List ℕ) → (n : ℕ) → List ℕ
listed text zero = []
listed text (suc v) = one_more (listed text v) (text v)

-- a list, or a word where it is empty
abbrev pub or_word : (word texts : List ℕ) → List ℕ
or_word word [] = word
or_word word (c ∷ cs) = c ∷ cs

-- a variable behind a mark
abbrev pub marked : (mark : List ℕ) → (v : ℕ) → List ℕ
marked mark v = mark ++ (codes "v" ++ decimal v)

abbrev pub if_true : (s v : ℕ) → List ℕ
if_true s v = cond (bit s v) (codes "v" ++ decimal v) []

-- the variables below n that are true in s
abbrev pub true_text : (n s : ℕ) → List ℕ
true_text n s = or_word (codes "none") (listed (if_true s) n)

-- + before a variable that became true, - before one that became false
abbrev pub if_changed : (s t v : ℕ) → List ℕ
if_changed s t v = cond (bit s v) (cond (bit t v) [] (marked (codes "-") v)) (cond (bit t v) (marked (codes "+") v) [])

-- the variables below n whose values in s and t differ
abbrev pub changes_text : (n s t : ℕ) → List ℕ
changes_text n s t = or_word (codes "nothing") (listed (if_changed s t) n)
