-- Formulas and effects as text, operators between their operands.
-- Assumes nothing.
use Rattle.std.specs.Prelude.{ℕ, List, [], ◌∷◌, ◌++◌, Some, Option, codes, decimal}
use Rattle.words.specs.declared.kind.Kind.{Kind}
use Rattle.words.specs.declared.kind.Kind.TheVariants.{True, False, Var, Not, And, Or, Nil, Set, Clear, Both, When}
use Rattle.words.specs.Words.{kind_of, load_of}
use Rattle.waiting.specs.Waits.{newest, older}
use Rattle.planning.specs.Tree.{Formula, TRUE, FALSE, VAR, NOT, AND, OR, Effect, NIL, SET, CLEAR, BOTH, WHEN}

-- two texts in brackets, and what stands between them
abbrev pub bracketed : (first between second : List ℕ) → List ℕ
bracketed first between second = codes "(" ++ (first ++ (between ++ (second ++ codes ")")))

abbrev pub negated : List ℕ → List ℕ
negated operand = codes "not " ++ operand

abbrev pub guarded : (condition effect : List ℕ) → List ℕ
guarded condition effect = codes "when " ++ (condition ++ (codes ": " ++ effect))

abbrev pub formula_text : Formula → List ℕ
formula_text TRUE = codes "true"
formula_text FALSE = codes "false"
formula_text (VAR v) = codes "v" ++ decimal v
formula_text (NOT f) = negated (formula_text f)
formula_text (AND f g) = bracketed (formula_text f) (codes " and ") (formula_text g)
formula_text (OR f g) = bracketed (formula_text f) (codes " or ") (formula_text g)

abbrev pub effect_text : Effect → List ℕ
effect_text NIL = codes "nothing"
effect_text (SET v) = codes "set v" ++ decimal v
effect_text (CLEAR v) = codes "clear v" ++ decimal v
effect_text (BOTH d e) = bracketed (effect_text d) (codes "; ") (effect_text e)
effect_text (WHEN c e) = guarded (formula_text c) (effect_text e)

-- the newest text that waits; where none waits, as in no part of a task, a question mark
abbrev pub newest_text : List (List ℕ) → List ℕ
newest_text ts = newest (codes "?") ts

-- the text of a word over the texts that wait, the newest first, and the texts that it leaves; no word of a part is of another kind.
-- That words so have the text of their formula or effect is proved, and this need not be believed.
abbrev pub word_text : Option Kind → (load : ℕ) → List (List ℕ) → List ℕ
word_text (Some True) l ts = codes "true"
word_text (Some False) l ts = codes "false"
word_text (Some Var) l ts = codes "v" ++ decimal l
word_text (Some Not) l ts = negated (newest_text ts)
word_text (Some And) l ts = bracketed (newest_text (older ts)) (codes " and ") (newest_text ts)
word_text (Some Or) l ts = bracketed (newest_text (older ts)) (codes " or ") (newest_text ts)
word_text (Some Nil) l ts = codes "nothing"
word_text (Some Set) l ts = codes "set v" ++ decimal l
word_text (Some Clear) l ts = codes "clear v" ++ decimal l
word_text (Some Both) l ts = bracketed (newest_text (older ts)) (codes "; ") (newest_text ts)
word_text (Some When) l ts = guarded (newest_text (older ts)) (newest_text ts)
word_text kind l ts = codes "?"

abbrev pub texts_left : Option Kind → List (List ℕ) → List (List ℕ)
texts_left (Some Not) ts = older ts
texts_left (Some And) ts = older (older ts)
texts_left (Some Or) ts = older (older ts)
texts_left (Some Both) ts = older (older ts)
texts_left (Some When) ts = older (older ts)
texts_left kind ts = ts

abbrev pub texts_after : List (List ℕ) → (words : List ℕ) → List (List ℕ)
texts_after ts [] = ts
texts_after ts (w ∷ ws) = texts_after (word_text (kind_of w) (load_of w) ts ∷ texts_left (kind_of w) ts) ws
