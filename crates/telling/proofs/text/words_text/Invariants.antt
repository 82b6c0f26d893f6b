-- The texts that wait, read over the words that are left, are those of all words.
use Rattle.std.proofs.Common.{◌≡◌, [], drop}
use Rattle.telling.specs.Formulas.{texts_after}
use Rattle.telling.proofs.text.words_text.Given as goal

abbrev pub invariant-loop-word : goal.invariant-loop-word
invariant-loop-word l = texts_after l.waiting (drop l.word-index l.words) ≡ texts_after [] l.words
