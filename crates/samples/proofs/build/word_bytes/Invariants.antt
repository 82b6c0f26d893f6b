use Rattle.std.proofs.Common.{◌≡◌, ◌++◌, drop, vec_items}
use Rattle.words.specs.Files.{bytes_of}
use Rattle.samples.proofs.build.word_bytes.Given as goal

-- the bytes so far, with those of the words that are left, are those of all words
abbrev pub invariant-loop-word : goal.invariant-loop-word
invariant-loop-word l = vec_items l.bytes ++ bytes_of (drop l.word-index l.words) ≡ bytes_of l.words
