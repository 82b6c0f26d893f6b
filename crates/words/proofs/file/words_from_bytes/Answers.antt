use Rattle.std.proofs.Common.{rules}
use Rattle.words.proofs.Encoding.{words_of_fours}
use Rattle.words.proofs.file.words_from_bytes.Goals as goal

pub returns : goal.returns
returns c = search (rules, words_of_fours)
