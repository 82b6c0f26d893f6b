use Rattle.words.proofs.Joining.{word_laws}
use Rattle.words.proofs.kind.words_join_and_split.Goals as goal

pub returns : goal.returns
returns c = word_laws
