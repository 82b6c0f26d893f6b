use Rattle.planning.proofs.Wording.{condition_words, condition_count, condition_depth}
use Rattle.planning.proofs.Leading.{condition_below}
use Rattle.planning.proofs.laws.condition_words.Goals as goal

pub returns : goal.returns
returns c = record { changed = condition_words; count = condition_count; depth = condition_depth; below = condition_below }
