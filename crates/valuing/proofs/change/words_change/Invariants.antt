use Rattle.valuing.proofs.Walks.{Round}
use Rattle.valuing.proofs.change.words_change.Given as goal

abbrev pub invariant-loop-word : goal.invariant-loop-word
invariant-loop-word l = Round l.state.width l.state.bits l.words l.values l.changes l.word-index
