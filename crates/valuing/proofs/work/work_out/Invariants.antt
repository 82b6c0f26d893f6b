use Rattle.valuing.proofs.Turns.{Turn}
use Rattle.valuing.proofs.work.work_out.Given as goal

abbrev pub invariant-loop-word : goal.invariant-loop-word
invariant-loop-word g l = Turn (g.V.Valuer.meaning l.initial.valuer) (g.V.Valuer.meaning l.valuer) l.reading l.words l.waiting l.word-index
