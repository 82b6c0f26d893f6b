use Rattle.valuing.proofs.Walks.{effect_part_runs}
use Rattle.valuing.proofs.change.effect_words.Goals as goal

pub returns : goal.returns
returns c = let p = c.args.part in record { same = c.words.ensures; runs = effect_part_runs p.width p.words.now p.some p.narrow p.filled p.short p.formed }
