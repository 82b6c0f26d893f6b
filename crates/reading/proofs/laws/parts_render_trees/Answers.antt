use Rattle.reading.proofs.Parts.{parts_render_trees}
use Rattle.reading.proofs.laws.parts_render_trees.Goals as goal

pub returns : goal.returns
returns c = parts_render_trees
