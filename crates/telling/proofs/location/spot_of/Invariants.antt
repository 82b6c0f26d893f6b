-- The spot behind the words so far, over the words that are left, is that behind all of them.
use Rattle.std.proofs.Common.{◌≡◌, drop}
use Rattle.telling.specs.Locations.{spot_after}
use Rattle.telling.proofs.location.spot_of.Given as goal

abbrev pub invariant-loop-word : goal.invariant-loop-word
invariant-loop-word l = spot_after l.spot (drop l.word-index l.word-items) ≡ spot_after l.initial.spot l.word-items
