-- The variables so far are listed, and a space is next if there was one.
use Rattle.std.proofs.Common.{◌≡◌}
use Rattle.std.specs.Fmt.{HasWritten, IsPlainFormatter}
use denote.Text.{Utf8}
use denote.Shadow.{shadow}
use Rattle.telling.specs.Texts.{between, listed}
use Rattle.telling.proofs.text.write_list.Given as goal

abbrev pub invariant-loop-variable : goal.invariant-loop-variable
invariant-loop-variable g l =
    shadow (Utf8 l.between)
    × ((l.between ≡ between (listed (g.L.Signs.text l.signs) l.variable-counter))
    × (IsPlainFormatter l.initial.f → HasWritten g.W.Write.write_str_gives l.initial.f (listed (g.L.Signs.text l.signs) l.variable-counter) l.f))
