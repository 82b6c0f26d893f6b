use Rattle.std.proofs.Common.{rules, append_assoc}
use Rattle.lines.proofs.Digits.{sixteen_digits}
use Rattle.lines.proofs.accept_line.Goals as goal

pub returns : goal.returns
returns c = search (rules, append_assoc, sixteen_digits c.args.bits c.ranges.bits.fits)
