use Rattle.std.proofs.Common.{◌≡◌, [], IfOk, subst, ap, ◌∙◌}
use Rattle.std.specs.String.{string_bytes}
use Rattle.telling.specs.Formulas.{newest_text, texts_after}
use Rattle.telling.proofs.Wording.{formula_part_told}
use Rattle.telling.proofs.text.formula_text.Goals as goal

pub returns : goal.returns
returns c =
    let p = c.args.part in
    subst (λ t. IfOk c.words_text.result (λ text. string_bytes text ≡ t)) (ap (λ ws. newest_text (texts_after [] ws)) c.words.ensures ∙ formula_part_told p.width p.words.now p.some p.narrow p.filled p.short p.formed) c.words_text.ensures
