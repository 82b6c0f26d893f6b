use Rattle.std.proofs.Common.{rules, ◌≡◌, ℕ, ◌+◌, ◌/◌, ◌^◌, [], ◌∷◌, ◌++◌, cond, ◌==◌, refl, sym, ap, ◌∙◌, add-one, arith, bit_and, bit_or}
use Rattle.std.proofs.lemmas.Bool.Decides.{nat_tests}
use Rattle.std.proofs.lemmas.Grind.{common_steps}
use Rattle.std.proofs.lemmas.Nat.Bits.{shr_and_one}
use Rattle.run_cases.specs.Cells.{on_words}
use Rattle.run_cases.proofs.words_of.push_on.Goals as goal

on_words-zero : (start : ℕ) → on_words start 0 ≡ []
unfolding on_words
on_words-zero start = refl

on_words-more : (start v : ℕ) → on_words start (v + 1) ≡ on_words start v ++ cond (bit_and (start / 2 ^ v) 1 == 1) (bit_or 0xD0000000 v ∷ []) []
unfolding on_words
on_words-more start v = ap (on_words start) (add-one v) ∙ ap (λ b. on_words start v ++ cond (b == 1) (bit_or 0xD0000000 v ∷ []) []) (sym (shr_and_one start v))

pub loop-variable-init : goal.loop-variable-init
loop-variable-init c = rw (on_words-zero c.args.start) (search rules)

pub loop-variable-preserved : goal.loop-variable-preserved
loop-variable-preserved c =
    let more = on_words-more c.args.start c.loop-variable.variable in
    grind (arith, nat_tests, common_steps)
