-- A word of a part: the refusals before its operands are looked at.
-- Assumes nothing.
use Rattle.std.proofs.Common.{◌≡◌, ℕ, Bool, true, false, cond, not, ◌&&◌, ◌||◌, eqb, ltb, leb, List, Some, None, Option, sym, refl, ap, ◌∙◌, arith}
use Rattle.std.proofs.lemmas.Bool.{le-ltb, and_right, true≢false}
use Rattle.words.specs.declared.fault.Refusal.{Refusal}
use Rattle.words.specs.declared.fault.Refusal.TheVariants.{WrongWord, VariableOutside}
use Rattle.words.specs.declared.kind.Kind.{Kind}
use Rattle.words.specs.declared.kind.Kind.TheVariants.{On}
use Rattle.reading.specs.declared.section.Section.{Section}
use Rattle.reading.specs.declared.section.Sort.{Sort}
use Rattle.reading.specs.Senses.{gives, is_kind, load_sense, is_zero_load, is_variable, part_sort}
use Rattle.reading.specs.Turns.{in_part}
use Rattle.reading.specs.Rules.{allowed_in, wrong_word}
use Rattle.reading.specs.Faults.{kind_refusal}
use Rattle.tasks.specs.Progress.{in_part_refusal}

none_right : (a b c : Bool) → c ≡ false → (a || (b || c)) ≡ (a || b)
none_right true b c e = refl
none_right false true c e = refl
none_right false false c e = e

early : (w a b : Bool) (x y r : Refusal) (later : Option Refusal) → w ≡ a → cond a (Some x) (cond b (Some y) None) ≡ Some r → cond w (Some x) (cond b (Some y) later) ≡ Some r
early true a b x y r later q e = ap (λ c. cond c (Some x) (cond b (Some y) None)) q ∙ e
early false true b x y r later q e = absurd (true≢false (sym q))
early false false true x y r later q e = e
early false false false x y r later q e = let z : ◌≡◌ {A = ℕ} 0 1 = cc in absurd (omega arith)

-- in a part no ON is in its turn, so that none fails to rise
pub wrong_in_part : (n s k : ℕ) (here : Section) (left : ℕ) (waiting : List Sort) (j : Kind) (l : ℕ) → wrong_word (in_part n s k here left waiting) j l ≡ (not (allowed_in (part_sort here) (gives j)) || (is_zero_load (load_sense j) && not (eqb l 0)))
wrong_in_part n s k here left waiting j l = none_right (not (allowed_in (part_sort here) (gives j))) (is_zero_load (load_sense j) && not (eqb l 0)) (is_kind On j && ltb l 0) (and_right (is_kind On j) (ltb l 0) (le-ltb l 0 (omega arith)))

pub early_refused : (n s k : ℕ) (here : Section) (left : ℕ) (waiting : List Sort) (rest : ℕ) (j : Kind) (l : ℕ) (r : Refusal) → in_part_refusal n here j l ≡ Some r → kind_refusal (in_part n s k here left waiting) rest j l ≡ Some r
early_refused n s k here left waiting rest j l r e =
    early (wrong_word (in_part n s k here left waiting) j l) (not (allowed_in (part_sort here) (gives j)) || (is_zero_load (load_sense j) && not (eqb l 0))) (is_variable (load_sense j) && leb n l) WrongWord VariableOutside r _ (wrong_in_part n s k here left waiting j l) e
