-- Kinds and loads, joined to words and split again.
-- Assumes nothing.
use Rattle.std.proofs.Common.{◌≡◌, ℕ, ◌+◌, ◌*◌, ◌/◌, ◌%◌, ◌^◌, ◌<◌, Some, ap, ◌∙◌, arith}
use Rattle.std.proofs.lemmas.Bool.Decides.{nat_tests}
use Rattle.words.specs.declared.kind.Kind.{Kind}
use Rattle.words.specs.Words.{kind_number, word, kind_named, kind_of, load_of, WordLaws}

pub kind_number_small : (k : Kind) → kind_number k < 15
kind_number_small k = grind (arith)

pub kind_named_number : (k : Kind) → kind_named (kind_number k) ≡ Some k
kind_named_number k = grind (arith, nat_tests)

pub number_of_named : (n : ℕ) (k : Kind) → kind_named n ≡ Some k → n ≡ kind_number k
number_of_named n k e = grind (arith, nat_tests)

top_of_sum : (a b : ℕ) → b < 2 ^ 28 → (a * 2 ^ 28 + b) / 2 ^ 28 ≡ a
top_of_sum a b h = omega arith

low_of_sum : (a b : ℕ) → b < 2 ^ 28 → (a * 2 ^ 28 + b) % 2 ^ 28 ≡ b
low_of_sum a b h = omega arith

pub word_fits : (k : Kind) (load : ℕ) → load < 2 ^ 28 → word k load < 2 ^ 32
word_fits k load h = omega (arith, kind_number_small k)

pub kind_of_word : (k : Kind) (load : ℕ) → load < 2 ^ 28 → kind_of (word k load) ≡ Some k
kind_of_word k load h = ap kind_named (top_of_sum (kind_number k) load h) ∙ kind_named_number k

pub load_of_word : (k : Kind) (load : ℕ) → load < 2 ^ 28 → load_of (word k load) ≡ load
load_of_word k load h = low_of_sum (kind_number k) load h

pub load_of_small : (w : ℕ) → load_of w < 2 ^ 28
load_of_small w = omega arith

pub word_of_kind : (w : ℕ) (k : Kind) → kind_of w ≡ Some k → w ≡ word k (load_of w)
word_of_kind w k e =
    let n : w / 2 ^ 28 ≡ kind_number k = number_of_named (w / 2 ^ 28) k e in
    omega arith

pub word_laws : WordLaws
word_laws = record { fits = word_fits; kind_back = kind_of_word; load_back = load_of_word; word_back = word_of_kind; load_small = load_of_small }
