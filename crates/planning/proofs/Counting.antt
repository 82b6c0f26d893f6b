-- Counts of variables, and the smallest one.
use Rattle.std.proofs.Common.{◌≡◌, ℕ, zero, suc, ◌+◌, ◌-◌, ◌*◌, ◌/◌, ◌%◌, ◌^◌, ◌<◌, ◌≤◌, true, false, cond, eqb, ◌⊎◌, sym, refl, ap, ◌∙◌, ap₂, inl, inr, zero-add, arith, pow_mono}
use lib.Bits.{bit_xor}
use lib.Count.{ones, ones_in, ones_cat, under, count_trailing_zeros}
use Rattle.std.proofs.lemmas.Nat.{xor_lt}
use Rattle.std.proofs.lemmas.Bool.{cases_lt}
use Rattle.planning.specs.Tree.{bit}
use Rattle.planning.specs.Changes.{change_count, Smallest}
use Rattle.planning.proofs.Bits.{bit_zero, bit_suc, bit_at, bit_top, bit_under, bit_of_xor}

-- how many variables below n are true
abbrev true_count : (n x : ℕ) → ℕ
true_count zero x = 0
true_count (suc n) x = cond (bit x n) 1 0 + true_count n x

true_count_same : (n x y : ℕ) → ((v : ℕ) → v < n → bit x v ≡ bit y v) → true_count n x ≡ true_count n y
true_count_same zero x y h = refl
true_count_same (suc n) x y h = ap₂ (λ b c. cond b 1 0 + c) (h n (omega arith)) (true_count_same n x y (λ v l. h v (omega arith)))

ones_zero : ones 0 ≡ 0
unfolding ones ones_in
ones_zero = refl

ones_one : ones 1 ≡ 1
unfolding ones ones_in
ones_one = refl

ones_true_count : (n x : ℕ) → x < 2 ^ n → ones x ≡ true_count n x
ones_true_count zero x h = let e : x ≡ 0 = omega arith in ap ones e ∙ ones_zero
ones_true_count (suc n) x h = go (ones_true_count n) (cases_lt x (2 ^ n))
  where
    go : ((y : ℕ) → y < 2 ^ n → ones y ≡ true_count n y) → (x < 2 ^ n) ⊎ (2 ^ n ≤ x) → ones x ≡ cond (bit x n) 1 0 + true_count n x
    go before (inl l) = before x l ∙ sym (zero-add (true_count n x)) ∙ ap (λ b. cond b 1 0 + true_count n x) (sym (bit_at x n l))
    go before (inr l) =
        let r : ℕ = x - 2 ^ n in
        let small : r < 2 ^ n = omega arith in
        let whole : x ≡ r + 2 ^ n = omega arith in
        let parts : x ≡ 1 * 2 ^ n + r = omega arith in
        let set : bit x n ≡ true = ap (λ y. bit y n) whole ∙ bit_top r n small in
        let rest : true_count n x ≡ true_count n r = true_count_same n x r (λ v k. ap (λ y. bit y v) whole ∙ bit_under r n v k) in
        ap ones parts ∙ ones_cat n 1 r small ∙ ap₂ ◌+◌ ones_one (before r small ∙ sym rest) ∙ ap (λ b. cond b 1 0 + true_count n x) (sym set)

pub change_count_ones : (n s t : ℕ) → s < 2 ^ n → t < 2 ^ n → change_count n s t ≡ ones (bit_xor s t)
unfolding change_count
change_count_ones n s t h k = by_xor n ∙ sym (ones_true_count n (bit_xor s t) (xor_lt n s t h k))
  where
    by_xor : (m : ℕ) → change_count m s t ≡ true_count m (bit_xor s t)
    by_xor zero = refl
    by_xor (suc m) = ap₂ (λ b c. cond b 1 0 + c) (sym (bit_of_xor s t m)) (by_xor m)

pub change_count_wider : (n m s t : ℕ) → n ≤ m → s < 2 ^ n → t < 2 ^ n → change_count m s t ≡ change_count n s t
change_count_wider n m s t l h k =
    let p : 2 ^ n ≤ 2 ^ m = pow_mono l in
    change_count_ones m s t (omega arith) (omega arith) ∙ sym (change_count_ones n s t h k)

-- the trailing zeros of a number that is not 0 are the variables before its smallest one
smallest_half : (k x t : ℕ) → x % 2 ≡ 0 → (t < k) × Smallest (x / 2) t → (suc t < suc k) × Smallest x (suc t)
smallest_half k x t even p = (omega arith, record { holds = bit_suc x t ∙ p.1.holds; first = before })
  where
    before : (w : ℕ) → w < suc t → bit x w ≡ false
    before zero h = bit_zero x ∙ ap (λ d. eqb d 1) even
    before (suc w) h = bit_suc x w ∙ p.1.first w (omega arith)

smallest_odd : (x : ℕ) → x % 2 ≡ 1 → Smallest x 0
smallest_odd x odd = record { holds = bit_zero x ∙ ap (λ d. eqb d 1) odd; first = λ w h. absurd (omega arith) }

pub trailing_smallest : (k x : ℕ) → 0 < x → x < 2 ^ k → (count_trailing_zeros k x < k) × Smallest x (count_trailing_zeros k x)
unfolding count_trailing_zeros
trailing_smallest zero x h l = absurd (omega arith)
trailing_smallest (suc k) x h l = go (x % 2) refl (λ p. trailing_smallest k (x / 2) p (omega arith))
  where
    go : (d : ℕ) → x % 2 ≡ d → (0 < x / 2 → (count_trailing_zeros k (x / 2) < k) × Smallest (x / 2) (count_trailing_zeros k (x / 2)))
        → (under d (count_trailing_zeros k (x / 2)) < suc k) × Smallest x (under d (count_trailing_zeros k (x / 2)))
    go zero e rest = smallest_half k x (count_trailing_zeros k (x / 2)) e (rest (omega arith))
    go (suc d) e rest = (omega arith, smallest_odd x (omega arith))
