-- Bits of numbers: which variables are true in a state.
use Rattle.std.proofs.Common.{◌≡◌, ℕ, zero, suc, ◌+◌, ◌-◌, ◌*◌, ◌/◌, ◌%◌, ◌^◌, ◌<◌, ◌≤◌, min, max, Bool, true, false, cond, not, ◌&&◌, ◌||◌, eqb, ◌⊎◌, sym, ap, ◌∙◌, subst, ap₂, inl, inr, add-zero, zero-add, div-one, arith}
use lib.Bits.{bit_and, bit_or, bit_xor, and_lt, or_lt, and_step, or_step, xor_step, differ as differ-digits}
use Rattle.std.proofs.lemmas.Nat.{pow_pos, shr-shr, and_shr, or_shr, xor_shr}
use Rattle.std.proofs.lemmas.Bool.{cases_eq, cases_lt}
use Rattle.std.proofs.lemmas.Bool.Decides.{nat_tests}
use Rattle.planning.specs.Tree.{bit}
use Rattle.planning.specs.Steps.{gather}
use Rattle.planning.specs.Changes.{differ}

-- variable 0 is the lowest digit, and the others are the variables of the half
pub bit_zero : (s : ℕ) → bit s 0 ≡ eqb (s % 2) 1
bit_zero s = ap (λ (x : ℕ). eqb (x % 2) 1) (div-one s)

pub bit_suc : (s v : ℕ) → bit s (suc v) ≡ bit (s / 2) v
bit_suc s v =
    let e : 1 + v ≡ suc v = omega arith in
    ap (λ (x : ℕ). eqb (x % 2) 1) (sym (shr-shr s 1 v ∙ ap (λ (x : ℕ). s / 2 ^ x) e))

-- a number below 2 ^ v has no bit at v or above
pub bit_above : (s v w : ℕ) → s < 2 ^ v → v ≤ w → bit s w ≡ false
bit_above s zero zero h k = bit_zero s ∙ grind (arith, nat_tests)
bit_above s zero (suc w) h k = bit_suc s w ∙ bit_above (s / 2) zero w (omega arith) (omega arith)
bit_above s (suc v) zero h k = absurd (omega arith)
bit_above s (suc v) (suc w) h k = bit_suc s w ∙ bit_above (s / 2) v w (omega arith) (omega arith)

pub bit_at : (s v : ℕ) → s < 2 ^ v → bit s v ≡ false
bit_at s v h = bit_above s v v h (omega arith)

-- one more bit at v, over a number below 2 ^ v
pub bit_top : (s v : ℕ) → s < 2 ^ v → bit (s + 2 ^ v) v ≡ true
bit_top s zero h = bit_zero (s + 1) ∙ grind (arith, nat_tests)
bit_top s (suc v) h =
    let e : (s + 2 ^ suc v) / 2 ≡ s / 2 + 2 ^ v = omega arith in
    bit_suc (s + 2 ^ suc v) v ∙ ap (λ x. bit x v) e ∙ bit_top (s / 2) v (omega arith)

pub bit_under : (s v w : ℕ) → w < v → bit (s + 2 ^ v) w ≡ bit s w
bit_under s zero w h = absurd (omega arith)
bit_under s (suc v) zero h =
    let e : (s + 2 ^ suc v) % 2 ≡ s % 2 = omega arith in
    bit_zero (s + 2 ^ suc v) ∙ ap (λ x. eqb x 1) e ∙ sym (bit_zero s)
bit_under s (suc v) (suc w) h =
    let e : (s + 2 ^ suc v) / 2 ≡ s / 2 + 2 ^ v = omega arith in
    bit_suc (s + 2 ^ suc v) w ∙ ap (λ x. bit x w) e ∙ bit_under (s / 2) v w (omega arith) ∙ sym (bit_suc s w)

pub bit_over : (s v w : ℕ) → s < 2 ^ v → v < w → bit (s + 2 ^ v) w ≡ false
bit_over s v w h k = bit_above (s + 2 ^ v) (suc v) w (omega arith) k

-- numbers below 2 ^ n with the same bits are one
low_same : (s t : ℕ) → eqb (s % 2) 1 ≡ eqb (t % 2) 1 → s % 2 ≡ t % 2
low_same s t e = grind (arith, nat_tests)

pub bits_same : (n s t : ℕ) → s < 2 ^ n → t < 2 ^ n → ((v : ℕ) → v < n → bit s v ≡ bit t v) → s ≡ t
bits_same zero s t h k e = omega arith
bits_same (suc n) s t h k e =
    let rest : s / 2 ≡ t / 2 = bits_same n (s / 2) (t / 2) (omega arith) (omega arith) (λ v l. sym (bit_suc s v) ∙ e (suc v) (omega arith) ∙ bit_suc t v) in
    let low : s % 2 ≡ t % 2 = low_same s t (sym (bit_zero s) ∙ e 0 (omega arith) ∙ bit_zero t) in
    omega (arith, rest, low)

-- the bit operations, bit by bit
and_digits : (q x y m : ℕ) → x < 2 → y < 2 → m ≡ q * 2 + min x y → eqb (m % 2) 1 ≡ (eqb x 1 && eqb y 1)
and_digits q x y m h k e = grind (arith, nat_tests)

or_digits : (q x y m : ℕ) → x < 2 → y < 2 → m ≡ q * 2 + max x y → eqb (m % 2) 1 ≡ (eqb x 1 || eqb y 1)
or_digits q x y m h k e = grind (arith, nat_tests)

xor_digits : (q x y m : ℕ) → x < 2 → y < 2 → m ≡ q * 2 + differ-digits x y → eqb (m % 2) 1 ≡ differ (eqb x 1) (eqb y 1)
xor_digits q zero zero m h k e = let p : m % 2 ≡ 0 = omega arith in ap (λ z. eqb z 1) p
xor_digits q zero (suc zero) m h k e = let p : m % 2 ≡ 1 = omega arith in ap (λ z. eqb z 1) p
xor_digits q (suc zero) zero m h k e = let p : m % 2 ≡ 1 = omega arith in ap (λ z. eqb z 1) p
xor_digits q (suc zero) (suc zero) m h k e = let p : m % 2 ≡ 0 = omega arith in ap (λ z. eqb z 1) p
xor_digits q zero (suc (suc y)) m h k e = absurd (omega arith)
xor_digits q (suc zero) (suc (suc y)) m h k e = absurd (omega arith)
xor_digits q (suc (suc x)) y m h k e = absurd (omega arith)

and_low : (a b : ℕ) → eqb (bit_and a b % 2) 1 ≡ (eqb (a % 2) 1 && eqb (b % 2) 1)
and_low a b = and_digits (bit_and (a / 2) (b / 2)) (a % 2) (b % 2) (bit_and a b) (omega arith) (omega arith) (and_step a b)

or_low : (a b : ℕ) → eqb (bit_or a b % 2) 1 ≡ (eqb (a % 2) 1 || eqb (b % 2) 1)
or_low a b = or_digits (bit_or (a / 2) (b / 2)) (a % 2) (b % 2) (bit_or a b) (omega arith) (omega arith) (or_step a b)

xor_low : (a b : ℕ) → eqb (bit_xor a b % 2) 1 ≡ differ (eqb (a % 2) 1) (eqb (b % 2) 1)
xor_low a b = xor_digits (bit_xor (a / 2) (b / 2)) (a % 2) (b % 2) (bit_xor a b) (omega arith) (omega arith) (xor_step a b)

pub bit_of_and : (a b v : ℕ) → bit (bit_and a b) v ≡ (bit a v && bit b v)
bit_of_and a b v = ap (λ x. eqb (x % 2) 1) (and_shr a b v) ∙ and_low (a / 2 ^ v) (b / 2 ^ v)

pub bit_of_or : (a b v : ℕ) → bit (bit_or a b) v ≡ (bit a v || bit b v)
bit_of_or a b v = ap (λ x. eqb (x % 2) 1) (or_shr a b v) ∙ or_low (a / 2 ^ v) (b / 2 ^ v)

pub bit_of_xor : (a b v : ℕ) → bit (bit_xor a b) v ≡ differ (bit a v) (bit b v)
bit_of_xor a b v = ap (λ x. eqb (x % 2) 1) (xor_shr a b v) ∙ xor_low (a / 2 ^ v) (b / 2 ^ v)

-- a state that is gathered from the values of its variables
gather_more : (n s : ℕ) (b : Bool) → s < 2 ^ n → s + cond b (2 ^ n) 0 < 2 ^ suc n
gather_more n s true h = omega arith
gather_more n s false h = omega arith

pub gather_below : (n : ℕ) (P : ℕ → Bool) → gather n P < 2 ^ n
unfolding gather
gather_below zero P = omega arith
gather_below (suc n) P = gather_more n (gather n P) (P n) (gather_below n P)

gather_last : (n s : ℕ) (b : Bool) → s < 2 ^ n → bit (s + cond b (2 ^ n) 0) n ≡ b
gather_last n s true h = bit_top s n h
gather_last n s false h = ap (λ x. bit x n) (add-zero s) ∙ bit_at s n h

gather_kept : (n s v : ℕ) (b : Bool) → v < n → bit (s + cond b (2 ^ n) 0) v ≡ bit s v
gather_kept n s v true h = bit_under s n v h
gather_kept n s v false h = ap (λ x. bit x v) (add-zero s)

pub bit_gather : (n : ℕ) (P : ℕ → Bool) (v : ℕ) → v < n → bit (gather n P) v ≡ P v
unfolding gather
bit_gather zero P v h = absurd (omega arith)
bit_gather (suc n) P v h = go (λ l. bit_gather n P v l) (cases_eq v n)
  where
    go : (v < n → bit (gather n P) v ≡ P v) → (v ≡ n) ⊎ (v ≡ n → ⊥) → bit (gather n P + cond (P n) (2 ^ n) 0) v ≡ P v
    go before (inl e) = subst (λ w. bit (gather n P + cond (P n) (2 ^ n) 0) w ≡ P w) (sym e) (gather_last n (gather n P) (P n) (gather_below n P))
    go before (inr d) = let l : v < n = omega arith in gather_kept n (gather n P) v (P n) l ∙ before l

-- gathered values are all that a gathered state depends on
pub gather_same : (n : ℕ) (P Q : ℕ → Bool) → ((v : ℕ) → v < n → P v ≡ Q v) → gather n P ≡ gather n Q
gather_same n P Q h = bits_same n (gather n P) (gather n Q) (gather_below n P) (gather_below n Q) (λ v l. bit_gather n P v l ∙ h v l ∙ sym (bit_gather n Q v l))

-- no variable
pub bit_none : (v : ℕ) → bit 0 v ≡ false
bit_none v = bit_above 0 0 v (omega arith) (omega arith)

pub gather_none : (n : ℕ) (P : ℕ → Bool) → ((v : ℕ) → v < n → P v ≡ false) → gather n P ≡ 0
gather_none n P h = bits_same n (gather n P) 0 (gather_below n P) (pow_pos n) (λ v l. bit_gather n P v l ∙ h v l ∙ sym (bit_none v))

-- one variable
pub bit_power : (v : ℕ) → bit (2 ^ v) v ≡ true
bit_power v = ap (λ x. bit x v) (sym (zero-add (2 ^ v))) ∙ bit_top 0 v (pow_pos v)

pub bit_power_other : (v w : ℕ) → (v ≡ w → ⊥) → bit (2 ^ v) w ≡ false
bit_power_other v w d = ap (λ x. bit x w) (sym (zero-add (2 ^ v))) ∙ go (cases_lt w v)
  where
    go : (w < v) ⊎ (v ≤ w) → bit (0 + 2 ^ v) w ≡ false
    go (inl l) = bit_under 0 v w l ∙ bit_none w
    go (inr l) = bit_over 0 v w (pow_pos v) (omega arith)

-- the complement of a number below 2 ^ n
not_low : (a b : ℕ) → b % 2 ≡ 1 - a % 2 → eqb (b % 2) 1 ≡ not (eqb (a % 2) 1)
not_low a b e = grind (arith, nat_tests)

pub bit_not : (n a v : ℕ) → a < 2 ^ n → v < n → bit (2 ^ n - 1 - a) v ≡ not (bit a v)
bit_not zero a v h l = absurd (omega arith)
bit_not (suc n) a zero h l = bit_zero (2 ^ suc n - 1 - a) ∙ not_low a (2 ^ suc n - 1 - a) (omega arith) ∙ ap not (sym (bit_zero a))
bit_not (suc n) a (suc v) h l =
    let e : (2 ^ suc n - 1 - a) / 2 ≡ 2 ^ n - 1 - a / 2 = omega arith in
    bit_suc (2 ^ suc n - 1 - a) v ∙ ap (λ x. bit x v) e ∙ bit_not n (a / 2) v (omega arith) (omega arith) ∙ ap not (sym (bit_suc a v))

-- gathered states under the bit operations
pub gather_and : (n : ℕ) (P Q : ℕ → Bool) → bit_and (gather n P) (gather n Q) ≡ gather n (λ v. P v && Q v)
gather_and n P Q =
    bits_same n (bit_and (gather n P) (gather n Q)) (gather n (λ v. P v && Q v)) (and_lt n (gather n P) (gather n Q) (gather_below n P) (gather_below n Q)) (gather_below n (λ v. P v && Q v))
    (λ v l. bit_of_and (gather n P) (gather n Q) v ∙ ap₂ ◌&&◌ (bit_gather n P v l) (bit_gather n Q v l) ∙ sym (bit_gather n (λ v. P v && Q v) v l))

pub gather_or : (n : ℕ) (P Q : ℕ → Bool) → bit_or (gather n P) (gather n Q) ≡ gather n (λ v. P v || Q v)
gather_or n P Q =
    bits_same n (bit_or (gather n P) (gather n Q)) (gather n (λ v. P v || Q v)) (or_lt n (gather n P) (gather n Q) (gather_below n P) (gather_below n Q)) (gather_below n (λ v. P v || Q v))
    (λ v l. bit_of_or (gather n P) (gather n Q) v ∙ ap₂ ◌||◌ (bit_gather n P v l) (bit_gather n Q v l) ∙ sym (bit_gather n (λ v. P v || Q v) v l))
