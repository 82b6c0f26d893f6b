-- The ON words of an initial state.
-- Assumes nothing.
use Rattle.std.proofs.Common.{◌≡◌, ℕ, zero, suc, ◌+◌, ◌-◌, ◌/◌, ◌%◌, ◌^◌, ◌<◌, ◌≤◌, Bool, true, false, cond, eqb, List, [], ◌∷◌, ◌++◌, length, sym, refl, ap, ◌∙◌, subst, lt_of_lt_of_le, pow-suc, arith, pow_mono}
use lib.Count.{ones, ones_step}
use Rattle.std.proofs.lemmas.Nat.{shr-shr, shr_below, mod_below}
use Rattle.std.proofs.lemmas.List.{append-nil}
use Rattle.std.proofs.lemmas.Bool.{cond-true, cond-false}
use Rattle.words.specs.declared.kind.Kind.TheVariants.{On}
use Rattle.words.specs.Words.{word}
use Rattle.planning.specs.Tree.{bit}
use Rattle.planning.specs.Render.{on_words}
use Rattle.planning.proofs.Bits.{bit_above, bit_top, bit_under}

-- one variable, then the others
cond_append : (b : Bool) (w : ℕ) (xs ys : List ℕ) → cond b (w ∷ (xs ++ ys)) (xs ++ ys) ≡ cond b (w ∷ xs) xs ++ ys
cond_append true w xs ys = refl
cond_append false w xs ys = refl

pub ons_append : (v a b s : ℕ) → on_words v (a + b) s ≡ on_words v a s ++ on_words (v + a) b s
ons_append v zero b s =
    let e : zero + b ≡ b = omega arith in
    let f : v + zero ≡ v = omega arith in
    ap (λ k. on_words v k s) e ∙ ap (λ u. on_words u b s) (sym f)
ons_append v (suc a) b s =
    let e : suc a + b ≡ suc (a + b) = omega arith in
    let f : v + 1 + a ≡ v + suc a = omega arith in
    ap (λ k. on_words v k s) e
    ∙ ap (λ ws. cond (bit s v) (word On v ∷ ws) ws) (ons_append (v + 1) a b s ∙ ap (λ u. on_words (v + 1) a s ++ on_words u b s) f)
    ∙ cond_append (bit s v) (word On v) (on_words (v + 1) a s) (on_words (v + suc a) b s)

pub ons_same : (v k s t : ℕ) → ((w : ℕ) → v ≤ w → w < v + k → bit s w ≡ bit t w) → on_words v k s ≡ on_words v k t
ons_same v zero s t h = refl
ons_same v (suc k) s t h =
    ap (λ b. cond b (word On v ∷ on_words (v + 1) k s) (on_words (v + 1) k s)) (h v (omega arith) (omega arith))
    ∙ ap (λ ws. cond (bit t v) (word On v ∷ ws) ws) (ons_same (v + 1) k s t (λ w a b. h w (omega arith) (omega arith)))

-- none of these variables is true
pub ons_clear : (v k s : ℕ) → ((w : ℕ) → v ≤ w → w < v + k → bit s w ≡ false) → on_words v k s ≡ []
ons_clear v zero s h = refl
ons_clear v (suc k) s h =
    cond-false (bit s v) (word On v ∷ on_words (v + 1) k s) (on_words (v + 1) k s) (h v (omega arith) (omega arith))
    ∙ ons_clear (v + 1) k s (λ w a b. h w (omega arith) (omega arith))

-- a state whose variables from low on are false
pub ons_all : (low n s : ℕ) → s < 2 ^ low → low ≤ n → on_words 0 n s ≡ on_words 0 low s
ons_all low n s h le =
    let e : n ≡ low + (n - low) = omega arith in
    ap (λ k. on_words 0 k s) e ∙ ons_append 0 low (n - low) s
    ∙ ap (λ ws. on_words 0 low s ++ ws) (ons_clear (0 + low) (n - low) s (λ w a b. bit_above s low w h (omega arith)))
    ∙ append-nil (on_words 0 low s)

-- one more variable, above the others
pub ons_push : (low l s : ℕ) → s < 2 ^ low → low ≤ l → on_words 0 (l + 1) (s + 2 ^ l) ≡ on_words 0 low s ++ (word On l ∷ [])
ons_push low l s h le =
    let under : s < 2 ^ l = lt_of_lt_of_le h (pow_mono le) in
    let e : 0 + l ≡ l = omega arith in
    ons_append 0 l 1 (s + 2 ^ l)
    ∙ ap (λ ws. ws ++ on_words (0 + l) 1 (s + 2 ^ l)) (ons_same 0 l (s + 2 ^ l) s (λ w a b. bit_under s l w (omega arith)) ∙ ons_all low l s h le)
    ∙ ap (λ u. on_words 0 low s ++ cond (bit (s + 2 ^ l) u) (word On u ∷ []) []) e
    ∙ ap (λ ws. on_words 0 low s ++ ws) (cond-true (bit (s + 2 ^ l) l) (word On l ∷ []) [] (bit_top s l under))

halves : (x : ℕ) → x % 2 < 2
halves x = mod_below x 2 (omega arith)

cond_length : (x w : ℕ) (ws : List ℕ) → x < 2 → length (cond (eqb x 1) (w ∷ ws) ws) ≡ x + length ws
cond_length zero w ws h = omega arith
cond_length (suc zero) w ws h = omega arith
cond_length (suc (suc x)) w ws h = absurd (omega arith)

-- as many ON words as variables that are true
pub ons_ones : (v k s : ℕ) → s < 2 ^ (v + k) → length (on_words v k s) ≡ ones (s / 2 ^ v)
unfolding ones
ons_ones v zero s h =
    let e : 0 + v ≡ v + zero = omega arith in
    let b : s / 2 ^ v < 2 ^ 0 = shr_below s 0 v (subst (λ m. s < 2 ^ m) (sym e) h) in
    let z : s / 2 ^ v ≡ 0 = omega arith in
    ap ones (sym z)
ons_ones v (suc k) s h =
    let e : v + suc k ≡ v + 1 + k = omega arith in
    cond_length (s / 2 ^ v % 2) (word On v) (on_words (v + 1) k s) (halves (s / 2 ^ v))
    ∙ ap (λ m. s / 2 ^ v % 2 + m) (ons_ones (v + 1) k s (subst (λ m. s < 2 ^ m) e h) ∙ ap ones (sym (shr-shr s v 1)))
    ∙ sym (ones_step (s / 2 ^ v))

pub add_one_pow : (s l : ℕ) → s < 2 ^ l → s + 2 ^ l < 2 ^ suc l
add_one_pow s l h = subst (λ m. s + 2 ^ l < m) (sym (pow-suc 2 l)) (omega arith)
