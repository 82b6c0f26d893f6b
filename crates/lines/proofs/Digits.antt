-- The 16 hexadecimal digits of a number, as a format with zeros in front writes them.
use Rattle.std.proofs.Common.{◌≡◌, ℕ, zero, suc, ◌+◌, ◌-◌, ◌*◌, ◌/◌, ◌%◌, ◌^◌, ◌<◌, ◌≤◌, false, List, [], ◌∷◌, ◌++◌, length, replicate, sym, ap, ap₂, refl, ◌∙◌, inl, inr, append_assoc, append-nil, arith, pow-add}
use native.Mathlib.Nat.{pow-suc, div-one, zero-div, div-div-eq-div-mul}
use Rattle.std.proofs.lemmas.Bool.{cases_lt, cond-true, cond-false, eq-eqb, ne_eqb}
use Rattle.std.specs.Char.{digit_char}
use Rattle.std.specs.Fmt.{digits, digits_onto, digit_glyph, padded_integral, format_spec, char_count}
use Rattle.lines.specs.Lines.{hex_digit_of, hex_digits}

-- the digit at a place of a sixteenth is the one above that place
digit_above : (k n : ℕ) → hex_digit_of (n / 16) k ≡ hex_digit_of n (suc k)
digit_above k n =
    let four : 4 + 4 * k ≡ 4 * suc k = omega arith in
    ap (λ x. digit_char (x % 16)) (div-div-eq-div-mul n 16 (2 ^ (4 * k)) ∙ ap (λ x. n / x) (sym (pow-add 2 4 (4 * k)) ∙ ap (λ j. 2 ^ j) four))

-- the last digit stands behind those of the sixteenth
last_digit : (k n : ℕ) → hex_digits (suc k) n ≡ hex_digits k (n / 16) ++ (digit_glyph false (n % 16) ∷ [])
unfolding hex_digits
last_digit zero n = ap (λ x. digit_char (x % 16) ∷ []) (div-one n)
last_digit (suc k) n = ap₂ ◌∷◌ (sym (digit_above k n)) (last_digit k n)

-- nothing but zeros
all_zeros : (k : ℕ) → hex_digits k 0 ≡ replicate k 48
unfolding hex_digits
all_zeros zero = refl
all_zeros (suc k) = ap₂ ◌∷◌ (ap (λ x. digit_char (x % 16)) (zero-div (2 ^ (4 * k)))) (all_zeros k)

-- digits onto which the digits of a number are written, with zeros in front up to k + 1 places of it
abbrev filled : (k : ℕ) (acc ds : List ℕ) → List ℕ
filled k acc ds = replicate (suc k + length acc - length ds) 48 ++ ds

module _ (j k n : ℕ) (acc : List ℕ) where
  -- a number of one digit
  one_digit : n < 16 → filled k acc (digits_onto (suc j) 16 false n acc) ≡ hex_digits (suc k) n ++ acc
  one_digit low =
      let g = digit_glyph false (n % 16) in
      let over : n / 16 ≡ 0 = omega arith in
      let count : suc k + length acc - suc (length acc) ≡ k = omega arith in
      let shown : hex_digits (suc k) n ≡ replicate k 48 ++ (g ∷ []) =
      last_digit k n ∙ ap (λ x. hex_digits k x ++ (g ∷ [])) over ∙ ap (λ (zs : List ℕ). zs ++ (g ∷ [])) (all_zeros k) in
      ap (filled k acc) (cond-true _ _ _ (eq-eqb (n / 16) 0 over)) ∙ ap (λ m. replicate m 48 ++ (g ∷ acc)) count
      ∙ sym (ap (λ (ds : List ℕ). ds ++ acc) shown ∙ append_assoc (replicate k 48) (g ∷ []) acc)

  -- a number of more digits, by its sixteenth
  more_digits : 16 ≤ n → filled k (digit_glyph false (n % 16) ∷ acc) (digits_onto j 16 false (n / 16) (digit_glyph false (n % 16) ∷ acc)) ≡ hex_digits (suc k) (n / 16) ++ (digit_glyph false (n % 16) ∷ acc)
      → filled (suc k) acc (digits_onto (suc j) 16 false n acc) ≡ hex_digits (suc (suc k)) n ++ acc
  more_digits high front =
      let g = digit_glyph false (n % 16) in
      let some : n / 16 ≡ 0 → ⊥ = λ none. omega arith in
      let ds = digits_onto j 16 false (n / 16) (g ∷ acc) in
      let count : suc (suc k) + length acc ≡ suc k + suc (length acc) = omega arith in
      ap (filled (suc k) acc) (cond-false _ _ _ (ne_eqb (n / 16) 0 some)) ∙ ap (λ m. replicate (m - length ds) 48 ++ ds) count ∙ front
      ∙ sym (ap (λ (ds : List ℕ). ds ++ acc) (last_digit (suc k) n) ∙ append_assoc (hex_digits (suc k) (n / 16)) (g ∷ []) acc)

-- what is written of a number of at most k + 1 digits onto other digits, with zeros in front
onto : (j k n : ℕ) (acc : List ℕ) → k < j → n < 16 ^ suc k → filled k acc (digits_onto j 16 false n acc) ≡ hex_digits (suc k) n ++ acc
onto zero k n acc room small = absurd (omega arith)
onto (suc j) zero n acc room small = one_digit j zero n acc small
onto (suc j) (suc k) n acc room small = elim (cases_lt n 16) [
  | inl low ↦ one_digit j (suc k) n acc low
  | inr high ↦ more_digits j k n acc high (onto j k (n / 16) (digit_glyph false (n % 16) ∷ acc) (omega arith) (omega (arith, pow-suc 16 (suc k))))
]

-- zeros stand before the digits, up to 16 places
zeros_before : (ds : List ℕ) → padded_integral (format_spec 32 0 4 16 (2 ^ 64 - 1)) false [] ds ≡ replicate (16 - length ds) 48 ++ ds
unfolding padded_integral char_count
zeros_before ds =
    let count : 16 - length ds - 0 - 0 ≡ 16 - length ds = omega arith in
    ap₂ (λ m xs. replicate m 48 ++ xs) count (append-nil ds)

digits_are_onto : (n : ℕ) → digits 16 false n ≡ digits_onto 64 16 false n []
unfolding digits
digits_are_onto n = refl

-- what `{:016x}` writes of a number of 64 bits
pub sixteen_digits : (n : ℕ) → n < 2 ^ 64 → padded_integral (format_spec 32 0 4 16 (2 ^ 64 - 1)) false [] (digits 16 false n) ≡ hex_digits 16 n
sixteen_digits n small =
    zeros_before (digits 16 false n) ∙ ap (λ ds. replicate (16 - length ds) 48 ++ ds) (digits_are_onto n)
    ∙ onto 64 15 n [] (omega arith) small ∙ append-nil (hex_digits 16 n)
