-- Words as bytes, and bytes as words.
-- Assumes nothing.
use Rattle.std.proofs.Common.{◌≡◌, ℕ, ◌*◌, ◌/◌, ◌%◌, ◌^◌, ◌<◌, List, [], ◌∷◌, ◌++◌, length, map, suc, None, refl, ap, ◌∙◌, arith}
use Rattle.std.proofs.lemmas.Nat.{from_be_bytes-to_be_bytes_4}
use Rattle.std.proofs.lemmas.Bool.Decides.{nat_tests}
use Rattle.std.specs.List.{AllByRecursion}
use Rattle.std.specs.Simd.{first_chunks}
use Rattle.words.specs.Files.{word_from, word_of, word_bytes, words_of, bytes_of, file_refusal, words_refusal, FileLaws}

-- the words of bytes are those of their fours
pub words_of_fours : (bs : List ℕ) → map word_of (first_chunks 4 (length bs / 4) bs) ≡ words_of bs
words_of_fours [] = refl
words_of_fours (a ∷ []) = refl
words_of_fours (a ∷ b ∷ []) = refl
words_of_fours (a ∷ b ∷ c ∷ []) = refl
words_of_fours (a ∷ b ∷ c ∷ d ∷ r) =
    let more : length (a ∷ b ∷ c ∷ d ∷ r) / 4 ≡ suc (length r / 4) = omega arith in
    ap (λ k. map word_of (first_chunks 4 k (a ∷ b ∷ c ∷ d ∷ r))) more ∙ ap (λ v. word_from a b c d ∷ v) (words_of_fours r)

-- each word is made of its four bytes
pub word_from_bytes : (w : ℕ) → w < 2 ^ 32 → word_from (w / 2 ^ 24 % 256) (w / 2 ^ 16 % 256) (w / 2 ^ 8 % 256) (w % 256) ≡ w
word_from_bytes w h = from_be_bytes-to_be_bytes_4 w h

-- four bytes are those of the word that they make
pub bytes_from_word : (a b c d : ℕ) → a < 256 → b < 256 → c < 256 → d < 256 → word_bytes (word_from a b c d) ≡ a ∷ b ∷ c ∷ d ∷ []
bytes_from_word a b c d ha hb hc hd =
    let ea : word_from a b c d / 2 ^ 24 % 256 ≡ a = omega arith in
    let eb : word_from a b c d / 2 ^ 16 % 256 ≡ b = omega arith in
    let ec : word_from a b c d / 2 ^ 8 % 256 ≡ c = omega arith in
    let ed : word_from a b c d % 256 ≡ d = omega arith in
    cc

pub word_from_small : (a b c d : ℕ) → a < 256 → b < 256 → c < 256 → d < 256 → word_from a b c d < 2 ^ 32
word_from_small a b c d ha hb hc hd = omega arith

pub written_read : (ws : List ℕ) → AllByRecursion (λ w. w < 2 ^ 32) ws → words_of (bytes_of ws) ≡ ws
written_read [] h = refl
written_read (w ∷ ws) h = let e = word_from_bytes w h.0 in let i = written_read ws h.1 in cc

pub read_written : (bs : List ℕ) → AllByRecursion (λ b. b < 256) bs → length bs % 4 ≡ 0 → bytes_of (words_of bs) ≡ bs
read_written [] h l = refl
read_written (a ∷ []) h l = absurd (omega arith)
read_written (a ∷ b ∷ []) h l = absurd (omega arith)
read_written (a ∷ b ∷ c ∷ []) h l = absurd (omega arith)
read_written (a ∷ b ∷ c ∷ d ∷ r) h l =
    let i = read_written r h.1.1.1.1 (omega arith) in
    ap (λ v. v ++ bytes_of (words_of r)) (bytes_from_word a b c d h.0 h.1.0 h.1.1.0 h.1.1.1.0) ∙ ap (λ v. a ∷ b ∷ c ∷ d ∷ v) i

pub written_length : (ws : List ℕ) → length (bytes_of ws) ≡ 4 * length ws
written_length [] = refl
written_length (w ∷ ws) = omega (arith, written_length ws)

pub read_length : (bs : List ℕ) → length (words_of bs) ≡ length bs / 4
read_length [] = refl
read_length (a ∷ []) = refl
read_length (a ∷ b ∷ []) = refl
read_length (a ∷ b ∷ c ∷ []) = refl
read_length (a ∷ b ∷ c ∷ d ∷ r) = omega (arith, read_length r)

pub read_accepted : (limit : ℕ) (ws : List ℕ) → words_refusal limit ws ≡ None → file_refusal limit (bytes_of ws) ≡ None
read_accepted limit ws h =
    let l = written_length ws in
    let n : length (bytes_of ws) / 4 ≡ length ws = omega arith in
    let z : length (bytes_of ws) % 4 ≡ 0 = omega arith in
    rw (n, z) h

pub write_accepted : (limit : ℕ) (bs : List ℕ) → file_refusal limit bs ≡ None → words_refusal limit (words_of bs) ≡ None
write_accepted limit bs h =
    let l = read_length bs in
    rw l (grind (arith, nat_tests))

pub words_small : (bs : List ℕ) → AllByRecursion (λ b. b < 256) bs → AllByRecursion (λ w. w < 2 ^ 32) (words_of bs)
words_small [] h = tt
words_small (a ∷ []) h = tt
words_small (a ∷ b ∷ []) h = tt
words_small (a ∷ b ∷ c ∷ []) h = tt
words_small (a ∷ b ∷ c ∷ d ∷ r) h = (word_from_small a b c d h.0 h.1.0 h.1.1.0 h.1.1.1.0, words_small r h.1.1.1.1)

pub bytes_small : (ws : List ℕ) → AllByRecursion (λ b. b < 256) (bytes_of ws)
bytes_small [] = tt
bytes_small (w ∷ ws) = (omega arith, (omega arith, (omega arith, (omega arith, bytes_small ws))))

pub file_laws : FileLaws
file_laws = record { written_read = written_read; read_written = read_written; written_length = written_length; read_length = read_length; read_accepted = read_accepted; write_accepted = write_accepted; words_small = words_small; bytes_small = bytes_small }
