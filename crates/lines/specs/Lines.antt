-- The line that tells the verdict, as bytes.
-- Assumes nothing.
use Rattle.std.specs.Prelude.{ℕ, zero, suc, ◌*◌, ◌/◌, ◌%◌, ◌^◌, List, [], ◌∷◌, ◌++◌, codes, decimal}
use Rattle.std.specs.Char.{digit_char}
use Rattle.words.specs.declared.fault.Fault.{Fault}
use Rattle.words.specs.declared.file.FileError.{FileError}
use Rattle.words.specs.declared.file.FileError.TheVariants.{Refused, NoMemory}
use Rattle.words.specs.Refusals.{number}

-- the hexadecimal digit of a number at a place that is counted from the right, 4 bits to a place: a figure or a small letter
abbrev pub hex_digit_of : (n place : ℕ) → ℕ
hex_digit_of n place = digit_char (n / 2 ^ (4 * place) % 16)

-- the last so many hexadecimal digits of a number
unfoldable pub hex_digits : (many n : ℕ) → List ℕ
hex_digits zero n = []
hex_digits (suc k) n = hex_digit_of n k ∷ hex_digits k n

-- an accepted plan: steps, changes, the state at its end as 16 digits, and a line feed
abbrev pub accept_head : (steps changes : ℕ) → List ℕ
accept_head steps changes = codes "ACCEPT " ++ (decimal steps ++ (codes " " ++ (decimal changes ++ codes " ")))

abbrev pub accept_bytes : (steps changes bits : ℕ) → List ℕ
accept_bytes steps changes bits = accept_head steps changes ++ (hex_digits 16 bits ++ (10 ∷ []))

-- a refusal: its number, step, place, and a line feed
abbrev pub refuse_bytes : Fault → List ℕ
refuse_bytes f = codes "REFUSE " ++ (decimal (number f.refusal) ++ (codes " " ++ (decimal f.step ++ (codes " " ++ (decimal f.place ++ codes "\n")))))

-- want of memory has no line
abbrev pub error_bytes : FileError → List ℕ
error_bytes (Refused f) = refuse_bytes f
error_bytes NoMemory = []
