-- Files: how bytes hold words, how long a file may be, and which faults a file has.
-- Assumes nothing.
use Rattle.std.specs.Prelude.{◌≡◌, ℕ, ◌+◌, ◌*◌, ◌/◌, ◌%◌, ◌^◌, ◌<◌, cond, List, [], ◌∷◌, ◌++◌, length, Some, None, Ok, Err, Option, Result, ◌==◌, nat_lt, codes, slice_index}
use Rattle.std.specs.List.{AllByRecursion}
use Rattle.words.specs.declared.fault.Fault.{Fault}
use Rattle.words.specs.declared.fault.Refusal.TheVariants.{LooseBytes, TooLong}
use Rattle.words.specs.declared.file.FileKind.{FileKind}
use Rattle.words.specs.declared.file.FileKind.TheVariants.{Task, Plan}
use Rattle.words.specs.declared.file.FileError.{FileError}
use Rattle.words.specs.declared.file.FileError.TheVariants.{Refused, NoMemory}
use Rattle.words.specs.Refusals.{file_fault}
use Rattle.words.specs.Texts.{fault_text}

-- the most words that a task's file holds
abbrev pub task_limit : ℕ
task_limit = 16384

-- the most operator numbers that a plan's file holds
abbrev pub plan_limit : ℕ
plan_limit = 4096

-- the most words that a file of each kind holds
abbrev pub limit_of : FileKind → ℕ
limit_of Task = task_limit
limit_of Plan = plan_limit

-- four bytes as a word, the highest first
abbrev pub word_from : (a b c d : ℕ) → ℕ
word_from a b c d = a * 2 ^ 24 + b * 2 ^ 16 + c * 2 ^ 8 + d

-- the word that a list of four bytes holds, the highest first
abbrev pub word_of : List ℕ → ℕ
word_of four = word_from (slice_index four 0) (slice_index four 1) (slice_index four 2) (slice_index four 3)

-- a word as four bytes, the highest first
abbrev pub word_bytes : ℕ → List ℕ
word_bytes w = w / 2 ^ 24 % 256 ∷ w / 2 ^ 16 % 256 ∷ w / 2 ^ 8 % 256 ∷ w % 256 ∷ []

-- the words that bytes hold; up to three loose bytes at the end hold none
abbrev pub words_of : List ℕ → List ℕ
words_of [] = []
words_of (a ∷ []) = []
words_of (a ∷ b ∷ []) = []
words_of (a ∷ b ∷ c ∷ []) = []
words_of (a ∷ b ∷ c ∷ d ∷ rest) = word_from a b c d ∷ words_of rest

-- the bytes of words, in their order
abbrev pub bytes_of : List ℕ → List ℕ
bytes_of [] = []
bytes_of (w ∷ ws) = word_bytes w ++ bytes_of ws

-- the fault of a file that may hold so many words: more whole words than that first, then loose bytes
abbrev pub file_refusal : (limit : ℕ) → List ℕ → Option Fault
file_refusal limit bytes =
    cond (nat_lt limit (length bytes / 4)) (Some (file_fault TooLong limit))
    (cond (length bytes % 4 == 0) None (Some (file_fault LooseBytes (length bytes / 4))))

-- the fault of writing words to a file that may hold so many
abbrev pub words_refusal : (limit : ℕ) → List ℕ → Option Fault
words_refusal limit words = cond (nat_lt limit (length words)) (Some (file_fault TooLong limit)) None

-- an answer that is refused exactly with the refusal given, if any; else it is a value with the fact P, unless memory is short
abbrev pub FileAnswer : {T : Type 0} → Option Fault → (T → Type 0) → Result T FileError → Type 0
FileAnswer refusal P (Ok x) = (refusal ≡ None) × P x
FileAnswer refusal P (Err (Refused f)) = refusal ≡ Some f
FileAnswer refusal P (Err NoMemory) = refusal ≡ None

-- the text of an error: that of the fault, or that there is no memory
abbrev pub file_error_text : FileError → List ℕ
file_error_text (Refused f) = fault_text f
file_error_text NoMemory = codes "no memory"

-- writing and reading give back what was there, and what was written within the limit is read without refusal
pub record FileLaws : Type 0 where
  pub written_read : (ws : List ℕ) → AllByRecursion (λ w. w < 2 ^ 32) ws → words_of (bytes_of ws) ≡ ws
  pub read_written : (bs : List ℕ) → AllByRecursion (λ b. b < 256) bs → length bs % 4 ≡ 0 → bytes_of (words_of bs) ≡ bs
  pub written_length : (ws : List ℕ) → length (bytes_of ws) ≡ 4 * length ws
  pub read_length : (bs : List ℕ) → length (words_of bs) ≡ length bs / 4
  pub read_accepted : (limit : ℕ) (ws : List ℕ) → words_refusal limit ws ≡ None → file_refusal limit (bytes_of ws) ≡ None
  pub write_accepted : (limit : ℕ) (bs : List ℕ) → file_refusal limit bs ≡ None → words_refusal limit (words_of bs) ≡ None
  pub words_small : (bs : List ℕ) → AllByRecursion (λ b. b < 256) bs → AllByRecursion (λ w. w < 2 ^ 32) (words_of bs)
  pub bytes_small : (ws : List ℕ) → AllByRecursion (λ b. b < 256) (bytes_of ws)
