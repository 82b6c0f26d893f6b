-- The line of an answer is the line of the files' outcome, and begins ACCEPT exactly where the files hold a solved task.
use Rattle.std.proofs.Common.{◌≡◌, ℕ, suc, ◌<◌, false, ◌↔◌, List, [], ◌∷◌, get_or, take, is_ok, IfOk, Ok, Err, codes, Result, sym, ap, ◌∙◌, subst, arith, w8, Fits}
use Rattle.std.proofs.lemmas.Bool.{true≢false}
use Rattle.std.specs.List.{AllByRecursion}
use Rattle.words.specs.declared.file.FileError.{FileError}
use Rattle.words.specs.declared.file.FileError.TheVariants.{Refused, NoMemory}
use Rattle.lines.specs.Lines.{accept_bytes, refuse_bytes}
use Rattle.outcomes.specs.Laws.{SolvedFiles, VerdictTells}
use Rattle.outcomes.specs.Lines.{outcome_bytes}
use Rattle.outcomes.specs.Runs.{refused}
use Rattle.outcomes.specs.Verdicts.{verdict_bytes}
use Rattle.outcomes.proofs.Accepting.{accepts_when_solved, verdict_tells}
use Rattle.outcomes.specs.declared.reached.Accepted.{Accepted}
use Rattle.running.specs.Answers.{FilesAnswer, OkWhenSolved}

bytes_small : (xs : List ℕ) → ((i : ℕ) → Fits w8 (get_or xs i 0)) → AllByRecursion (λ b. b < 256) xs
bytes_small [] h = tt
bytes_small (x ∷ xs) h = ((h 0).fits, bytes_small xs (λ i. h (suc i)))

module _ {V E : Type 0} (items : V → List ℕ) (t p : List ℕ) where
  pub accepted_told : (r : Result V E) (a : Accepted) (bits : ℕ) → FilesAnswer t p (Ok a) → bits ≡ a.end.bits →
      IfOk r (λ line. items line ≡ accept_bytes a.steps a.changes bits) → IfOk r (λ line. items line ≡ verdict_bytes t p)
  accepted_told (Ok line) a bits f is h = h ∙ ap (accept_bytes a.steps a.changes) is ∙ sym (ap outcome_bytes f.0)
  accepted_told (Err e) a bits f is h = tt

  pub error_told : (r : Result V E) (e : FileError) → FilesAnswer t p (Err e) →
      (elim e as (λ x. Type 0) [ Refused fault ↦ IfOk r (λ line. items line ≡ refuse_bytes fault) | NoMemory ↦ is_ok r ≡ false ]) → IfOk r (λ line. items line ≡ verdict_bytes t p)
  error_told (Ok line) (Refused f) a h = h ∙ sym (ap outcome_bytes a)
  error_told (Ok line) NoMemory a h = absurd (true≢false h)
  error_told (Err w) (Refused f) a h = tt
  error_told (Err w) NoMemory a h = tt

  pub begins_accept : (r : Result V E) → ((i : ℕ) → Fits w8 (get_or t i 0)) → ((i : ℕ) → Fits w8 (get_or p i 0)) →
      IfOk r (λ line. items line ≡ verdict_bytes t p) → IfOk r (λ line. (take 6 (items line) ≡ codes "ACCEPT") ↔ SolvedFiles t p)
  begins_accept (Ok line) ht hp e =
      subst (λ (xs : List ℕ). (take 6 xs ≡ codes "ACCEPT") ↔ SolvedFiles t p) (sym e) (accepts_when_solved t p (bytes_small t ht) (bytes_small p hp))
  begins_accept (Err w) ht hp e = tt

  pub line_tells : (r : Result V E) → ((i : ℕ) → Fits w8 (get_or t i 0)) → ((i : ℕ) → Fits w8 (get_or p i 0)) →
      IfOk r (λ line. items line ≡ verdict_bytes t p) → IfOk r (λ line. VerdictTells t p (items line))
  line_tells (Ok line) ht hp e = subst (VerdictTells t p) (sym e) (verdict_tells t p (bytes_small t ht) (bytes_small p hp))
  line_tells (Err w) ht hp e = tt

-- the files of an outcome are accepted exactly where they hold a solved task
pub ok_when_solved : (t p : List ℕ) (r : Result Accepted FileError) → ((i : ℕ) → Fits w8 (get_or t i 0)) → ((i : ℕ) → Fits w8 (get_or p i 0)) →
    FilesAnswer t p r → OkWhenSolved t p r
ok_when_solved t p (Ok a) ht hp f = (accepts_when_solved t p (bytes_small t ht) (bytes_small p hp)).0 (ap (λ o. take 6 (outcome_bytes o)) f.0)
ok_when_solved t p (Err (Refused e)) ht hp f = λ s.
    let begins : take 6 (outcome_bytes (refused e)) ≡ codes "ACCEPT" = ap (λ o. take 6 (outcome_bytes o)) (sym f) ∙ (accepts_when_solved t p (bytes_small t ht) (bytes_small p hp)).1 s in
    let z : ◌≡◌ {A = ℕ} 82 65 = ap (λ xs. get_or xs 0 0) begins in absurd (omega arith)
ok_when_solved t p (Err NoMemory) ht hp f = tt
