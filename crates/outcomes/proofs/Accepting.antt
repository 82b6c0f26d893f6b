-- The line begins ACCEPT exactly when the files hold a task and a plan that solves it, and it tells what comes of them.
-- Assumes nothing.
use Rattle.std.proofs.Common.{◌≡◌, ℕ, ◌%◌, ◌<◌, ◌≤◌, ltb, ◌⊎◌, List, length, get_or, take, Some, None, codes, Option, inl, inr, sym, refl, ap, ◌∙◌, subst, arith}
use Rattle.std.specs.List.{AllByRecursion}
use Rattle.std.proofs.lemmas.Bool.{cond-false, le-ltb}
use Rattle.std.proofs.lemmas.Bool.Decides.{nat_tests}
use Rattle.words.specs.declared.fault.Fault.{Fault}
use Rattle.words.specs.declared.fault.Refusal.TheVariants.{TooLong}
use Rattle.words.specs.Refusals.{file_fault}
use Rattle.words.specs.Files.{task_limit, plan_limit, file_refusal, words_of, bytes_of}
use Rattle.words.proofs.Encoding.{written_read, read_written, read_accepted, write_accepted, words_small}
use Rattle.planning.specs.Tree.{TaskTree}
use Rattle.planning.specs.Render.{task_words}
use Rattle.reading.specs.Faults.{task_fault_of}
use Rattle.reading.specs.Trees.{task_tree}
use Rattle.reading.proofs.Theorem.{faultless, same_tree, accepted_when_rendered}
use Rattle.outcomes.specs.Runs.{Outcome, accepted, refused, refused_or, plan_outcome}
use Rattle.outcomes.specs.Lines.{outcome_bytes}
use Rattle.outcomes.specs.Verdicts.{first_of, files_outcome, verdict_bytes}
use Rattle.outcomes.specs.Laws.{Accepted, FaultsInOrder, FilesHold, SolvedFiles, AcceptsWhenSolved, FilesRefused, VerdictTells, of_accepted, of_refused}
use Rattle.outcomes.proofs.Deciding.{plan_decided}
use Rattle.outcomes.proofs.Fitting.{task_fit}

-- the faults before the run, in their order
pub faults_in_order : (task plan : List ℕ) → FaultsInOrder task plan
faults_in_order task plan = record {
  task_file = λ f a. rw a refl;
  task = λ f a b. rw (a, b) refl;
  plan_file = λ f a b c. rw (a, b, c) refl;
  run = λ a b c. rw (a, b, c) refl;
}

-- what a line that begins ACCEPT tells
record Tells (r₁ r₂ r₃ : Option Fault) (o : Outcome) : Type 0 where
  task_file : r₁ ≡ None
  task : r₂ ≡ None
  plan_file : r₃ ≡ None
  steps : ℕ
  changes : ℕ
  end : ℕ
  outcome : o ≡ accepted steps changes end

line_tells : (r₁ r₂ r₃ : Option Fault) (o : Outcome) → take 6 (outcome_bytes (refused_or (first_of r₁ (first_of r₂ r₃)) o)) ≡ codes "ACCEPT" → Tells r₁ r₂ r₃ o
line_tells None None None (accepted steps changes end) h = record { task_file = refl; task = refl; plan_file = refl; steps = steps; changes = changes; end = end; outcome = refl }
line_tells None None None (refused f) h = absurd (let z : ◌≡◌ {A = ℕ} 82 65 = ap (λ xs. get_or xs 0 0) h in omega arith)
line_tells (Some f) r₂ r₃ o h = absurd (let z : ◌≡◌ {A = ℕ} 82 65 = ap (λ xs. get_or xs 0 0) h in omega arith)
line_tells None (Some f) r₃ o h = absurd (let z : ◌≡◌ {A = ℕ} 82 65 = ap (λ xs. get_or xs 0 0) h in omega arith)
line_tells None None (Some f) o h = absurd (let z : ◌≡◌ {A = ℕ} 82 65 = ap (λ xs. get_or xs 0 0) h in omega arith)

-- a file that is not refused has no loose bytes
whole : (limit : ℕ) (bs : List ℕ) → file_refusal limit bs ≡ None → length bs % 4 ≡ 0
whole limit bs h = grind (arith, nat_tests)

-- files of which neither a file nor the task has a fault are those of the task and the plan that they are read into
files_hold : (t p : List ℕ) → AllByRecursion (λ b. b < 256) t → AllByRecursion (λ b. b < 256) p
    → file_refusal task_limit t ≡ None → task_fault_of (words_of t) ≡ None → file_refusal plan_limit p ≡ None → FilesHold t p (task_tree (words_of t)) (words_of p)
files_hold t p ht hp a b c =
    let renders = (accepted_when_rendered (words_of t)).accepted b in
    let room = write_accepted plan_limit p c in
    record {
      within = renders.0;
      renders = ap bytes_of renders.1 ∙ read_written t ht (whole task_limit t a);
      small = words_small p hp;
      holds = read_written p hp (whole plan_limit p c);
      few = grind (arith, nat_tests);
    }

solved_files : (t p : List ℕ) → AllByRecursion (λ b. b < 256) t → AllByRecursion (λ b. b < 256) p → take 6 (verdict_bytes t p) ≡ codes "ACCEPT" → SolvedFiles t p
solved_files t p ht hp h =
    let told = line_tells (file_refusal task_limit t) (task_fault_of (words_of t)) (file_refusal plan_limit p) (plan_outcome (task_tree (words_of t)) (words_of p)) h in
    let good : Accepted (task_tree (words_of t)) (words_of p) told.steps told.changes told.end = (plan_decided (task_tree (words_of t)) (words_of p)).accepts told.steps told.changes told.end told.outcome in
    record {
      task = task_tree (words_of t);
      plan = words_of p;
      hold = files_hold t p ht hp told.task_file told.task told.plan_file;
      solves = good.solves;
    }

-- few enough words are read from their bytes
few_read : (limit : ℕ) (ws : List ℕ) → length ws ≤ limit → file_refusal limit (bytes_of ws) ≡ None
few_read limit ws l = read_accepted limit ws (cond-false (ltb limit (length ws)) (Some (file_fault TooLong limit)) None (le-ltb limit (length ws) l))

line_accepts : (t p : List ℕ) → SolvedFiles t p → take 6 (verdict_bytes t p) ≡ codes "ACCEPT"
line_accepts t p s =
    let task_words_are : words_of t ≡ task_words s.task = ap words_of (sym s.hold.renders) ∙ written_read (task_words s.task) (task_fit s.task s.hold.within) in
    let plan_is : words_of p ≡ s.plan = ap words_of (sym s.hold.holds) ∙ written_read s.plan s.hold.small in
    let task_file : file_refusal task_limit t ≡ None = subst (λ bs. file_refusal task_limit bs ≡ None) s.hold.renders (few_read task_limit (task_words s.task) s.hold.within.short) in
    let task_fine : task_fault_of (words_of t) ≡ None = ap task_fault_of task_words_are ∙ faultless s.task s.hold.within in
    let plan_file : file_refusal plan_limit p ≡ None = subst (λ bs. file_refusal plan_limit bs ≡ None) s.hold.holds (few_read plan_limit s.plan s.hold.few) in
    let task_is : task_tree (words_of t) ≡ s.task = ap task_tree task_words_are ∙ same_tree s.task s.hold.within in
    let run = (plan_decided s.task s.plan).solved s.solves s.hold.few in
    let outcome : plan_outcome (task_tree (words_of t)) (words_of p) ≡ accepted run.0 run.1 run.2 = ap (λ x. plan_outcome x (words_of p)) task_is ∙ ap (plan_outcome s.task) plan_is ∙ run.3 in
    begins _ _ _ _ task_file task_fine plan_file outcome
  where
    begins : (r₁ r₂ r₃ : Option Fault) (o : Outcome) {steps changes end : ℕ} → r₁ ≡ None → r₂ ≡ None → r₃ ≡ None → o ≡ accepted steps changes end
        → take 6 (outcome_bytes (refused_or (first_of r₁ (first_of r₂ r₃)) o)) ≡ codes "ACCEPT"
    begins r₁ r₂ r₃ o a b c d = rw (a, b, c, d) refl

pub accepts_when_solved : (task plan : List ℕ) → AcceptsWhenSolved task plan
accepts_when_solved task plan ht hp = (solved_files task plan ht hp, line_accepts task plan)

fault_or_none : (r : Option Fault) → ((f : Fault) × (r ≡ Some f)) ⊎ (r ≡ None)
fault_or_none None = inr refl
fault_or_none (Some f) = inl (f, refl)

-- an outcome is accepted or refused
record Accepts (o : Outcome) : Type 0 where
  steps : ℕ
  changes : ℕ
  end : ℕ
  same : o ≡ accepted steps changes end

accepted_or_refused : (o : Outcome) → Accepts o ⊎ ((f : Fault) × (o ≡ refused f))
accepted_or_refused (accepted steps changes end) = inl (record { steps = steps; changes = changes; end = end; same = refl })
accepted_or_refused (refused f) = inr (f, refl)

-- the defined line of any bytes tells what comes of them
pub verdict_tells : (t p : List ℕ) → AllByRecursion (λ b. b < 256) t → AllByRecursion (λ b. b < 256) p → VerdictTells t p (verdict_bytes t p)
verdict_tells t p ht hp = task_file (fault_or_none (file_refusal task_limit t))
  where
    task : TaskTree
    task = task_tree (words_of t)

    plan : List ℕ
    plan = words_of p

    refuses : (f : Fault) → files_outcome t p ≡ refused f → FilesRefused t p f → VerdictTells t p (verdict_bytes t p)
    refuses f e why = of_refused (record { fault = f; reason = why; same = ap outcome_bytes e })

    run : file_refusal task_limit t ≡ None → task_fault_of (words_of t) ≡ None → file_refusal plan_limit p ≡ None
        → Accepts (plan_outcome task plan) ⊎ ((f : Fault) × (plan_outcome task plan ≡ refused f)) → VerdictTells t p (verdict_bytes t p)
    run a b c (inl x) = of_accepted (record {
      task = task;
      plan = plan;
      hold = files_hold t p ht hp a b c;
      steps = x.steps;
      changes = x.changes;
      end = x.end;
      run = (plan_decided task plan).accepts x.steps x.changes x.end x.same;
      same = ap outcome_bytes ((faults_in_order t p).run a b c ∙ x.same);
    })
    run a b c (inr (f, e)) =
        refuses f ((faults_in_order t p).run a b c ∙ e) (inr (inr (inr (task, plan, files_hold t p ht hp a b c, (plan_decided task plan).refuses f e))))

    plan_file : file_refusal task_limit t ≡ None → task_fault_of (words_of t) ≡ None
        → ((f : Fault) × (file_refusal plan_limit p ≡ Some f)) ⊎ (file_refusal plan_limit p ≡ None) → VerdictTells t p (verdict_bytes t p)
    plan_file a b (inl (f, e)) = refuses f ((faults_in_order t p).plan_file f a b e) (inr (inr (inl (a, b, e))))
    plan_file a b (inr c) = run a b c (accepted_or_refused (plan_outcome task plan))

    task_words : file_refusal task_limit t ≡ None
        → ((f : Fault) × (task_fault_of (words_of t) ≡ Some f)) ⊎ (task_fault_of (words_of t) ≡ None) → VerdictTells t p (verdict_bytes t p)
    task_words a (inl (f, e)) = refuses f ((faults_in_order t p).task f a e) (inr (inl (a, e)))
    task_words a (inr b) = plan_file a b (fault_or_none (file_refusal plan_limit p))

    task_file : ((f : Fault) × (file_refusal task_limit t ≡ Some f)) ⊎ (file_refusal task_limit t ≡ None) → VerdictTells t p (verdict_bytes t p)
    task_file (inl (f, e)) = refuses f ((faults_in_order t p).task_file f e) (inl e)
    task_file (inr a) = task_words a (fault_or_none (task_fault_of (words_of t)))
