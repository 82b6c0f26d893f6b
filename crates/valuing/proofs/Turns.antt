-- A whole part, word by word.
use Rattle.std.proofs.Common.{◌≡◌, ℕ, ◌+◌, ◌<◌, ◌≤◌, true, List, [], ◌∷◌, length, get_or, drop, sym, subst, arith}
use Rattle.std.proofs.lemmas.List.{drop_more, drop_all}
use Rattle.planning.specs.Tree.{Formula}
use Rattle.valuing.specs.declared.making.Reading.{Reading}
use Rattle.valuing.specs.Makings.{Ready, after, word_making, Runs}
use Rattle.valuing.specs.Meaning.{Meaning, Kept}
use Rattle.waiting.specs.Waits.{newest}
use Rattle.valuing.specs.Working.{Good, Stands, Moved, Worked}
use Rattle.valuing.proofs.Standing.{kept_on}

-- formulas for what waits, from which the words that are left lead to f
pub record Leads (width : ℕ) (m : Meaning) (reading : Reading) (ws vs : List ℕ) (f : Formula) : Type 0 where
  pub st : List Formula
  pub stands : Stands m vs st
  pub runs : Runs width reading ws st f

-- what holds before the word at i
pub record Turn (m₀ m : Meaning) (reading : Reading) (words vs : List ℕ) (i : ℕ) : Type 0 where
  pub kept : Kept m₀ m
  pub ordered : m.ordered ≡ true
  pub room : m₀.room ≤ m.room + i
  pub no_more : m.room ≤ m₀.room
  pub leads : (f : Formula) → Runs m₀.width reading words [] f → length words ≤ m₀.room → Leads m₀.width m reading (drop i words) vs f

module _ (m₀ m : Meaning) (reading : Reading) (words vs : List ℕ) (i : ℕ) (t : Turn m₀ m reading words vs i) (lt : i < length words) where
  -- the word at i is ready
  next : (f : Formula) → Runs m₀.width reading words [] f → length words ≤ m₀.room → Leads m₀.width m reading (get_or words i 0 ∷ drop (i + 1) words) vs f
  next f r h = subst (λ ws. Leads m₀.width m reading ws vs f) (drop_more words i 0 lt) (t.leads f r h)

  ready : (f : Formula) (l : Leads m₀.width m reading (get_or words i 0 ∷ drop (i + 1) words) vs f) → Ready m.width (word_making reading (get_or words i 0)) l.st
  ready f l = subst (λ n. Ready n (word_making reading (get_or words i 0)) l.st) (sym t.kept.width) l.runs.0

  pub not_refused : ((st : List Formula) → Stands m vs st → Ready m.width (word_making reading (get_or words i 0)) st → 0 < m.room → ⊥) → (f : Formula) → Runs m₀.width reading words [] f → length words ≤ m₀.room → ⊥
  not_refused a f r h = let l = next f r h in a l.st l.stands (ready f l) (omega (arith, t.room))

  pub again : (m' : Meaning) (vs' : List ℕ) → Moved m m' (word_making reading (get_or words i 0)) vs vs' → Turn m₀ m' reading words vs' (i + 1)
  again m' vs' moved = record {
    kept = kept_on m₀ m m' t.kept moved.kept;
    ordered = moved.kept.ordered t.ordered;
    room = omega (arith, t.room, moved.room);
    no_more = omega (arith, t.no_more, moved.no_more);
    leads = λ f r h.
        let l = next f r h in
        record { st = after (word_making reading (get_or words i 0)) l.st; stands = moved.stands l.st l.stands (ready f l); runs = l.runs.1 };
  }

one_stands : (m : Meaning) (vs : List ℕ) (f : Formula) → Stands m vs (f ∷ []) → Good m (newest 0 vs) f
one_stands m [] f s = absurd s
one_stands m (v ∷ vs) f s = s.0

pub worked : (m₀ m : Meaning) (reading : Reading) (words vs : List ℕ) (i : ℕ) → Turn m₀ m reading words vs i → length words ≤ i → i ≤ length words → (f : Formula) → Runs m₀.width reading words [] f → length words ≤ m₀.room → Worked m₀ m (length words) f (newest 0 vs)
worked m₀ m reading words vs i t over up f r h =
    let l : Leads m₀.width m reading [] vs f = subst (λ ws. Leads m₀.width m reading ws vs f) (drop_all i words over) (t.leads f r h) in
    record {
      kept = t.kept;
      good = one_stands m vs f (subst (λ st. Stands m vs st) l.runs l.stands);
      room = omega (arith, t.room);
      no_more = t.no_more;
    }
