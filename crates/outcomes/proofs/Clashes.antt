-- The first variable that an effect sets and clears together.
-- Assumes nothing.
use Rattle.std.proofs.Common.{◌≡◌, ℕ, zero, suc, ◌+◌, ◌<◌, ◌≤◌, true, false, cond, ◌⊎◌, sym, ◌∙◌, subst, inl, inr, arith}
use Rattle.std.proofs.lemmas.Bool.{both_ways, cases_Bool, cases_eq, cond-true, cond-false}
use Rattle.planning.specs.Tree.{Effect}
use Rattle.planning.specs.Steps.{clash, clash_free, FirstClash}
use Rattle.planning.proofs.Bits.{gather_none}
use Rattle.planning.proofs.Masking.{clash_mask, clash_mask_none}
use Rattle.outcomes.specs.Runs.{first_clash_from, first_clash}

-- the search from v on stops at w, the first one that clashes
search_stops : (e : Effect) (s v k w : ℕ) → v ≤ w → w < v + k → clash s e w ≡ true → ((x : ℕ) → x < w → clash s e x ≡ false) → first_clash_from e s v k ≡ w
unfolding first_clash_from
search_stops e s v zero w l m h first = absurd (omega arith)
search_stops e s v (suc k) w l m h first = go (cases_eq v w) (λ d. search_stops e s (v + 1) k w (omega arith) (omega arith) h first)
  where
    go : (v ≡ w) ⊎ (v ≡ w → ⊥) → ((v ≡ w → ⊥) → first_clash_from e s (v + 1) k ≡ w) → cond (clash s e v) v (first_clash_from e s (v + 1) k) ≡ w
    go (inl same) later = cond-true (clash s e v) v (first_clash_from e s (v + 1) k) (subst (λ x. clash s e x ≡ true) (sym same) h) ∙ same
    go (inr other) later = cond-false (clash s e v) v (first_clash_from e s (v + 1) k) (first v (omega arith)) ∙ later other

pub first_clash_is : (n : ℕ) (e : Effect) (s v : ℕ) → FirstClash n e s v → first_clash n e s ≡ v
first_clash_is n e s v f = search_stops e s 0 n v (omega arith) (let l = f.below in omega arith) f.clashes f.first

-- the search finds the first one, or none of the variables clashes
search_finds : (m : ℕ) (e : Effect) (s v k : ℕ) → v + k ≡ m → ((x : ℕ) → x < v → clash s e x ≡ false)
    → FirstClash m e s (first_clash_from e s v k) ⊎ ((x : ℕ) → x < m → clash s e x ≡ false)
unfolding first_clash_from
search_finds m e s v zero l before = inr (λ x h. before x (omega arith))
search_finds m e s v (suc k) l before = go (cases_Bool (clash s e v)) (λ h. search_finds m e s (v + 1) k (omega arith) (further h))
  where
    further : clash s e v ≡ false → (x : ℕ) → x < v + 1 → clash s e x ≡ false
    further h x b = pick (cases_eq x v)
      where
        pick : (x ≡ v) ⊎ (x ≡ v → ⊥) → clash s e x ≡ false
        pick (inl same) = subst (λ y. clash s e y ≡ false) (sym same) h
        pick (inr other) = before x (omega arith)

    go : (clash s e v ≡ true) ⊎ (clash s e v ≡ false)
        → (clash s e v ≡ false → FirstClash m e s (first_clash_from e s (v + 1) k) ⊎ ((x : ℕ) → x < m → clash s e x ≡ false))
        → FirstClash m e s (cond (clash s e v) v (first_clash_from e s (v + 1) k)) ⊎ ((x : ℕ) → x < m → clash s e x ≡ false)
    go (inl h) later = rw h (inl (record { below = omega arith; clashes = h; first = before }))
    go (inr h) later = rw h (later h)

none_clashes : (n : ℕ) (e : Effect) (s : ℕ) → ((x : ℕ) → x < n → clash s e x ≡ false) → clash_free n e s ≡ true
none_clashes n e s h = (clash_mask_none n e s).0 (clash_mask n e s ∙ gather_none n (clash s e) h)

pub first_clash_found : (n : ℕ) (e : Effect) (s : ℕ) → clash_free n e s ≡ false → FirstClash n e s (first_clash n e s)
first_clash_found n e s h = go (search_finds n e s 0 n (omega arith) (λ x l. absurd (omega arith)))
  where
    go : FirstClash n e s (first_clash n e s) ⊎ ((x : ℕ) → x < n → clash s e x ≡ false) → FirstClash n e s (first_clash n e s)
    go (inl f) = f
    go (inr none) = absurd (both_ways (clash_free n e s) h (none_clashes n e s none))
