-- Sets of variables as numbers: what an effect sets and clears, where it clashes, and the state after it.
use Rattle.std.proofs.Common.{◌≡◌, ℕ, zero, suc, ◌-◌, ◌^◌, ◌<◌, ◌≤◌, Bool, true, false, cond, not, ◌&&◌, ◌||◌, eqb, ◌⊎◌, ◌↔◌, sym, refl, ap, ◌∙◌, subst, ap₂, inl, inr, lt_of_lt_of_le, arith, pow_mono}
use lib.Bits.{bit_and, bit_or, and_lt, or_lt}
use lib.Pow.{ones_sub-lt, pow-lt}
use Rattle.std.proofs.lemmas.Bool.{both_ways, not-true, not_from_false, and_parts, and_from, cases_eq, cases_lt, ne_eqb, eq-eqb}
use Rattle.planning.specs.Tree.{bit, Formula, Effect, NIL, SET, CLEAR, BOTH, WHEN}
use Rattle.planning.specs.Truth.{truth}
use Rattle.planning.specs.ChangeSet.{is, isnt, makes}
use Rattle.planning.specs.Steps.{clash, clash_free, gather, after, result, FirstClash, set_mask, clear_mask, masked}
use Rattle.planning.specs.Changes.{Smallest}
use Rattle.planning.proofs.Bits.{bit_above, bit_none, bit_power, bit_power_other, bit_gather, bit_of_and, bit_of_or, bit_not, bits_same, gather_below, gather_none, gather_same, gather_and, gather_or}

-- one atomic effect
one_variable : (n v : ℕ) → v < n → gather n (λ w. eqb v w) ≡ 2 ^ v
one_variable n v h = bits_same n (gather n (λ w. eqb v w)) (2 ^ v) (gather_below n (λ w. eqb v w)) (pow-lt h) (λ w l. bit_gather n (λ w. eqb v w) w l ∙ go w (cases_eq v w))
  where
    go : (w : ℕ) → (v ≡ w) ⊎ (v ≡ w → ⊥) → eqb v w ≡ bit (2 ^ v) w
    go w (inl e) = eq-eqb v w e ∙ sym (subst (λ x. bit (2 ^ v) x ≡ true) e (bit_power v))
    go w (inr d) = ne_eqb v w d ∙ sym (bit_power_other v w d)

pub set_mask_set : (n v s : ℕ) → v < n → set_mask n (SET v) s ≡ 2 ^ v
set_mask_set n v s h = one_variable n v h

pub clear_mask_clear : (n v s : ℕ) → v < n → clear_mask n (CLEAR v) s ≡ 2 ^ v
clear_mask_clear n v s h = one_variable n v h

-- effects that set or clear nothing
pub set_mask_nil : (n s : ℕ) → set_mask n NIL s ≡ 0
set_mask_nil n s = gather_none n (λ v. false) (λ v l. refl)

pub clear_mask_nil : (n s : ℕ) → clear_mask n NIL s ≡ 0
clear_mask_nil n s = gather_none n (λ v. false) (λ v l. refl)

pub set_mask_clear : (n v s : ℕ) → set_mask n (CLEAR v) s ≡ 0
set_mask_clear n v s = gather_none n (λ w. false) (λ w l. refl)

pub clear_mask_set : (n v s : ℕ) → clear_mask n (SET v) s ≡ 0
clear_mask_set n v s = gather_none n (λ w. false) (λ w l. refl)

-- both effects
pub set_mask_both : (n : ℕ) (d e : Effect) (s : ℕ) → set_mask n (BOTH d e) s ≡ bit_or (set_mask n d s) (set_mask n e s)
set_mask_both n d e s = sym (gather_or n (λ v. makes s d (is v)) (λ v. makes s e (is v)))

pub clear_mask_both : (n : ℕ) (d e : Effect) (s : ℕ) → clear_mask n (BOTH d e) s ≡ bit_or (clear_mask n d s) (clear_mask n e s)
clear_mask_both n d e s = sym (gather_or n (λ v. makes s d (isnt v)) (λ v. makes s e (isnt v)))

-- a conditional effect
gather_when : (n : ℕ) (b : Bool) (P : ℕ → Bool) → gather n (λ v. b && P v) ≡ cond b (gather n P) 0
gather_when n true P = refl
gather_when n false P = gather_none n (λ v. false) (λ v l. refl)

pub set_mask_when : (n : ℕ) (c : Formula) (e : Effect) (s : ℕ) → set_mask n (WHEN c e) s ≡ cond (truth s c) (set_mask n e s) 0
set_mask_when n c e s = gather_when n (truth s c) (λ v. makes s e (is v))

pub clear_mask_when : (n : ℕ) (c : Formula) (e : Effect) (s : ℕ) → clear_mask n (WHEN c e) s ≡ cond (truth s c) (clear_mask n e s) 0
clear_mask_when n c e s = gather_when n (truth s c) (λ v. makes s e (isnt v))

-- the clashing variables are those of both masks
pub clash_mask : (n : ℕ) (e : Effect) (s : ℕ) → bit_and (set_mask n e s) (clear_mask n e s) ≡ gather n (clash s e)
clash_mask n e s = gather_and n (λ v. makes s e (is v)) (λ v. makes s e (isnt v))

free_each : (n : ℕ) (e : Effect) (s : ℕ) → clash_free n e s ≡ true → (v : ℕ) → v < n → clash s e v ≡ false
unfolding clash_free
free_each zero e s h v l = absurd (omega arith)
free_each (suc n) e s h v l = go (free_each n e s (and_parts (not (clash s e n)) (clash_free n e s) h).1 v) (cases_eq v n)
  where
    go : (v < n → clash s e v ≡ false) → (v ≡ n) ⊎ (v ≡ n → ⊥) → clash s e v ≡ false
    go before (inl e2) = subst (λ w. clash s e w ≡ false) (sym e2) (not-true (clash s e n) (and_parts (not (clash s e n)) (clash_free n e s) h).0)
    go before (inr d) = before (omega arith)

each_free : (n : ℕ) (e : Effect) (s : ℕ) → ((v : ℕ) → v < n → clash s e v ≡ false) → clash_free n e s ≡ true
unfolding clash_free
each_free zero e s h = refl
each_free (suc n) e s h = and_from (not (clash s e n)) (clash_free n e s) (not_from_false (clash s e n) (h n (omega arith))) (each_free n e s (λ v l. h v (omega arith)))

pub clash_mask_none : (n : ℕ) (e : Effect) (s : ℕ) → (bit_and (set_mask n e s) (clear_mask n e s) ≡ 0) ↔ (clash_free n e s ≡ true)
clash_mask_none n e s = (
  (λ z. each_free n e s (λ v l. sym (bit_gather n (clash s e) v l) ∙ ap (λ x. bit x v) (sym (clash_mask n e s) ∙ z) ∙ bit_none v)),
  (λ h. clash_mask n e s ∙ gather_none n (clash s e) (free_each n e s h)),
)

pub clash_mask_first : (n : ℕ) (e : Effect) (s v : ℕ) → Smallest (bit_and (set_mask n e s) (clear_mask n e s)) v ↔ FirstClash n e s v
clash_mask_first n e s v = (
  (λ m. first_clash (subst (λ x. Smallest x v) (clash_mask n e s) m)),
  (λ f. subst (λ x. Smallest x v) (sym (clash_mask n e s)) record {
    holds = bit_gather n (clash s e) v f.below ∙ f.clashes;
    first = λ w l. bit_gather n (clash s e) w (omega (arith, f.below)) ∙ f.first w l;
  }),
)
  where
    inside : bit (gather n (clash s e)) v ≡ true → (v < n) ⊎ (n ≤ v) → v < n
    inside h (inl l) = l
    inside h (inr l) = absurd (both_ways (bit (gather n (clash s e)) v) (bit_above (gather n (clash s e)) n v (gather_below n (clash s e)) l) h)

    first_clash : Smallest (gather n (clash s e)) v → FirstClash n e s v
    first_clash m =
        let l : v < n = inside m.holds (cases_lt v n) in
        record {
          below = l;
          clashes = sym (bit_gather n (clash s e) v l) ∙ m.holds;
          first = λ w k. sym (bit_gather n (clash s e) w (omega arith)) ∙ m.first w k;
        }

-- the state after a step, from its masks
pub result_masked : (n : ℕ) (e : Effect) (s : ℕ) → masked n s (set_mask n e s) (clear_mask n e s) ≡ result n e s
result_masked n e s =
    gather_same n (λ v. bit (set_mask n e s) v || (bit s v && not (bit (clear_mask n e s) v))) (after e s)
    (λ v l. ap₂ (λ p q. p || (bit s v && not q)) (bit_gather n (λ w. makes s e (is w)) v l) (bit_gather n (λ w. makes s e (isnt w)) v l))

-- and by the bit operations
pub masked_bits : (n s set clear : ℕ) → s < 2 ^ n → set < 2 ^ n → clear < 2 ^ n → bit_or set (bit_and s (2 ^ n - 1 - clear)) ≡ masked n s set clear
masked_bits n s set clear h k l =
    bits_same n (bit_or set (bit_and s (2 ^ n - 1 - clear))) (masked n s set clear)
    (or_lt n set (bit_and s (2 ^ n - 1 - clear)) k (and_lt n s (2 ^ n - 1 - clear) h (ones_sub-lt n clear)))
    (gather_below n (λ v. bit set v || (bit s v && not (bit clear v))))
    (λ v m.
    bit_of_or set (bit_and s (2 ^ n - 1 - clear)) v
    ∙ ap (λ b. bit set v || b) (bit_of_and s (2 ^ n - 1 - clear) v ∙ ap (λ b. bit s v && b) (bit_not n clear v l m))
    ∙ sym (bit_gather n (λ w. bit set w || (bit s w && not (bit clear w))) v m))

pub masked_wider : (n m s set clear : ℕ) → n ≤ m → s < 2 ^ n → set < 2 ^ n → masked m s set clear ≡ masked n s set clear
masked_wider n m s set clear l h k =
    let p : 2 ^ n ≤ 2 ^ m = pow_mono l in
    bits_same m (masked m s set clear) (masked n s set clear) (gather_below m value) (lt_of_lt_of_le (gather_below n value) p)
    (λ v i. bit_gather m value v i ∙ go v (cases_lt v n))
  where
    value : ℕ → Bool
    value v = bit set v || (bit s v && not (bit clear v))

    go : (v : ℕ) → (v < n) ⊎ (n ≤ v) → value v ≡ bit (masked n s set clear) v
    go v (inl i) = sym (bit_gather n value v i)
    go v (inr i) =
        ap₂ (λ p q. p || (q && not (bit clear v))) (bit_above set n v k i) (bit_above s n v h i)
        ∙ sym (bit_above (masked n s set clear) n v (gather_below n value) i)
