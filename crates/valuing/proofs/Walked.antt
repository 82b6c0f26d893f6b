-- One word of an effect, over the changes that wait.
use Rattle.std.proofs.Common.{◌≡◌, ℕ, suc, ◌^◌, ◌<◌, ◌≤◌, Bool, true, false, cond, eqb, ltb, List, [], ◌∷◌, length, Ok, Err, Result, sym, refl, ap, ◌∙◌, subst, ap₂, arith}
use lib.Bits.{bit_or}
use Rattle.std.proofs.lemmas.Bool.{cond-true, lt-ltb}
use Rattle.words.specs.declared.fault.Fault.{Fault}
use Rattle.planning.specs.Tree.{Formula, Effect, NIL, SET, CLEAR, BOTH, WHEN}
use Rattle.planning.specs.Truth.{truth}
use Rattle.planning.specs.Steps.{set_mask, clear_mask}
use Rattle.planning.proofs.Masking.{set_mask_nil, clear_mask_nil, set_mask_set, clear_mask_set, set_mask_clear, clear_mask_clear, set_mask_both, clear_mask_both, set_mask_when, clear_mask_when}
use Rattle.planning.specs.declared.change.Change.{Change}
use Rattle.valuing.specs.declared.change.Doing.{Doing}
use Rattle.valuing.specs.declared.change.Doing.TheVariants.{Nothing, Sets, Clears, Joins, Guards, Condition}
use Rattle.valuing.specs.declared.making.Making.{Making}
use Rattle.valuing.specs.Makings.{after}
use Rattle.valuing.specs.Meaning.{state_meaning}
use Rattle.waiting.specs.Waits.{put_on, newest, older}
use Rattle.valuing.specs.Working.{Stands, MakingAnswer}
use Rattle.planning.specs.Changes.{mask_of}
use Rattle.valuing.specs.Changing.{change_in, EffectReady, formulas_after, effects_after, ChangesStand, Waits, WalkAnswer}
use Rattle.waiting.proofs.Stack.{put_room}

abbrev pub none : Change
none = record { set = 0; clear = 0 }

-- the newest of what waits, whatever would stand for it if none did
pub newest_of : (x missing : Change) (cs us : List Change) → missing ≡ none → x ≡ newest missing cs → cs ≡ us → x ≡ newest none us
newest_of x missing cs us e p q = p ∙ ap₂ (λ (m : Change) (xs : List Change). newest m xs) e q

changes_length : (n s : ℕ) (cs : List Change) (es : List Effect) → ChangesStand n s cs es → length cs ≡ length es
changes_length n s [] [] h = refl
changes_length n s [] (e ∷ es) h = absurd h
changes_length n s (c ∷ cs) [] h = absurd h
changes_length n s (c ∷ cs) (e ∷ es) h = ap suc (changes_length n s cs es h.1)

put_stands : (n s : ℕ) (c : Change) (e : Effect) (cs : List Change) (es : List Effect) → c ≡ change_in n s e → length es < 64 → ChangesStand n s cs es → ChangesStand n s (put_on cs c) (e ∷ es)
put_stands n s c e cs es is h w = subst (λ xs. ChangesStand n s xs (e ∷ es)) (sym (put_room cs c (omega (arith, changes_length n s cs es w)))) (is, w)

-- a word that was walked over
abbrev pub Walked : (n s : ℕ) → Doing → (vs vs' : List ℕ) (cs cs' : List Change) → Type 0
Walked n s doing vs vs' cs cs' = (st : List Formula) (es : List Effect) → Waits n s vs cs st es → EffectReady n doing st es → Waits n s vs' cs' (formulas_after doing st) (effects_after doing st es)

pair : (a b x y : ℕ) → a ≡ x → b ≡ y → ◌≡◌ {A = Change} (record { set = a; clear = b }) (record { set = x; clear = y })
pair a b x y p q = ap₂ (λ (i : ℕ) (j : ℕ). record { set = i; clear = j }) p q

pub none_is : (n s : ℕ) → none ≡ change_in n s NIL
none_is n s = pair 0 0 (set_mask n NIL s) (clear_mask n NIL s) (sym (set_mask_nil n s)) (sym (clear_mask_nil n s))

mask_is : (n v : ℕ) → v < n → n ≤ 64 → mask_of v ≡ 2 ^ v
mask_is n v h k = cond-true (ltb v 64) (2 ^ v) 0 (lt-ltb v 64 (omega arith))

module _ (n s : ℕ) (vs : List ℕ) (cs cs' : List Change) (c : Change) (put : cs' ≡ put_on cs c) where
  pub walked_nothing : c ≡ none → Walked n s Nothing vs vs cs cs'
  walked_nothing is st es w h = record { values = w.values; changes = subst (λ xs. ChangesStand n s xs (NIL ∷ es)) (sym put) (put_stands n s c NIL cs es (is ∙ none_is n s) h w.changes) }

  pub walked_sets : (v : ℕ) → n ≤ 64 → c ≡ record { set = mask_of v; clear = 0 } → Walked n s (Sets v) vs vs cs cs'
  walked_sets v k is st es w h =
      let e : c ≡ change_in n s (SET v) = is ∙ pair (mask_of v) 0 (set_mask n (SET v) s) (clear_mask n (SET v) s) (mask_is n v h.1 k ∙ sym (set_mask_set n v s h.1)) (sym (clear_mask_set n v s)) in
      record { values = w.values; changes = subst (λ xs. ChangesStand n s xs (SET v ∷ es)) (sym put) (put_stands n s c (SET v) cs es e h.0 w.changes) }

  pub walked_clears : (v : ℕ) → n ≤ 64 → c ≡ record { set = 0; clear = mask_of v } → Walked n s (Clears v) vs vs cs cs'
  walked_clears v k is st es w h =
      let e : c ≡ change_in n s (CLEAR v) = is ∙ pair 0 (mask_of v) (set_mask n (CLEAR v) s) (clear_mask n (CLEAR v) s) (sym (set_mask_clear n v s)) (mask_is n v h.1 k ∙ sym (clear_mask_clear n v s h.1)) in
      record { values = w.values; changes = subst (λ xs. ChangesStand n s xs (CLEAR v ∷ es)) (sym put) (put_stands n s c (CLEAR v) cs es e h.0 w.changes) }

-- two changes that wait are joined
joined_stands : (n s : ℕ) (c first second : Change) (us ws : List Change) (es : List Effect) → c ≡ record { set = bit_or first.set second.set; clear = bit_or first.clear second.clear }
    → second ≡ newest none ws → first ≡ newest none (older ws) → us ≡ older (older ws) → length ws ≤ 64 → ChangesStand n s ws es → 2 ≤ length es → ChangesStand n s (put_on us c) (effects_after Joins [] es)
joined_stands n s c first second us [] [] is b a o l w h = absurd (omega arith)
joined_stands n s c first second us [] (e ∷ es) is b a o l w h = absurd w
joined_stands n s c first second us (x ∷ ws) [] is b a o l w h = absurd w
joined_stands n s c first second us (x ∷ []) (e ∷ []) is b a o l w h = absurd (omega arith)
joined_stands n s c first second us (x ∷ []) (e ∷ d ∷ es) is b a o l w h = absurd w.1
joined_stands n s c first second us (x ∷ y ∷ ws) (e ∷ []) is b a o l w h = absurd w.1
joined_stands n s c first second us (x ∷ y ∷ ws) (e ∷ d ∷ es) is b a o l w h =
    let p : second ≡ change_in n s e = b ∙ w.0 in
    let q : first ≡ change_in n s d = a ∙ w.1.0 in
    let sets : bit_or first.set second.set ≡ set_mask n (BOTH d e) s = ap₂ bit_or (ap (λ (z : Change). z.set) q) (ap (λ (z : Change). z.set) p) ∙ sym (set_mask_both n d e s) in
    let clears : bit_or first.clear second.clear ≡ clear_mask n (BOTH d e) s = ap₂ bit_or (ap (λ (z : Change). z.clear) q) (ap (λ (z : Change). z.clear) p) ∙ sym (clear_mask_both n d e s) in
    put_stands n s c (BOTH d e) us es (is ∙ pair _ _ (set_mask n (BOTH d e) s) (clear_mask n (BOTH d e) s) sets clears) (omega (arith, changes_length n s ws es w.1.1)) (subst (λ xs. ChangesStand n s xs es) (sym o) w.1.1)

pub walked_joins : (n s : ℕ) (vs : List ℕ) (cs cs' us : List Change) (c first second : Change) → c ≡ record { set = bit_or first.set second.set; clear = bit_or first.clear second.clear }
    → second ≡ newest none cs → first ≡ newest none (older cs) → us ≡ older (older cs) → length cs ≤ 64 → cs' ≡ put_on us c → Walked n s Joins vs vs cs cs'
walked_joins n s vs cs cs' us c first second is b a o l put st es w h =
    record { values = w.values; changes = subst (λ xs. ChangesStand n s xs (effects_after Joins [] es)) (sym put) (joined_stands n s c first second us cs es is b a o l w.changes h) }

cond_change : (n s : ℕ) (b : Bool) (c : Formula) (e : Effect) (x : Change) → b ≡ truth s c → x ≡ change_in n s e → cond b x none ≡ change_in n s (WHEN c e)
cond_change n s b c e x p q = ap₂ (λ t (y : Change). cond t y none) p q ∙ by (truth s c) (set_mask_when n c e s) (clear_mask_when n c e s)
  where
    by : (t : Bool) → set_mask n (WHEN c e) s ≡ cond t (set_mask n e s) 0 → clear_mask n (WHEN c e) s ≡ cond t (clear_mask n e s) 0 → cond t (change_in n s e) none ≡ change_in n s (WHEN c e)
    by true i j = pair (set_mask n e s) (clear_mask n e s) (set_mask n (WHEN c e) s) (clear_mask n (WHEN c e) s) (sym i) (sym j)
    by false i j = pair 0 0 (set_mask n (WHEN c e) s) (clear_mask n (WHEN c e) s) (sym i) (sym j)

-- the newest change waits under the newest condition
guarded : (n s : ℕ) (b : Bool) (v : ℕ) (x y : Change) (us : List Change) (ts vs : List ℕ) (ws : List Change) (st : List Formula) (es : List Effect) → b ≡ eqb v 1 → y ≡ cond b x none → x ≡ newest none ws → us ≡ older ws
    → v ≡ newest 0 vs → ts ≡ older vs → length ws ≤ 64 → Waits n s vs ws st es → (1 ≤ length st) × (1 ≤ length es) → Waits n s ts (put_on us y) (formulas_after Guards st) (effects_after Guards st es)
guarded n s b v x y us ts [] ws [] es t is p o q r l w h = absurd (omega (arith, h.0))
guarded n s b v x y us ts [] ws (c ∷ st) es t is p o q r l w h = absurd w.values
guarded n s b v x y us ts (z ∷ vs) ws [] es t is p o q r l w h = absurd w.values
guarded n s b v x y us ts (z ∷ vs) [] (c ∷ st) [] t is p o q r l w h = absurd (omega (arith, h.1))
guarded n s b v x y us ts (z ∷ vs) [] (c ∷ st) (e ∷ es) t is p o q r l w h = absurd w.changes
guarded n s b v x y us ts (z ∷ vs) (k ∷ ws) (c ∷ st) [] t is p o q r l w h = absurd w.changes
guarded n s b v x y us ts (z ∷ vs) (k ∷ ws) (c ∷ st) (e ∷ es) t is p o q r l w h =
    let holds : b ≡ truth s c = t ∙ ap (λ i. eqb i 1) q ∙ w.values.0.means 0 refl in
    record {
      values = subst (λ xs. Stands (state_meaning n s) xs st) (sym r) w.values.1;
      changes = put_stands n s y (WHEN c e) us es (is ∙ cond_change n s b c e x holds (p ∙ w.changes.0)) (omega (arith, changes_length n s ws es w.changes.1)) (subst (λ xs. ChangesStand n s xs es) (sym o) w.changes.1);
    }

pub walked_guards : (n s : ℕ) (vs ts : List ℕ) (cs cs' us : List Change) (b : Bool) (v : ℕ) (x y : Change) → b ≡ eqb v 1 → y ≡ cond b x none → x ≡ newest none cs → us ≡ older cs
    → v ≡ newest 0 vs → ts ≡ older vs → length cs ≤ 64 → cs' ≡ put_on us y → Walked n s Guards vs ts cs cs'
walked_guards n s vs ts cs cs' us b v x y t is p o q r l put st es w h =
    subst (λ xs. Waits n s ts xs (formulas_after Guards st) (effects_after Guards st es)) (sym put) (guarded n s b v x y us ts vs cs st es t is p o q r l w h)

-- a word of a condition
pub walked_condition : (n s n' s' : ℕ) (making : Making) (vs vs' : List ℕ) (cs : List Change) (r : Result (Unit {0}) Fault) → MakingAnswer (state_meaning n s) (state_meaning n' s') making vs vs' r → WalkAnswer n s (Condition making) vs vs' cs cs r
walked_condition n s n' s' making vs vs' cs (Ok _) moved = λ st es w h.
    let m = moved.stands st w.values h in
    record {
      values = subst (λ i. Stands (state_meaning i s) vs' (after making st)) moved.kept.width (subst (λ j. Stands (state_meaning n' j) vs' (after making st)) (moved.kept.state 0) m);
      changes = w.changes;
    }
walked_condition n s n' s' making vs vs' cs (Err e) a = λ st es w h. a st w.values h (omega arith)
