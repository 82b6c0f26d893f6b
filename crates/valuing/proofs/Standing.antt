-- Values that stand for formulas: kept by makings, and one more after each word.
use Rattle.std.proofs.Common.{◌≡◌, ℕ, suc, ◌<◌, ◌≤◌, Bool, true, false, not, ◌&&◌, ◌||◌, List, [], ◌∷◌, length, sym, refl, ap, ◌∙◌, subst, ap₂, arith}
use Rattle.planning.specs.Tree.{Formula, TRUE, FALSE, VAR, NOT, AND, OR, bit}
use Rattle.planning.specs.Truth.{truth}
use Rattle.valuing.specs.declared.making.Making.{Making}
use Rattle.valuing.specs.declared.making.Making.TheVariants.{True, False, Variable, Not, And, Or}
use Rattle.valuing.specs.Makings.{after}
use Rattle.valuing.specs.Meaning.{Meaning, Kept, Made}
use Rattle.waiting.specs.Waits.{put_on, newest, older}
use Rattle.valuing.specs.Working.{Good, Stands, Moved}
use Rattle.waiting.proofs.Stack.{put_room}

pub kept_on : (m m' m'' : Meaning) → Kept m m' → Kept m' m'' → Kept m m''
kept_on m m' m'' a b = record {
  width = b.width ∙ a.width;
  world = λ w. b.world w ∙ a.world w;
  state = λ w. b.state w ∙ a.state w;
  known = λ v h. b.known v (a.known v h);
  truth = λ v w h k. b.truth v w (a.known v h) (a.world w ∙ k) ∙ a.truth v w h k;
  capacity = b.capacity ∙ a.capacity;
  weight = λ v h. b.weight v (a.known v h) ∙ a.weight v h;
  count = omega (arith, a.count, b.count);
  ordered = λ h. b.ordered (a.ordered h);
}

pub stands_length : (m : Meaning) (vs : List ℕ) (st : List Formula) → Stands m vs st → length vs ≡ length st
stands_length m [] [] s = refl
stands_length m [] (f ∷ st) s = absurd s
stands_length m (v ∷ vs) [] s = absurd s
stands_length m (v ∷ vs) (f ∷ st) s = ap suc (stands_length m vs st s.1)

pub good_kept : (m m' : Meaning) (v : ℕ) (f : Formula) → Kept m m' → Good m v f → Good m' v f
good_kept m m' v f k g = record {
  known = k.known v g.known;
  means = λ w h.
      let h₀ : m.world w ≡ true = sym (k.world w) ∙ h in
      k.truth v w g.known h₀ ∙ g.means w h₀ ∙ ap (λ s. truth s f) (sym (k.state w));
}

pub stands_kept : (m m' : Meaning) (vs : List ℕ) (st : List Formula) → Kept m m' → Stands m vs st → Stands m' vs st
stands_kept m m' [] [] k s = tt
stands_kept m m' [] (f ∷ st) k s = absurd s
stands_kept m m' (v ∷ vs) [] k s = absurd s
stands_kept m m' (v ∷ vs) (f ∷ st) k s = (good_kept m m' v f k s.0, stands_kept m m' vs st k s.1)

module _ (m m' : Meaning) (P : ℕ → Bool) (x : ℕ) (made : Made m m' P x) where
  -- a value that was made stands for f where P is the truth of f
  made_good : (f : Formula) → ((w : ℕ) → m.world w ≡ true → P w ≡ truth (m.state w) f) → Good m' x f
  made_good f same = record {
    known = made.known;
    means = λ w h.
        let h₀ : m.world w ≡ true = sym (made.kept.world w) ∙ h in
        made.truth w h₀ ∙ same w h₀ ∙ ap (λ s. truth s f) (sym (made.kept.state w));
  }

  -- put on what waits
  put_stands : (f : Formula) (vs : List ℕ) (st : List Formula) → ((w : ℕ) → m.world w ≡ true → P w ≡ truth (m.state w) f) → Stands m vs st → length st < 64 → Stands m' (put_on vs x) (f ∷ st)
  put_stands f vs st same s h =
      let room : length vs < 64 = omega (arith, stands_length m vs st s) in
      subst (λ xs. Stands m' xs (f ∷ st)) (sym (put_room vs x room)) (made_good f same, stands_kept m m' vs st made.kept s)

module _ (m m' : Meaning) (x : ℕ) (vs vs' : List ℕ) where
  pub moved_true : Made m m' (λ _. true) x → vs' ≡ put_on vs x → Moved m m' True vs vs'
  moved_true made e = record {
    kept = made.kept;
    room = made.room;
    no_more = made.no_more;
    stands = λ st s h. subst (λ xs. Stands m' xs (TRUE ∷ st)) (sym e) (put_stands m m' _ x made TRUE vs st (λ w q. refl) s h);
  }

  pub moved_false : Made m m' (λ _. false) x → vs' ≡ put_on vs x → Moved m m' False vs vs'
  moved_false made e = record {
    kept = made.kept;
    room = made.room;
    no_more = made.no_more;
    stands = λ st s h. subst (λ xs. Stands m' xs (FALSE ∷ st)) (sym e) (put_stands m m' _ x made FALSE vs st (λ w q. refl) s h);
  }

  pub moved_variable : (v : ℕ) → Made m m' (λ w. bit (m.state w) v) x → vs' ≡ put_on vs x → Moved m m' (Variable v) vs vs'
  moved_variable v made e = record {
    kept = made.kept;
    room = made.room;
    no_more = made.no_more;
    stands = λ st s h. subst (λ xs. Stands m' xs (VAR v ∷ st)) (sym e) (put_stands m m' _ x made (VAR v) vs st (λ w q. refl) s h.0);
  }

  not_stands : (a : ℕ) (us : List ℕ) → Made m m' (λ w. not (m.truth a w)) x → (ws : List ℕ) (st : List Formula) → a ≡ newest 0 ws → us ≡ older ws → Stands m ws st → 1 ≤ length st → length ws ≤ 64 → Stands m' (put_on us x) (after Not st)
  not_stands a us made [] [] e o s h l = absurd (omega arith)
  not_stands a us made [] (f ∷ st) e o s h l = absurd s
  not_stands a us made (v ∷ ws) [] e o s h l = absurd s
  not_stands a us made (v ∷ ws) (f ∷ st) e o s h l =
      let same : (w : ℕ) → m.world w ≡ true → not (m.truth a w) ≡ truth (m.state w) (NOT f) = λ w q. ap not (ap (λ y. m.truth y w) e ∙ s.0.means w q) in
      put_stands m m' _ x made (NOT f) us st same (subst (λ xs. Stands m xs st) (sym o) s.1) (omega (arith, stands_length m ws st s.1))

  pub moved_not : (a : ℕ) (us : List ℕ) → Made m m' (λ w. not (m.truth a w)) x → a ≡ newest 0 vs → us ≡ older vs → length vs ≤ 64 → vs' ≡ put_on us x → Moved m m' Not vs vs'
  moved_not a us made n o l e = record {
    kept = made.kept;
    room = made.room;
    no_more = made.no_more;
    stands = λ st s h. subst (λ xs. Stands m' xs (after Not st)) (sym e) (not_stands a us made vs st n o s h l);
  }

  -- two operands, the newest first
  two_stands : (making : Making) (op : Formula → Formula → Formula) (F : Bool → Bool → Bool) → ((s : ℕ) (f g : Formula) → F (truth s f) (truth s g) ≡ truth s (op f g))
      → ((f g : Formula) (st : List Formula) → op f g ∷ st ≡ after making (g ∷ f ∷ st))
      → (a b : ℕ) (us : List ℕ) → Made m m' (λ w. F (m.truth a w) (m.truth b w)) x
      → (ws : List ℕ) (st : List Formula) → b ≡ newest 0 ws → a ≡ newest 0 (older ws) → us ≡ older (older ws) → Stands m ws st → 2 ≤ length st → length ws ≤ 64 → Stands m' (put_on us x) (after making st)
  two_stands making op F law gives a b us made [] [] eb ea o s h l = absurd (omega arith)
  two_stands making op F law gives a b us made [] (f ∷ st) eb ea o s h l = absurd s
  two_stands making op F law gives a b us made (v ∷ ws) [] eb ea o s h l = absurd s
  two_stands making op F law gives a b us made (v ∷ []) (g ∷ []) eb ea o s h l = absurd (omega arith)
  two_stands making op F law gives a b us made (v ∷ []) (g ∷ f ∷ st) eb ea o s h l = absurd s.1
  two_stands making op F law gives a b us made (v ∷ u ∷ ws) (g ∷ []) eb ea o s h l = absurd s.1
  two_stands making op F law gives a b us made (v ∷ u ∷ ws) (g ∷ f ∷ st) eb ea o s h l =
      let same : (w : ℕ) → m.world w ≡ true → F (m.truth a w) (m.truth b w) ≡ truth (m.state w) (op f g) = λ w q.
      ap₂ F (ap (λ y. m.truth y w) ea ∙ s.1.0.means w q) (ap (λ y. m.truth y w) eb ∙ s.0.means w q) ∙ law (m.state w) f g in
      subst (λ xs. Stands m' (put_on us x) xs) (gives f g st)
      (put_stands m m' _ x made (op f g) us st same (subst (λ xs. Stands m xs st) (sym o) s.1.1) (omega (arith, stands_length m ws st s.1.1)))

  pub moved_and : (a b : ℕ) (us : List ℕ) → Made m m' (λ w. m.truth a w && m.truth b w) x → b ≡ newest 0 vs → a ≡ newest 0 (older vs) → us ≡ older (older vs) → length vs ≤ 64 → vs' ≡ put_on us x → Moved m m' And vs vs'
  moved_and a b us made eb ea o l e = record {
    kept = made.kept;
    room = made.room;
    no_more = made.no_more;
    stands = λ st s h. subst (λ xs. Stands m' xs (after And st)) (sym e) (two_stands And AND ◌&&◌ (λ t f g. refl) (λ f g xs. refl) a b us made vs st eb ea o s h l);
  }

  pub moved_or : (a b : ℕ) (us : List ℕ) → Made m m' (λ w. m.truth a w || m.truth b w) x → b ≡ newest 0 vs → a ≡ newest 0 (older vs) → us ≡ older (older vs) → length vs ≤ 64 → vs' ≡ put_on us x → Moved m m' Or vs vs'
  moved_or a b us made eb ea o l e = record {
    kept = made.kept;
    room = made.room;
    no_more = made.no_more;
    stands = λ st s h. subst (λ xs. Stands m' xs (after Or st)) (sym e) (two_stands Or OR ◌||◌ (λ t f g. refl) (λ f g xs. refl) a b us made vs st eb ea o s h l);
  }
