-- What one more variable adds to a list.
-- Assumes nothing.
use Rattle.std.proofs.Common.{◌≡◌, ℕ, suc, ◌+◌, List, [], ◌∷◌, ◌++◌, codes, refl, ap, sym, ◌∙◌, arith}
use Rattle.telling.specs.Texts.{between, one_more, listed}

-- nothing is listed at first
pub listed_none : (text : ℕ → List ℕ) → listed text 0 ≡ []
unfolding listed
listed_none text = refl

listed_next : (text : ℕ → List ℕ) (v : ℕ) → listed text (v + 1) ≡ one_more (listed text v) (text v)
unfolding listed
listed_next text v = let next : v + 1 ≡ suc v = omega arith in ap (listed text) next

-- a variable without a text adds nothing
pub listed_same : (text : ℕ → List ℕ) (v : ℕ) → text v ≡ [] → listed text (v + 1) ≡ listed text v
listed_same text v e = listed_next text v ∙ ap (one_more (listed text v)) e

-- a variable with a text adds it, behind a space if the list has begun
pub listed_more : (text : ℕ → List ℕ) (v c : ℕ) (mark cs : List ℕ) → text v ≡ mark ++ (c ∷ cs) → listed text v ++ (between (listed text v) ++ (mark ++ (c ∷ cs))) ≡ listed text (v + 1)
listed_more text v c mark cs e = sym (listed_next text v ∙ ap (one_more (listed text v)) e ∙ some mark)
  where
    some : (mark : List ℕ) → one_more (listed text v) (mark ++ (c ∷ cs)) ≡ listed text v ++ (between (listed text v) ++ (mark ++ (c ∷ cs)))
    some [] = refl
    some (m ∷ ms) = refl

-- then the list has begun
pub begun : (text : ℕ → List ℕ) (v c : ℕ) (mark cs : List ℕ) → text v ≡ mark ++ (c ∷ cs) → between (listed text (v + 1)) ≡ codes " "
begun text v c mark cs e = ap between (sym (listed_more text v c mark cs e)) ∙ some (listed text v) (between (listed text v)) mark
  where
    some : (xs ys zs : List ℕ) → between (xs ++ (ys ++ (zs ++ (c ∷ cs)))) ≡ codes " "
    some (x ∷ xs) ys zs = refl
    some [] (y ∷ ys) zs = refl
    some [] [] (z ∷ zs) = refl
    some [] [] [] = refl
