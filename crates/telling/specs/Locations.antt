-- Where a word of a task stands.
-- Assumes nothing.
use Rattle.std.specs.Prelude.{◌≡◌, ℕ, ◌+◌, ◌-◌, ◌^◌, ◌<◌, min, cond, List, [], ◌∷◌, ◌++◌, length, take, Some, Option, codes, decimal, ◌==◌, nat_lt}
use Rattle.words.specs.declared.kind.Kind.{Kind}
use Rattle.words.specs.declared.kind.Kind.TheVariants.{Part}
use Rattle.words.specs.Words.{kind_of, load_of}
use Rattle.planning.specs.Tree.{TaskTree}
use Rattle.planning.specs.Render.{formula_words, effect_words, task_words}
use Rattle.tasks.specs.Places.{goal_place, operator_of, precondition_place, effect_place}
use Rattle.telling.specs.declared.location.Spot.{Spot}
use Rattle.telling.specs.Reasons.{part_named, part_name_text}

-- behind a word that stands in no part: a PART begins one
abbrev pub begins_part : Spot → Option Kind → (load : ℕ) → Spot
begins_part spot (Some Part) l = record { parts = min (spot.parts + 1) (2 ^ 32 - 1); left = l }
begins_part spot kind l = spot

-- how many parts begin before the next word, and how many words of the last of them still come
abbrev pub spot_behind : Spot → ℕ → Spot
spot_behind spot w = cond (nat_lt 0 spot.left) (record { parts = spot.parts; left = spot.left - 1 }) (begins_part spot (kind_of w) (load_of w))

abbrev pub spot_after : Spot → (words : List ℕ) → Spot
spot_after spot [] = spot
spot_after spot (w ∷ ws) = spot_after (spot_behind spot w) ws

abbrev pub spot_at : (words : List ℕ) → (place : ℕ) → Spot
spot_at ws place = spot_after (record { parts = 0; left = 0 }) (take place ws)

-- in words: behind the last word, at the HEAD, in a part, before the goal, or where a part begins
abbrev pub spot_text : (many place : ℕ) → Spot → List ℕ
spot_text many place spot =
    cond (nat_lt place many)
    (cond (place == 0) (codes "where the HEAD stands")
    (cond (nat_lt 0 spot.left) (codes "in " ++ part_name_text (part_named (spot.parts - 1)))
    (cond (spot.parts == 0) (codes "among the ON words, or where the goal begins")
    (codes "where " ++ (part_name_text (part_named spot.parts) ++ codes " begins")))))
    (codes "behind the last word")

abbrev pub location_text : (words : List ℕ) → (place : ℕ) → List ℕ
location_text ws place = spot_text (length ws) place (spot_at ws place)

-- each word of a part of a task is told to stand in that part
pub record LocationsTold (t : TaskTree) : Type 0 where
  pub goal : (i : ℕ) → i < length (formula_words t.goal) → location_text (task_words t) (goal_place t + i) ≡ codes "in the goal"
  pub precondition : (k i : ℕ) → k < length t.operators → i < length (formula_words (operator_of t k).precondition)
      → location_text (task_words t) (precondition_place t k + i) ≡ codes "in the precondition of operator " ++ decimal k
  pub effect : (k i : ℕ) → k < length t.operators → i < length (effect_words (operator_of t k).effect)
      → location_text (task_words t) (effect_place t k + i) ≡ codes "in the effect of operator " ++ decimal k
