-- What a caller learns of one more value that waits.
use Rattle.std.proofs.Common.{◌≡◌, ◌<◌, true, cond, ltb, List, ◌∷◌, length, ap, arith}
use Rattle.std.proofs.lemmas.Bool.Decides.{nat_tests}
use Rattle.waiting.specs.Waits.{put_on}

-- with room, a value is put on
pub put_room : {X : Type 0} (xs : List X) (x : X) → length xs < 64 → put_on xs x ≡ x ∷ xs
put_room xs x h = let e : ltb (length xs) 64 ≡ true = grind (arith, nat_tests) in ap (λ b. cond b (x ∷ xs) xs) e
