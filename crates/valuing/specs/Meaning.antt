-- What a valuer means: its worlds, the truth of its values in them, and its room.
-- Assumes nothing.
use Rattle.std.specs.Prelude.{◌≡◌, ℕ, ◌+◌, ◌≤◌, Bool, true, ◌==◌, nat_lt}

-- a valuer works out formulas in several worlds at once, each of which is in a state. A value is a number; a known value is
-- true in some of the worlds. Count, capacity and weight are those of a bank, and unused elsewhere.
pub record Meaning : Type 0 where
  -- the number of variables
  pub width : ℕ
  -- which numbers are worlds, and the state that each world is in
  pub world : ℕ → Bool
  pub state : ℕ → ℕ
  -- which values are known, and the truth of a value in a world
  pub known : ℕ → Bool
  pub truth : ℕ → ℕ → Bool
  -- how many more values can be made for certain
  pub room : ℕ
  -- a bank's number of formulas, how many it can hold, and the weight of each
  pub count : ℕ
  pub capacity : ℕ
  pub weight : ℕ → ℕ
  -- its memory is in order: true when it is new, kept by every call
  pub ordered : Bool

-- older values keep their worlds; width, worlds, capacity, the weights of older values and the order of the memory stay
pub record Kept (m m' : Meaning) : Type 0 where
  pub width : m'.width ≡ m.width
  pub world : (w : ℕ) → m'.world w ≡ m.world w
  pub state : (w : ℕ) → m'.state w ≡ m.state w
  pub known : (v : ℕ) → m.known v ≡ true → m'.known v ≡ true
  pub truth : (v w : ℕ) → m.known v ≡ true → m.world w ≡ true → m'.truth v w ≡ m.truth v w
  pub capacity : m'.capacity ≡ m.capacity
  pub weight : (v : ℕ) → m.known v ≡ true → m'.weight v ≡ m.weight v
  pub count : m.count ≤ m'.count
  pub ordered : m.ordered ≡ true → m'.ordered ≡ true

-- x is made: it is known, and true in exactly the worlds that P says; at most 1 is taken from the room, and nothing added
pub record Made (m m' : Meaning) (P : ℕ → Bool) (x : ℕ) : Type 0 where
  pub kept : Kept m m'
  pub known : m'.known x ≡ true
  pub truth : (w : ℕ) → m.world w ≡ true → m'.truth x w ≡ P w
  pub room : m.room ≤ m'.room + 1
  pub no_more : m'.room ≤ m.room

-- a single state: one world, 0; its values are 0 and 1, false and true; the room stays
abbrev pub state_meaning : (width bits : ℕ) → Meaning
state_meaning width bits = record {
  width = width;
  world = λ w. (w == 0);
  state = λ w. bits;
  known = λ v. nat_lt v 2;
  truth = λ v w. (v == 1);
  room = 65536;
  count = 0;
  capacity = 0;
  weight = λ v. 0;
  ordered = true;
}
