-- Two lists, place by place.
use Rattle.std.specs.Prelude.{◌≡◌, ℕ, ◌<◌, ◌≤◌, List, length, slice_get, Some}

module _ {X Y : Type 0} where
  -- the lists are of one length, and R holds of each place with its two members
  pub record Pairs (R : ℕ → X → Y → Type 0) (xs : List X) (ys : List Y) : Type 0 where
    pub all : length ys ≡ length xs
    pub each : (k : ℕ) (x : X) (y : Y) → slice_get xs k ≡ Some x → slice_get ys k ≡ Some y → R k x y

  -- before this place the one holds, and from it on the other
  pub record Until (place : ℕ) (Before After : ℕ → X → Y → Type 0) (k : ℕ) (x : X) (y : Y) : Type 0 where
    pub before : k < place → Before k x y
    pub after : place ≤ k → After k x y
