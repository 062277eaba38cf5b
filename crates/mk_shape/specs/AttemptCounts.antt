-- Counts of the attempts that each client begins. A count is exact up to 16384; a greater one is only known to be greater.
use Rattle.std.specs.Prelude.{◌≡◌, ◌<◌, ◌≤◌, ◌+◌, ℕ, Bool, List, length, map, sum, min, get_or, if◌then◌else◌}
use Rattle.mk_history.specs.declared.RoundLog.{RoundLog}
use Rattle.mk_history.specs.Shape.{begins_in}

abbrev pub one_where : Bool → ℕ
one_where holds = if holds then 1 else 0

-- the number, or 16385 where it is greater
abbrev pub capped : ℕ → ℕ
capped n = min n 16385

-- each count, the first that of client 1, rose by what its client began
pub record Adds (old new : List ℕ) (begun : ℕ → ℕ) : Type 0 where
  pub clients : length new ≡ length old
  pub counts : (place : ℕ) → place < length old → capped (get_or new place 0) ≡ capped (get_or old place 0 + begun (place + 1))

-- the counts of 64 clients, the first that of client 1, of what these rounds begin
pub record Counts (counts : List ℕ) (rounds : List RoundLog) : Type 0 where
  pub clients : length counts ≡ 64
  pub counted : (place : ℕ) → place < 64 → capped (get_or counts place 0) ≡ capped (sum (map (begins_in (place + 1)) rounds))

-- no client begins more attempts than a run may have
abbrev pub FewAttempts : List RoundLog → Type 0
FewAttempts rounds = (client : ℕ) → sum (map (begins_in client) rounds) ≤ 16384
