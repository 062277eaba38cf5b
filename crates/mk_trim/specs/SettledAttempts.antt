-- Attempts that need no more telling, and up to which number all of a client's are.
use Rattle.std.specs.Prelude.{◌≡◌, ◌<◌, ◌≤◌, ◌+◌, ◌^◌, ℕ, Bool, true, false, ◌||◌, List}
use Rattle.std.specs.List.{list_any}
use Rattle.mk_txn.specs.declared.TxnId.{TxnId}
use Rattle.mk_txn.specs.Transactions.{same_id}
use Rattle.mk_txn.specs.MarkMaps.{MarkMap, mark_of, covers}

-- whether the attempt is among these
abbrev pub holds : List TxnId → TxnId → Bool
holds ids id = list_any (λ other. same_id id other) ids

-- the settled attempts: those up to their clients' marks, and some above them
pub record SettledAttempts : Type 0 where
  pub marks : MarkMap
  pub above : List TxnId

-- whether the attempt is settled
abbrev pub is_settled : SettledAttempts → TxnId → Bool
is_settled settled id = covers settled.marks id || holds settled.above id

-- what the settled attempts keep: the one after a client's mark is not settled
pub record IsSettled (settled : SettledAttempts) : Type 0 where
  pub ends : (client : ℕ) → mark_of settled.marks client + 1 < 2 ^ 32 →
      holds settled.above (record { client = client; seq = mark_of settled.marks client + 1 }) ≡ false

-- the greatest number up to which all attempts of a client are settled
pub record IsMark (settled : SettledAttempts) (client mark : ℕ) : Type 0 where
  pub up_to : (seq : ℕ) → seq ≤ mark → is_settled settled (record { client = client; seq = seq }) ≡ true
  pub ends : mark + 1 < 2 ^ 32 → is_settled settled (record { client = client; seq = mark + 1 }) ≡ false

-- the same attempts are settled, and this one
abbrev pub AlsoSettles : SettledAttempts → SettledAttempts → TxnId → Type 0
AlsoSettles old new id = (other : TxnId) → is_settled new other ≡ (is_settled old other || same_id id other)
