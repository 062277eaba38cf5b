-- Runs of attempts of one client without a gap.
use Rattle.std.specs.Prelude.{◌≡◌, ◌<◌, ◌≤◌, ℕ, Bool, true, ◌&&◌, ◌==◌, nat_lt, nat_le, List}
use Rattle.mk_txn.specs.declared.TxnId.{TxnId}
use Rattle.mk_trim.specs.SettledAttempts.{holds}

-- whether the client's attempt of this number is among these
abbrev pub has_number : List TxnId → ℕ → ℕ → Bool
has_number ids client seq = holds ids (record { client = client; seq = seq })

-- whether an attempt follows this one of its client, up to a number
abbrev pub follows : TxnId → ℕ → TxnId → Bool
follows id end other = other.client == id.client && nat_lt id.seq other.seq && nat_le other.seq end

-- all that follow, up to a number, are among these
abbrev pub AllFollow : List TxnId → TxnId → ℕ → Type 0
AllFollow ids id end = (seq : ℕ) → id.seq < seq → seq ≤ end → has_number ids id.client seq ≡ true
