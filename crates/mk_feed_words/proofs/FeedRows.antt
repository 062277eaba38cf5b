-- Marks and mark stamps, by computing.
use Rattle.std.proofs.Common.{◌≡◌, refl, ℕ, true, false, [], ◌∷◌}
use Rattle.mk_txn.specs.declared.Stamp.{Stamp}
use Rattle.mk_txn.specs.Stamps.{zero_stamp}
use Rattle.mk_feed_words.specs.declared.Received.{Received}
use Rattle.mk_feed_words.specs.declared.Mark.{Mark}
use Rattle.mk_feed_words.specs.Feed.{reached, watermark}
use Rattle.mk_feed_words.specs.MarkStamps.{Stamped, mark_stamp}

abbrev at : ℕ → ℕ → Stamp
at time client = record { time = time; client = client }

abbrev commit : ℕ → ℕ → ℕ → ℕ → Received
commit column time client seq =
    record { column = column; txn = record { id = record { client = client; seq = seq }; stamp = at time client; reads = []; writes = [] } }

abbrev mark : ℕ → Stamp → ℕ → Mark
mark column upto count = record { column = column; upto = upto; count = count }

-- two columns: the watermark waits for the second one's mark
pub one_column_met : watermark 2 (commit 0 10 1 1 ∷ []) (mark 0 (at 10 1) 1 ∷ []) ≡ zero_stamp
one_column_met = refl

pub both_met : watermark 2 (commit 0 10 1 1 ∷ []) (mark 0 (at 10 1) 1 ∷ mark 1 (at 20 2) 0 ∷ []) ≡ at 10 1
both_met = refl

-- a mark that counts two is met by the second
pub one_missing : reached 0 (commit 0 30 1 2 ∷ []) (mark 0 (at 30 1) 2 ∷ []) ≡ zero_stamp
one_missing = refl

pub none_missing : reached 0 (commit 0 30 1 2 ∷ commit 0 20 1 1 ∷ []) (mark 0 (at 30 1) 2 ∷ []) ≡ at 30 1
none_missing = refl

abbrev waiting : ℕ → ℕ → ℕ → Stamped
waiting time client seq = record { id = record { client = client; seq = seq }; stamp = at time client; closed = false }

abbrev done : ℕ → ℕ → ℕ → Stamped
done time client seq = record { id = record { client = client; seq = seq }; stamp = at time client; closed = true }

-- not above the last stamp of a client
pub within_lasts : mark_stamp (1 ∷ 2 ∷ []) (done 10 1 1 ∷ done 20 1 2 ∷ done 15 2 1 ∷ []) ≡ at 15 2
within_lasts = refl

-- below what is open
pub below_open : mark_stamp (1 ∷ 2 ∷ []) (done 10 1 1 ∷ done 20 1 2 ∷ waiting 15 2 1 ∷ []) ≡ at 10 1
below_open = refl

-- a client without a stamp holds the mark at 0.0
pub one_idle : mark_stamp (1 ∷ 2 ∷ []) (done 10 1 1 ∷ []) ≡ zero_stamp
one_idle = refl
