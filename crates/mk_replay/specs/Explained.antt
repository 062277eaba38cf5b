-- Whether what transactions read is what those before them left.
use Rattle.std.specs.Prelude.{ℕ, List, [], ◌∷◌, Option, Some, None, not}
use Rattle.mk_txn.specs.declared.TxnId.{TxnId}
use Rattle.mk_txn.specs.Transactions.{Transaction}
use Rattle.mk_replay.specs.declared.reads.Unexplained.{Unexplained}
use Rattle.mk_words.specs.Bases.{in_stamp_order}
use Rattle.mk_model.specs.OneCopy.{one_copy}
use Rattle.mk_model.specs.Explained.{commits_below, first_unlike}

-- this key of this transaction, where there is one, and else what comes next
abbrev pub unexplained_at : TxnId → Option ℕ → Option Unexplained → Option Unexplained
unexplained_at id None next = next
unexplained_at id (Some key) next = Some (record { id = id; key = key })

-- the first read, in the order of these transactions, that the commits below its stamp do not explain
abbrev pub first_unexplained : List Transaction → List Transaction → Option Unexplained
first_unexplained commits [] = None
first_unexplained commits (txn ∷ txns) =
    unexplained_at txn.id (first_unlike (one_copy (commits_below txn.stamp commits)) txn.reads) (first_unexplained commits txns)

-- the first unexplained read, in order of stamp and then of mention
abbrev pub unexplained_read : List Transaction → Option Unexplained
unexplained_read commits = first_unexplained commits (in_stamp_order commits)
