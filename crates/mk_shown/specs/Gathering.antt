-- The stamped attempts of a column, gathered client by client, and the mark stamp and the watermark that are made of them.
use Rattle.std.specs.Prelude.{ℕ, zero, suc, ◌+◌, ◌||◌, Bool, List, [], ◌∷◌, ◌++◌, length, Option, Some, None, is_some}
use Rattle.mk_txn.specs.declared.Stamp.{Stamp}
use Rattle.mk_txn.specs.declared.TxnId.{TxnId}
use Rattle.mk_txn.specs.Transactions.{Transaction}
use Rattle.mk_model.specs.ColumnState.{ColumnState, AttemptState, attempt_of}
use Rattle.mk_model.specs.Learnings.{decided}
use Rattle.mk_history.specs.Histories.{clients_of}
use Rattle.mk_run.specs.Attempts.{begun_by}
use Rattle.mk_run.specs.Firsts.{first_in}
use Rattle.mk_run.specs.Lines.{view_at}
use Rattle.mk_run.specs.Walking.{WalkView}
use Rattle.mk_feed_words.specs.Feed.{least_over}
use Rattle.mk_feed_words.specs.MarkStamps.{Stamped, mark_for}

-- a stamped transaction, closed where this test says so
abbrev pub gathered_txn : (TxnId → Bool) → Option Transaction → List Stamped
gathered_txn closed (Some txn) = record { id = txn.id; stamp = txn.stamp; closed = closed txn.id } ∷ []
gathered_txn closed None = []

-- an attempt, where it is there and stamped
abbrev pub gathered_attempt : (TxnId → Bool) → Option AttemptState → List Stamped
gathered_attempt closed (Some attempt) = gathered_txn closed attempt.txn
gathered_attempt closed None = []

-- a client's attempts, n of them from this place on
abbrev pub gathered_from : (TxnId → Bool) → ColumnState → ℕ → ℕ → ℕ → List Stamped
gathered_from closed column client seq zero = []
gathered_from closed column client seq (suc n) =
    gathered_attempt closed (attempt_of column (record { client = client; seq = seq })) ++ gathered_from closed column client (seq + 1) n

-- those of these clients
abbrev pub gathered : (TxnId → Bool) → ColumnState → List ℕ → List Stamped
gathered closed column [] = []
gathered closed column (client ∷ clients) = gathered_from closed column client 1 (begun_by column client) ++ gathered closed column clients

-- whether an attempt of the column is decided, or was told at an Enter
abbrev pub closed_by : WalkView → ColumnState → TxnId → Bool
closed_by walk column id = is_some (decided column id) || is_some (first_in id walk.settled)

-- the mark stamp of the column of this number, by the columns of all clients
abbrev pub mark_by : WalkView → List ℕ → ℕ → ColumnState → Stamp
mark_by walk client_columns c column =
    let clients = clients_of c 1 client_columns in
    mark_for clients (gathered (closed_by walk column) column clients)

-- the watermark: the least of them
abbrev pub watermark_by : WalkView → List ℕ → Stamp
watermark_by walk client_columns =
    least_over (λ c. mark_by walk client_columns c (view_at walk.whole.columns c).state) (length walk.whole.columns)
