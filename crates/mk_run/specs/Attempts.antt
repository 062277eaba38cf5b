-- How the attempts of a run ended, each in a line, in order of their numbers: by client, and then by place.
use Rattle.std.specs.Prelude.{ℕ, zero, suc, ◌+◌, ◌-◌, List, [], ◌∷◌, ◌++◌, Option, Some, None, option_map, unwrap_or, count_by, slice_index_or, Bool, true, false, not}
use Rattle.mk_txn.specs.declared.TxnId.{TxnId}
use Rattle.mk_txn.specs.declared.ReadItem.{ReadItem}
use Rattle.mk_txn.specs.declared.WriteItem.{WriteItem}
use Rattle.mk_txn.specs.declared.Outcome.{Outcome}
use Rattle.mk_txn.specs.Outcomes.{is_commit}
use Rattle.mk_txn.specs.Transactions.{Transaction}
use Rattle.mk_model.specs.ColumnState.{ColumnState, AttemptState, ClientState, attempt_of, client_of, new_column}
use Rattle.mk_history.specs.declared.Path.{Path}
use Rattle.mk_history.specs.declared.State.{State}
use Rattle.mk_history.specs.declared.State.TheVariants.{Learned, Left as LeftOpen}
use Rattle.mk_history.specs.Histories.{History}
use Rattle.mk_history.specs.Leaving.{left_of}
use Rattle.mk_history.specs.Learning.{Learnt, learned, first_learned}
use Rattle.mk_history.specs.Wholes.{last_state}
use Rattle.mk_run.specs.declared.line.AttemptLine.{AttemptLine}
use Rattle.mk_run.specs.declared.line.Tally.{Tally}

-- the outcome of an attempt that was learned first and its path, and else how it stands
abbrev pub state_of : ℕ → ColumnState → AttemptState → Option (Outcome × Path) → State
state_of f column attempt (Some first) = Learned first.0 first.1
state_of f column attempt None = LeftOpen (left_of f column attempt)

-- what a transaction read, and nothing where there is none
abbrev pub reads_of : Option Transaction → List ReadItem
reads_of (Some txn) = txn.reads
reads_of None = []

-- what a transaction writes, and nothing where there is none
abbrev pub writes_of : Option Transaction → List WriteItem
writes_of (Some txn) = txn.writes
writes_of None = []

-- an attempt in this state: it has a stamp, reads and writes where it has a transaction
abbrev pub attempt_line : TxnId → Option Transaction → State → AttemptLine
attempt_line id txn state =
    record { id = id; stamp = option_map (λ (t : Transaction). t.stamp) txn; reads = reads_of txn; writes = writes_of txn; state = state }

-- the line of an attempt of this column, where this was learned first of each
abbrev pub line_of : ℕ → (TxnId → Option (Outcome × Path)) → ColumnState → AttemptState → AttemptLine
line_of f first column attempt = attempt_line attempt.id attempt.txn (state_of f column attempt (first attempt.id))

-- one line more, where there is one
abbrev pub with_line : Option AttemptLine → List AttemptLine → List AttemptLine
with_line (Some line) lines = line ∷ lines
with_line None lines = lines

-- the lines of a client's attempts, n of them from this place on
abbrev pub lines_from : ℕ → (TxnId → Option (Outcome × Path)) → ColumnState → ℕ → ℕ → ℕ → List AttemptLine
lines_from f first column client seq zero = []
lines_from f first column client seq (suc n) =
    with_line (option_map (line_of f first column) (attempt_of column (record { client = client; seq = seq }))) (lines_from f first column client (seq + 1) n)

-- how many attempts the client has begun
abbrev pub begun_by : ColumnState → ℕ → ℕ
begun_by column client = unwrap_or (option_map (λ (c : ClientState). c.next_seq - 1) (client_of column client)) 0

-- the column of this number
abbrev pub column_at : List ColumnState → ℕ → ColumnState
column_at columns c = slice_index_or columns c (new_column 0 [])

-- the lines of these clients' attempts, the first of which has this number; each has the number of its column
abbrev pub lines_of_clients : ℕ → (TxnId → Option (Outcome × Path)) → List ColumnState → ℕ → List ℕ → List AttemptLine
lines_of_clients f first columns client [] = []
lines_of_clients f first columns client (c ∷ numbers) =
    let column = column_at columns c in
    lines_from f first column client 1 (begun_by column client) ++ lines_of_clients f first columns (client + 1) numbers

-- what was learned first of an attempt in the run
abbrev pub first_in_run : History → TxnId → Option (Outcome × Path)
first_in_run run id = option_map (λ (l : Learnt). (l.outcome, l.path)) (first_learned id (learned run))

-- the lines of a run's attempts
abbrev pub outcomes_of : History → List AttemptLine
outcomes_of run = lines_of_clients run.faults (first_in_run run) (last_state run).columns 1 run.client_columns

-- a commit was learned
abbrev pub is_committed : State → Bool
is_committed (Learned outcome path) = is_commit outcome
is_committed (LeftOpen left) = false

-- an abort was learned
abbrev pub is_aborted : State → Bool
is_aborted (Learned outcome path) = not (is_commit outcome)
is_aborted (LeftOpen left) = false

-- nobody learned
abbrev pub is_open : State → Bool
is_open (Learned outcome path) = false
is_open (LeftOpen left) = true

-- how many lines there are of each kind
abbrev pub tally_of : List AttemptLine → Tally
tally_of lines =
    record {
      commits = count_by (λ line. is_committed line.state) lines;
      aborts = count_by (λ line. is_aborted line.state) lines;
      opens = count_by (λ line. is_open line.state) lines;
    }
