-- What private functions of a column do, where the step says it as a part of more.
use Rattle.std.specs.Prelude.{max, Bool, true, false, Option, Some, None, ◌++◌, if◌then◌else◌, ℕ}
use Rattle.mk_txn.specs.declared.TxnId.{TxnId}
use Rattle.mk_txn.specs.declared.Outcome.{Outcome}
use Rattle.mk_words.specs.declared.Msg.{Msg}
use Rattle.mk_words.specs.declared.Body.{Body}
use Rattle.mk_words.specs.declared.Body.TheVariants.{Voted, Accepted as AcceptedBody, Decide}
use Rattle.mk_words.specs.Rulings.{coord_taught}
use Rattle.mk_model.specs.ColumnState.{Setting, ColumnState, AttemptState, ClientState, Way, Work, change_attempt}
use Rattle.mk_model.specs.ColumnState.Work.{Finishing}
use Rattle.mk_model.specs.Answers.{answer_taken}
use Rattle.mk_model.specs.Learnings.{is_finished_by, learning_of, by_message, txn_of}
use Rattle.mk_model.specs.Steps.{on_some, replica_takes}

-- a message is taken by its replica, which may finish
abbrev pub delivered : Setting → Msg → ColumnState → ColumnState
delivered round msg column =
    let after = on_some (replica_takes round msg) (txn_of column msg.id) column in
    record after { learned = column.learned ++ by_message round column msg msg.body }

-- an answer is taken by a coordinator or a takeover, which may be taught
abbrev pub heard_taken : Setting → Msg → ColumnState → ColumnState
heard_taken round msg column =
    let after = answer_taken round msg column in
    record after { learned = column.learned ++ by_message round column msg msg.body }

-- what is taught, where something is
abbrev pub taught_where : Option Outcome → AttemptState → AttemptState
taught_where outcome attempt = record attempt { coord = coord_taught outcome attempt.coord }

-- the own coordinator is taught in this way, where there is an outcome
abbrev pub taught_in : TxnId → Way → Option Outcome → ColumnState → ColumnState
taught_in id way outcome column =
    let after = change_attempt id (taught_where outcome) column in
    record after { learned = column.learned ++ learning_of id way outcome }

-- the client has heard of this epoch
abbrev pub heard_at : ℕ → ClientState → ClientState
heard_at epoch client = record client { heard = max client.heard epoch }

-- a vote or an accept
abbrev pub counts : Body → Bool
counts (Voted vote) = true
counts AcceptedBody = true
counts _ = false

-- the end of a transaction is under way
abbrev pub is_at_end : Work → Bool
is_at_end (Finishing replica left) = true
is_at_end _ = false

-- the outcome with which the message's replica finishes by it, where it does
abbrev pub finished_by : Setting → ColumnState → Msg → Body → Option Outcome
finished_by round column msg (Decide outcome) = if is_finished_by round column msg then Some outcome else None
finished_by round column msg _ = None
