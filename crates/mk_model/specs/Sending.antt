-- What was sent, whatever its order: messages by attempt, replica and view.
use Rattle.std.specs.Prelude.{ℕ, List}
use Rattle.mk_lists.specs.Among.{Among}
use Rattle.mk_txn.specs.declared.TxnId.{TxnId}
use Rattle.mk_txn.specs.declared.Outcome.{Outcome}
use Rattle.mk_words.specs.declared.Msg.{Msg}
use Rattle.mk_words.specs.declared.Body.{Body}
use Rattle.mk_words.specs.declared.Body.TheVariants.{Accept}

-- a message
abbrev pub msg_of : ℕ → TxnId → ℕ → ℕ → Body → Msg
msg_of epoch id replica view body = record { epoch = epoch; id = id; replica = replica; view = view; body = body }

-- a message of the attempt, to or from this replica, in this view, was sent
abbrev pub Sent : List Msg → TxnId → ℕ → ℕ → Body → Type 0
Sent link id replica view body = (epoch : ℕ) × Among (msg_of epoch id replica view body) link

-- an outcome was proposed in a view
abbrev pub Proposed : List Msg → TxnId → ℕ → Outcome → Type 0
Proposed link id view outcome = (replica : ℕ) × Sent link id replica view (Accept outcome)
