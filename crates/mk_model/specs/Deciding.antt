-- Outcomes that are decided: by fast votes, or by a majority that accepted them in one view.
use Rattle.std.specs.Prelude.{◌⊎◌, ◌≤◌, ℕ, Bool, true, false, ◌&&◌, ◌==◌, List}
use Rattle.std.specs.List.{list_any}
use Rattle.mk_lists.specs.Among.{Among}
use Rattle.mk_txn.specs.declared.TxnId.{TxnId}
use Rattle.mk_txn.specs.declared.Outcome.{Outcome}
use Rattle.mk_txn.specs.Transactions.{same_id}
use Rattle.mk_words.specs.declared.Msg.{Msg}
use Rattle.mk_words.specs.declared.Body.{Body}
use Rattle.mk_words.specs.declared.Body.TheVariants.{Accepted}
use Rattle.mk_quorum.specs.Counts.{count_below}
use Rattle.mk_quorum.specs.Sizes.{members, majority_of}
use Rattle.mk_model.specs.ColumnState.{ColumnState}
use Rattle.mk_model.specs.ColumnState.Way.{ByVotes}
use Rattle.mk_model.specs.Learnings.{learning}
use Rattle.mk_model.specs.Sending.{Proposed}

-- the message says that its replica accepted
abbrev pub is_accepted_body : Body → Bool
is_accepted_body Accepted = true
is_accepted_body _ = false

-- the replica has said that it accepted what was proposed for the attempt in this view
abbrev pub has_accepted : List Msg → TxnId → ℕ → ℕ → Bool
has_accepted link id view r = list_any (λ msg. is_accepted_body msg.body && same_id msg.id id && msg.view == view && msg.replica == r) link

-- an outcome was proposed for the attempt in this view, and a majority accepted it
abbrev pub IsChosen : ℕ → List Msg → TxnId → ℕ → Outcome → Type 0
IsChosen f link id view outcome = Proposed link id view outcome × (majority_of f ≤ count_below (members f) (has_accepted link id view))

-- the outcome is decided in the attempt's epoch
abbrev pub IsDecided : ℕ → ColumnState → TxnId → Outcome → Type 0
IsDecided f column id outcome = Among (learning id ByVotes outcome) column.learned ⊎ ((view : ℕ) × IsChosen f column.link id view outcome)
