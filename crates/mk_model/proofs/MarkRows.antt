-- Marks of a client: which go with a Validate, and where a replica raises its own, by computing.
use Rattle.std.proofs.Common.{◌≡◌, ℕ, List, [], ◌∷◌, refl}
use Rattle.std.specs.Prelude.{Option, Some, None}
use Rattle.mk_txn.specs.declared.TxnId.{TxnId}
use Rattle.mk_txn.specs.declared.Value.TheVariants.{Number}
use Rattle.mk_txn.specs.declared.Vote.TheVariants.{Ok as VoteOk}
use Rattle.mk_txn.specs.declared.Outcome.TheVariants.{Commit}
use Rattle.mk_txn.specs.MarkMaps.{MarkMap}
use Rattle.mk_txn.specs.Transactions.{Transaction}
use Rattle.mk_words.specs.declared.Entry.{Entry}
use Rattle.mk_words.specs.Entries.{opened, with_vote, with_promise, with_last}
use Rattle.mk_words.specs.declared.Body.TheVariants.{Validate as ValidateBody}
use Rattle.mk_words.specs.KeptOutcomes.{nothing_kept}
use Rattle.mk_words.specs.declared.Phase.TheVariants.{Serving}
use Rattle.mk_trim.specs.declared.ReplicaView.{ReplicaView}
use Rattle.mk_model.specs.ColumnState.{ColumnState, Setting, new_column, client_mark, mark_sent, AttemptState}
use Rattle.mk_model.specs.Replicas.{reaction}
use Rattle.mk_model.specs.Steps.{new_attempt, unread_attempt, taught}
use Rattle.mk_model.specs.Logs.{replica_reset}

abbrev id : ℕ → TxnId
id seq = record { client = 1; seq = seq }

-- attempts 1 and 3 have learned, 4 is unread, and 2 is as it is given
abbrev with_second : AttemptState → ColumnState
with_second second =
    let column = new_column 1 (1 ∷ []) in
    record column {
      attempts =
          taught Commit (new_attempt 1 (id 1) 0 0)
          ∷ (second ∷ (taught Commit (new_attempt 1 (id 3) 0 0) ∷ (unread_attempt 1 (id 4) ∷ [])));
    }

pub mark_before_gap : client_mark (with_second (new_attempt 1 (id 2) 0 0)) 1 ≡ 1
mark_before_gap = refl

pub mark_over_all : client_mark (with_second (taught Commit (new_attempt 1 (id 2) 0 0))) 1 ≡ 4
mark_over_all = refl

abbrev setting : ℕ → Setting
setting version =
    let view : ReplicaView = record { phase = Serving; epoch = 0; fates = nothing_kept } in
    record { version = version; faults = 1; keys = 1; views = view ∷ (view ∷ (view ∷ [])) }

-- version 1 sends the mark 0
pub no_mark_in_one : mark_sent (setting 1) (with_second (unread_attempt 1 (id 2))) 1 ≡ 0
no_mark_in_one = refl

pub mark_in_two : mark_sent (setting 2) (with_second (unread_attempt 1 (id 2))) 1 ≡ 4
mark_in_two = refl

abbrev txn : Transaction
txn =
    record {
      id = id 5;
      stamp = record { time = 10; client = 1 };
      reads = [];
      writes = record { key = 0; value = Number 5 } ∷ [];
    }

-- the marks after a Validate with mark 4 was taken, at a replica with this entry and the mark 2
abbrev marks_after : Option Entry → List Entry → MarkMap
marks_after entry entries =
    (reaction txn (record { entries = entries; marks = (1, 2) ∷ [] })
    (record { epoch = 0; id = id 5; replica = 0; view = 0; body = ValidateBody 4 }) entry (ValidateBody 4)).held.marks

pub raised_where_none : marks_after None [] ≡ (1, 4) ∷ []
raised_where_none = refl

pub raised_where_voted : marks_after (Some (with_vote VoteOk (opened txn))) (with_vote VoteOk (opened txn) ∷ []) ≡ (1, 4) ∷ []
raised_where_voted = refl

pub raised_where_final : marks_after (Some (with_last Commit (opened txn))) (with_last Commit (opened txn) ∷ []) ≡ (1, 4) ∷ []
raised_where_final = refl

-- an entry that an Ask opened ignores the Validate
pub not_raised_where_ignored : marks_after (Some (with_promise 1 (opened txn))) (with_promise 1 (opened txn) ∷ []) ≡ (1, 2) ∷ []
not_raised_where_ignored = refl

-- a mark that is not greater changes nothing
pub lower_mark_stays :
    (reaction txn (record { entries = []; marks = (1, 2) ∷ [] })
    (record { epoch = 0; id = id 5; replica = 0; view = 0; body = ValidateBody 1 }) None (ValidateBody 1)).held.marks ≡ (1, 2) ∷ []
lower_mark_stays = refl

-- a replica that starts anew has no marks
pub reset_marks : let column = new_column 1 (1 ∷ []) in (replica_reset 1 (record column { marks = ((1, 2) ∷ []) ∷ (((1, 3) ∷ []) ∷ (((1, 1) ∷ []) ∷ [])) })).marks
    ≡ ((1, 2) ∷ []) ∷ ([] ∷ (((1, 1) ∷ []) ∷ []))
reset_marks = refl
