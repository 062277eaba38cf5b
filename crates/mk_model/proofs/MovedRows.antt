-- What a replica of a later epoch answers, and what an own coordinator makes of it, by computing.
use Rattle.std.proofs.Common.{◌≡◌, [], ◌∷◌, refl, length}
use Rattle.std.specs.Prelude.{Some, None, map, option_map, slice_get}
use Rattle.mk_txn.specs.declared.TxnId.{TxnId}
use Rattle.mk_txn.specs.declared.Value.TheVariants.{Number}
use Rattle.mk_txn.specs.declared.Outcome.TheVariants.{Commit, Abort}
use Rattle.mk_txn.specs.declared.Cause.TheVariants.{Epoch as ByEpoch}
use Rattle.mk_txn.specs.declared.Known.{Known}
use Rattle.mk_txn.specs.declared.Known.TheVariants.{Outcome as KnownOutcome, Absent, Forgotten}
use Rattle.mk_words.specs.declared.Msg.{Msg}
use Rattle.mk_words.specs.declared.Body.TheVariants.{Moved as MovedBody}
use Rattle.mk_words.specs.KeptOutcomes.{KeptOutcomes, nothing_kept}
use Rattle.mk_words.specs.declared.Phase.TheVariants.{Serving, Paused, Lacking}
use Rattle.mk_words.specs.declared.Step.TheVariants.{Begin, Unread, Stamp, Validate, Take, Rule, Again, Takeover, Pick, Stop}
use Rattle.mk_model.specs.ColumnState.{ColumnState, Setting, new_column, attempt_of, client_of}
use Rattle.mk_model.specs.ColumnState.Way.{ByMoved, ByTelling}
use Rattle.mk_model.specs.Learnings.{learning}
use Rattle.mk_model.specs.Conditions.{blocked}
use Rattle.mk_model.specs.Steps.{column_after}
use Rattle.mk_model.specs.Logs.{column_through}

-- replica 0 serves epoch 1 with these outcomes and marks, and the others serve epoch 0
abbrev setting : KeptOutcomes → Setting
setting fates =
    record {
      version = 2;
      faults = 1;
      keys = 1;
      views =
          record { phase = Serving; epoch = 1; fates = fates }
          ∷ (record { phase = Serving; epoch = 0; fates = nothing_kept } ∷ (record { phase = Serving; epoch = 0; fates = nothing_kept } ∷ []));
    }

abbrev id : TxnId
id = record { client = 1; seq = 1 }

-- an attempt of epoch 0 sends its Validates, and the one to replica 0 is taken
abbrev asked : KeptOutcomes → ColumnState
asked fates =
    column_through (setting fates) (new_column 1 (1 ∷ []))
    (Begin 1 1 ∷ (Stamp id 10 (record { key = 0; value = Number 5 } ∷ []) ∷ (Validate id ∷ (Take 1 ∷ []))))

-- then the answer is taken
abbrev answered : KeptOutcomes → ColumnState
answered fates = column_after (setting fates) (asked fates) (Take 4)

abbrev with_outcome : KeptOutcomes
with_outcome = record { outcomes = (id, Commit) ∷ []; marks = [] }

abbrev with_mark : KeptOutcomes
with_mark = record { outcomes = []; marks = (1, 1) ∷ [] }

abbrev moved : Known → Msg
moved fate = record { epoch = 0; id = id; replica = 0; view = 0; body = MovedBody (record { to = 1; fate = fate }) }

pub outcome_told : slice_get (asked with_outcome).link 3 ≡ Some (moved (KnownOutcome Commit))
outcome_told = refl

pub absence_told : slice_get (asked nothing_kept).link 3 ≡ Some (moved Absent)
absence_told = refl

pub forgotten_told : slice_get (asked with_mark).link 3 ≡ Some (moved Forgotten)
forgotten_told = refl

pub outcome_learned : (answered with_outcome).learned ≡ learning id (ByMoved 1) Commit ∷ []
outcome_learned = refl

pub coordinator_learned : option_map (λ a. a.coord.learned) (attempt_of (answered with_outcome) id) ≡ Some (Some Commit)
coordinator_learned = refl

-- absence teaches abort by that epoch
pub absence_learned : (answered nothing_kept).learned ≡ learning id (ByMoved 1) (Abort (ByEpoch 1)) ∷ []
absence_learned = refl

-- a forgotten outcome teaches nothing
pub nothing_learned : (answered with_mark).learned ≡ []
nothing_learned = refl

-- but the client has heard of the epoch
pub epoch_heard : option_map (λ c. c.heard) (client_of (answered with_mark) 1) ≡ Some 1
epoch_heard = refl

-- a coordinator that was taught does nothing more, and has sent no Decide
pub taught_refused : map (blocked (setting with_outcome) (answered with_outcome)) (Validate id ∷ (Rule id ∷ (Again id ∷ (Stop id ∷ []))))
    ≡ Some 4 ∷ (Some 4 ∷ (Some 4 ∷ (Some 3 ∷ [])))
taught_refused = refl

pub no_decide : length (answered with_outcome).link ≡ 4
no_decide = refl

-- a client that has heard of epoch 1 begins at no replica of epoch 0
pub later_epoch_wanted : map (blocked (setting with_outcome) (answered with_outcome)) (Begin 1 0 ∷ (Begin 1 1 ∷ (Unread 1 ∷ [])))
    ≡ None ∷ (Some 3 ∷ (Some 3 ∷ []))
later_epoch_wanted = refl

-- a takeover at view 1 asks, replica 0 answers with Moved, and the pick is what it taught
abbrev taken_over : KeptOutcomes → ColumnState
taken_over fates = column_through (setting fates) (asked fates) (Takeover id 1 ∷ (Take 5 ∷ (Take 8 ∷ [])))

pub pick_enabled : blocked (setting with_outcome) (taken_over with_outcome) (Pick id 1) ≡ None
pick_enabled = refl

pub pick_learned : (column_after (setting with_outcome) (taken_over with_outcome) (Pick id 1)).learned
    ≡ learning id (ByMoved 1) Commit ∷ (learning id ByTelling Commit ∷ [])
pick_learned = refl

-- where the outcome is forgotten the takeover goes by its own promises alone
pub pick_refused : blocked (setting with_mark) (taken_over with_mark) (Pick id 1) ≡ Some 4
pick_refused = refl

-- a replica that does not serve ignores what it takes
abbrev paused : Setting
paused =
    record {
      version = 1;
      faults = 1;
      keys = 1;
      views =
          record { phase = Paused; epoch = 0; fates = nothing_kept }
          ∷ (record { phase = Serving; epoch = 0; fates = nothing_kept } ∷ (record { phase = Lacking; epoch = 0; fates = nothing_kept } ∷ []));
    }

pub ignored_by_paused :
    (column_through paused (new_column 1 (1 ∷ []))
    (Begin 1 1 ∷ (Stamp id 10 (record { key = 0; value = Number 5 } ∷ []) ∷ (Validate id ∷ (Take 1 ∷ (Take 3 ∷ [])))))).records
    ≡ [] ∷ ([] ∷ ([] ∷ []))
ignored_by_paused = refl
