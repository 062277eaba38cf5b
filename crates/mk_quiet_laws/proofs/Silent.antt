-- A silent step sends nothing, and begins no validation.
use Rattle.std.proofs.Common.{◌≡◌, ◌∙◌, false, refl, ap, List, Option, Some, None}
use Rattle.std.specs.Prelude.{slice_get}
use Rattle.mk_txn.specs.declared.TxnId.{TxnId}
use Rattle.mk_txn.specs.declared.Stamp.{Stamp as StampType}
use Rattle.mk_txn.specs.declared.WriteItem.{WriteItem}
use Rattle.mk_txn.specs.Stamps.{next_stamp_of}
use Rattle.mk_words.specs.declared.Msg.{Msg}
use Rattle.mk_words.specs.declared.Step.{Step}
use Rattle.mk_words.specs.declared.Step.TheVariants.{Begin, Unread, Read, Stamp, Validate, Take, Key, Rule, Again, Takeover, Pick as PickStep, Stop}
use Rattle.mk_model.specs.ColumnState.{Setting, ColumnState, attempt_of, client_of}
use Rattle.mk_model.specs.ColumnState.Work.{Idle, Fetching}
use Rattle.mk_model.specs.Steps.{on_some, beginning, left_unread, stamping, stamped, taken, column_after, epoch_of, is_validating}
use Rattle.mk_model.proofs.Frames.{on_some-keeps}
use Rattle.mk_quiet_laws.proofs.TaskWork.{IsSilent}

module _ (round : Setting) (column : ColumnState) (idle : column.work ≡ Idle) where
  abbrev pub IsStill : ColumnState → Type 0
  IsStill c = (c.link ≡ column.link) × (is_validating c.work ≡ false)

  at_rest : IsStill column
  at_rest = (refl, ap is_validating idle)

  stamps_still : (id : TxnId) (writes : List WriteItem) (s : Option StampType) → IsStill (stamped id writes s column)
  stamps_still id writes None = at_rest
  stamps_still id writes (Some stamp) = (refl, ap is_validating idle)

  pub silent_still : (step : Step) → IsSilent column step → IsStill (column_after round column step)
  silent_still (Begin client replica) s =
      on_some-keeps IsStill (beginning round replica (epoch_of (slice_get round.views replica))) (client_of column client) column (λ c e. (refl, ap is_validating idle)) at_rest
  silent_still (Unread client) s = on_some-keeps IsStill (left_unread round) (client_of column client) column (λ c e. (refl, ap is_validating idle)) at_rest
  silent_still (Read id key) s =
      on_some-keeps IsStill (λ a col. record col { work = Fetching id a.replica key }) (attempt_of column id) column (λ a e. (refl, refl)) at_rest
  silent_still (Stamp id clock writes) s =
      on_some-keeps IsStill (stamping clock writes) (attempt_of column id) column
      (λ a e. on_some-keeps IsStill (λ c col. stamped a.id writes (next_stamp_of c.number c.last_time clock a.reads) col) (client_of column a.id.client) column
      (λ c k. stamps_still a.id writes (next_stamp_of c.number c.last_time clock a.reads)) at_rest)
      at_rest
  silent_still (Stop id) s = (refl, ap is_validating idle)
  silent_still (Take number) s =
      (ap (λ (o : Option Msg). (on_some (taken round) o column).link) s, ap (λ (o : Option Msg). is_validating (on_some (taken round) o column).work) s ∙ ap is_validating idle)
  silent_still (Validate id) s = absurd s
  silent_still (Key call answer) s = absurd s
  silent_still (Rule id) s = absurd s
  silent_still (Again id) s = absurd s
  silent_still (Takeover id view) s = absurd s
  silent_still (PickStep id view) s = absurd s
