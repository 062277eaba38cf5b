-- Settling attempts and takeovers, what a later round begins with, and takeover lines.
use Rattle.std.specs.Prelude.{ℕ, ◌-◌, Bool, true, false, not, ◌&&◌, List, [], ◌∷◌, ◌++◌, length, Option, Some, None, is_none}
use Rattle.std.specs.List.{list_any}
use Rattle.mk_txn.specs.declared.TxnId.{TxnId}
use Rattle.mk_txn.specs.declared.Outcome.{Outcome}
use Rattle.mk_words.specs.declared.Step.TheVariants.{Validate, Rule, Again, Takeover, Pick}
use Rattle.mk_model.specs.ColumnState.{Setting, ColumnState, AttemptState, ClientState, attempt_of, numbers_from}
use Rattle.mk_model.specs.Conditions.{blocked, is_validate_of}
use Rattle.mk_driver.specs.declared.Task.TheVariants.{DeliverSince, Settle, SettleTakeover}
use Rattle.mk_driver.specs.declared.DriverState.{DriverState}
use Rattle.mk_driver.specs.Agenda.{Worked}
use Rattle.mk_driver.specs.Agenda.Worked.{Quiet, Names}
use Rattle.mk_driver.specs.Delivery.{follow_ups}

-- a Validate of the attempt was sent
abbrev pub was_validated : ColumnState → TxnId → Bool
was_validated column id = list_any (is_validate_of id) column.link

-- the places of a client's attempts
abbrev pub seqs_of : Option ClientState → List ℕ
seqs_of (Some client) = numbers_from 1 (client.next_seq - 1)
seqs_of None = []

-- by the first condition of Rule that fails
abbrev pub settle_by : ColumnState → TxnId → Option ℕ → DriverState → Worked
settle_by column id None driver = Names (Rule id) (follow_ups column id ++ Settle id ∷ []) driver
settle_by column id (Some condition) driver = Quiet driver

-- Rule as long as it is enabled
abbrev pub settling : Setting → ColumnState → TxnId → DriverState → Worked
settling round column id driver = settle_by column id (blocked round column (Rule id)) driver

-- by the first condition of Pick that fails
abbrev pub settle_takeover_by : ColumnState → TxnId → ℕ → Option ℕ → DriverState → Worked
settle_takeover_by column id view None driver =
    Names (Pick id view) (DeliverSince (length column.link) ∷ (SettleTakeover id view ∷ [])) driver
settle_takeover_by column id view (Some condition) driver = Quiet driver

-- Pick as long as it is enabled
abbrev pub settling_takeover : Setting → ColumnState → TxnId → ℕ → DriverState → Worked
settling_takeover round column id view driver = settle_takeover_by column id view (blocked round column (Pick id view)) driver

-- by the first condition of Takeover that fails
abbrev pub takeover_by : ColumnState → TxnId → ℕ → Option ℕ → DriverState → Worked
takeover_by column id view None driver =
    Names (Takeover id view) (DeliverSince (length column.link) ∷ (SettleTakeover id view ∷ [])) driver
takeover_by column id view (Some condition) driver = Quiet driver

-- a takeover line, which is passed over where its step is not enabled
abbrev pub taking_over : Setting → ColumnState → TxnId → ℕ → DriverState → Worked
taking_over round column id view driver = takeover_by column id view (blocked round column (Takeover id view)) driver

-- by what the attempt has proposed
abbrev pub resume_with : ColumnState → TxnId → Option Outcome → DriverState → Worked
resume_with column id (Some outcome) driver = Names (Again id) (DeliverSince (length column.link) ∷ (Settle id ∷ [])) driver
resume_with column id None driver = Names (Validate id) (DeliverSince (length column.link) ∷ (Settle id ∷ [])) driver

-- where it goes on at all
abbrev pub resume_if : ColumnState → TxnId → AttemptState → Bool → DriverState → Worked
resume_if column id attempt true driver = resume_with column id attempt.coord.proposed driver
resume_if column id attempt false driver = Quiet driver

-- where it is there
abbrev pub resume_by : ColumnState → TxnId → Option AttemptState → DriverState → Worked
resume_by column id (Some attempt) driver =
    resume_if column id attempt (was_validated column id && not attempt.stopped && is_none attempt.coord.learned) driver
resume_by column id None driver = Quiet driver

-- Again where the attempt has proposed, else Validate
abbrev pub resuming : ColumnState → TxnId → DriverState → Worked
resuming column id driver = resume_by column id (attempt_of column id) driver
