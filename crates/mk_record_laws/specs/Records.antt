-- What records hold: an entry is opened where its attempt's epoch is served, and no attempt has two.
use Rattle.std.specs.Prelude.{◌≡◌, ◌⊎◌, ℕ, true, Some, None, is_some, slice_get}
use Rattle.mk_lists.specs.Among.{Among}
use Rattle.mk_txn.specs.declared.TxnId.{TxnId}
use Rattle.mk_words.specs.declared.Entry.{Entry}
use Rattle.mk_words.specs.Entries.{entry_of, HasDistinctIds}
use Rattle.mk_words.specs.declared.Step.{Step}
use Rattle.mk_model.specs.ColumnState.{AttemptState, attempt_of, entries_at}
use Rattle.mk_model.specs.Conditions.{blocked}
use Rattle.mk_model.specs.Replicas.{serves}
use Rattle.mk_column_laws.specs.Moments.{step_done}
use Rattle.mk_column_laws.specs.Laws.{AlwaysHolds}

-- in a step a record gets an entry that it had not only where the replica serves the epoch of the entry's attempt
abbrev pub RecordsOpenWhereServed : Type 0
RecordsOpenWhereServed =
    AlwaysHolds (λ taught m. (step : Step) → blocked m.round m.column step ≡ None → (r : ℕ) (id : TxnId) (entry : Entry) →
    entry_of id (entries_at (step_done step m).column r) ≡ Some entry →
    (is_some (entry_of id (entries_at m.column r)) ≡ true)
    ⊎ ((a : AttemptState) × (attempt_of m.column id ≡ Some a) × (serves a.epoch (slice_get m.round.views r) ≡ true)))

-- no two entries of a record are of one attempt
abbrev pub RecordsAreDistinct : Type 0
RecordsAreDistinct = AlwaysHolds (λ taught m. (r : ℕ) → HasDistinctIds (entries_at m.column r))

-- so each entry is the one that is found by its attempt
abbrev pub EntriesAreFound : Type 0
EntriesAreFound = AlwaysHolds (λ taught m. (r : ℕ) (entry : Entry) → Among entry (entries_at m.column r) → entry_of entry.txn.id (entries_at m.column r) ≡ Some entry)
