-- The key steps of logs, by replica and key.
use Rattle.std.specs.Prelude.{ℕ, ◌+◌, List, [], ◌∷◌, ◌++◌, slice_index_or, slice_set}
use Rattle.mk_words.specs.declared.JournalEntry.{JournalEntry}
use Rattle.mk_words.specs.declared.Step.{Step}
use Rattle.mk_words.specs.declared.Step.TheVariants.{Key}

-- those at this key of this replica
abbrev pub turns_at : List (List (List JournalEntry)) → ℕ → ℕ → List JournalEntry
turns_at table r key = slice_index_or (slice_index_or table r []) key []

-- one more at this key
abbrev pub with_turn : ℕ → JournalEntry → List (List JournalEntry) → List (List JournalEntry)
with_turn key turn row = slice_set row key (slice_index_or row key [] ++ turn ∷ [])

-- one more at this key of this replica
abbrev pub with_turn_at : ℕ → ℕ → JournalEntry → List (List (List JournalEntry)) → List (List (List JournalEntry))
with_turn_at r key turn table = slice_set table r (with_turn key turn (slice_index_or table r []))

-- a key step of this column's log is put to its key
abbrev pub after_step : ℕ → List (List (List JournalEntry)) → Step → List (List (List JournalEntry))
after_step c table (Key call answer) = with_turn_at call.replica call.key (record { seat = c; act = call.act; answer = answer }) table
after_step c table _ = table

-- so is each
abbrev pub after_steps : ℕ → List (List (List JournalEntry)) → List Step → List (List (List JournalEntry))
after_steps c table [] = table
after_steps c table (step ∷ steps) = after_steps c (after_step c table step) steps

-- and those of these logs, the first of which is of the column of this number
abbrev pub after_all_steps : ℕ → List (List (List JournalEntry)) → List (List Step) → List (List (List JournalEntry))
after_all_steps c table [] = table
after_all_steps c table (log ∷ logs) = after_all_steps (c + 1) (after_steps c table log) logs
