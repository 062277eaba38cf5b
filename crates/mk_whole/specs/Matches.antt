-- Journals against the key steps of logs.
use Rattle.std.specs.Prelude.{ℕ, List, [], length, slice_index_or, Option, option_map}
use Rattle.mk_words.specs.declared.JournalEntry.{JournalEntry}
use Rattle.mk_history.specs.Matching.{Turn, turns_in_journal}
use Rattle.mk_verdict.specs.declared.Flaw.TheVariants.{Unmatched}
use Rattle.mk_verdict.specs.declared.Place.TheVariants.{Match}
use Rattle.mk_verdict.specs.declared.PlacedFlaw.{PlacedFlaw}
use Rattle.mk_verdict.specs.Flaws.{first_from, difference}
use Rattle.mk_whole.specs.Turns.{turns_at}

-- an entry's act with its answer
abbrev pub turn_of : JournalEntry → Turn
turn_of entry = record { act = entry.act; answer = entry.answer }

-- a place at which a column is not matched
abbrev pub unmatched_at : ℕ → ℕ → ℕ → ℕ → PlacedFlaw
unmatched_at r key c entry = record { place = Match r key c entry; why = Unmatched }

-- the first place at which the column's entries of these two differ
abbrev pub flaw_between : ℕ → ℕ → List JournalEntry → List JournalEntry → ℕ → Option PlacedFlaw
flaw_between r key journal turns c = option_map (unmatched_at r key c) (difference 1 (turns_in_journal c journal) (turns_in_journal c turns))

-- that of the first of these columns that is not matched at this key
abbrev pub unmatched_key : ℕ → List (List JournalEntry) → List (List (List JournalEntry)) → ℕ → ℕ → Option PlacedFlaw
unmatched_key columns journals table r key = first_from (flaw_between r key (slice_index_or journals key []) (turns_at table r key)) 0 columns

-- that of the first key at this replica
abbrev pub unmatched_replica : ℕ → List (List (List JournalEntry)) → List (List (List JournalEntry)) → ℕ → Option PlacedFlaw
unmatched_replica columns journals table r =
    first_from (unmatched_key columns (slice_index_or journals r []) table r) 0 (length (slice_index_or journals r []))
