-- Journals and key steps, by column, key and replica.
use Rattle.std.proofs.Common.{◌≡◌, ℕ, Bool, true, false, ◌==◌, cond, refl, ap, ◌∙◌, List, [], ◌∷◌, length, map, Option, if◌then◌else◌}
use Rattle.std.specs.Prelude.{filter, slice_index_or}
use Rattle.mk_words.specs.declared.JournalEntry.{JournalEntry}
use Rattle.mk_history.specs.Matching.{turns_in_journal}
use Rattle.mk_verdict.specs.Flaws.{first_from}
use Rattle.mk_whole.specs.Matches.{turn_of, flaw_between, unmatched_key, unmatched_replica}
use Rattle.mk_whole.specs.Turns.{turns_at}
use Rattle.mk_verdict.specs.declared.PlacedFlaw.{PlacedFlaw}

-- the turns of a column's entries
pub turns_filtered : (c : ℕ) (entries : List JournalEntry) → map turn_of (filter (λ entry. entry.seat == c) entries) ≡ turns_in_journal c entries
turns_filtered c [] = refl
turns_filtered c (entry ∷ entries) = by (entry.seat == c) (turns_filtered c entries)
  where
    by : (b : Bool) → map turn_of (filter (λ e. e.seat == c) entries) ≡ turns_in_journal c entries →
        map turn_of (cond b (entry ∷ filter (λ e. e.seat == c) entries) (filter (λ e. e.seat == c) entries))
        ≡ (if b then turn_of entry ∷ turns_in_journal c entries else turns_in_journal c entries)
    by true e = ap (λ ts. turn_of entry ∷ ts) e
    by false e = e

-- what is found at a key's journal and turns is what is found at the key
pub key-is : (columns : ℕ) (journals : List (List JournalEntry)) (table : List (List (List JournalEntry))) (r key : ℕ) (journal turns : List JournalEntry) (o : Option PlacedFlaw) →
    journal ≡ slice_index_or journals key [] → turns ≡ turns_at table r key → o ≡ first_from (flaw_between r key journal turns) 0 columns →
    o ≡ unmatched_key columns journals table r key
key-is columns journals table r key journal turns o journal_is turns_is is =
    is
    ∙ ap (λ js. first_from (flaw_between r key js turns) 0 columns) journal_is
    ∙ ap (λ ts. first_from (flaw_between r key (slice_index_or journals key []) ts) 0 columns) turns_is

-- and what is found at a replica's journals is what is found at the replica
pub replica-is : (columns : ℕ) (journals : List (List (List JournalEntry))) (table : List (List (List JournalEntry))) (r n : ℕ) (row : List (List JournalEntry)) (o : Option PlacedFlaw) →
    row ≡ slice_index_or journals r [] → n ≡ length row → o ≡ first_from (unmatched_key columns row table r) 0 n → o ≡ unmatched_replica columns journals table r
replica-is columns journals table r n row o row_is n_is is =
    is ∙ ap (λ k. first_from (unmatched_key columns row table r) 0 k) n_is ∙ ap (λ rs. first_from (unmatched_key columns rs table r) 0 (length rs)) row_is
