-- The cells of a round, each with its journal.
use Rattle.std.specs.Prelude.{◌≡◌, ◌≤◌, ℕ, List, length, Option}
use Rattle.mk_lists.specs.Among.{Each}
use Rattle.mk_words.specs.Cells.{CellState}
use Rattle.mk_words.specs.Journals.{cell_through}
use Rattle.mk_words.specs.declared.JournalEntry.{JournalEntry}
use Rattle.mk_verdict.specs.declared.PlacedFlaw.{PlacedFlaw}
use Rattle.mk_verdict.specs.Flaws.{flaw_of_journal}
use Rattle.mk_whole.specs.Pairs.{each_done, first_in}

-- the flaw of the journal of this key at this replica
abbrev pub flaw_at_key : ℕ → ℕ → CellState → List JournalEntry → Option PlacedFlaw
flaw_at_key r key cell journal = flaw_of_journal cell r key 1 journal

-- the first flaw of the journals at this replica
abbrev pub flaw_at_replica : ℕ → List CellState → List (List JournalEntry) → Option PlacedFlaw
flaw_at_replica r cells journals = first_in (flaw_at_key r) 0 cells journals

-- the cells of a replica after its journals
abbrev pub keys_done : List CellState → List (List JournalEntry) → List CellState
keys_done cells journals = each_done cell_through cells journals

-- as many keys in each row, and not too many
pub record AreEven {X Y : Type 0} (rows : List (List X)) (others : List (List Y)) : Type 0 where
  pub keys : ℕ
  pub few : keys ≤ 256
  pub each : Each (λ row. length row ≡ keys) rows
  pub other : Each (λ row. length row ≡ keys) others
