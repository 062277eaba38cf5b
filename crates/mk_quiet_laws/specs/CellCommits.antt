-- What a commit leaves at a cell: its stamp pends no more, and the version, or the greatest committed read, is not below it.
use Rattle.std.specs.Prelude.{◌≡◌, false, List, ◌∷◌, ◌++◌}
use Rattle.mk_lists.specs.Among.{Among}
use Rattle.mk_txn.specs.declared.Stamp.{Stamp}
use Rattle.mk_txn.specs.declared.Value.{Value}
use Rattle.mk_txn.specs.Stamps.{is_before}
use Rattle.mk_words.specs.declared.Act.{Act}
use Rattle.mk_words.specs.declared.Act.TheVariants.{CheckRead, CheckWrite, CommitRead, CommitWrite}
use Rattle.mk_words.specs.declared.JournalEntry.{JournalEntry}
use Rattle.mk_words.specs.Pending.{has_stamp}
use Rattle.mk_words.specs.Cells.{CellState}
use Rattle.mk_words.specs.Journals.{cell_through}

-- the act does not stand in the journal
abbrev pub IsUndone : Act → List JournalEntry → Type 0
IsUndone act journal = (entry : JournalEntry) → Among entry journal → entry.act ≡ act → ⊥

-- a write that was committed pends no more, unless it is checked anew
abbrev pub CommittedWriteIsGone : Type 0
CommittedWriteIsGone =
    (opening : CellState) (before middle : List JournalEntry) (commit : JournalEntry) (ts : Stamp) (value : Value) → commit.act ≡ CommitWrite ts value →
    IsUndone (CheckWrite ts) middle → has_stamp ts (cell_through opening (before ++ commit ∷ middle)).writers ≡ false

-- so does a read, whatever version it is checked with
abbrev pub CommittedReadIsGone : Type 0
CommittedReadIsGone =
    (opening : CellState) (before middle : List JournalEntry) (commit : JournalEntry) (ts : Stamp) → commit.act ≡ CommitRead ts →
    ((version : Stamp) → IsUndone (CheckRead ts version) middle) → has_stamp ts (cell_through opening (before ++ commit ∷ middle)).readers ≡ false

-- the version that stands is not below a write that was committed
abbrev pub CommittedWriteRaises : Type 0
CommittedWriteRaises =
    (opening : CellState) (before middle : List JournalEntry) (commit : JournalEntry) (ts : Stamp) (value : Value) → commit.act ≡ CommitWrite ts value →
    is_before (cell_through opening (before ++ commit ∷ middle)).wts ts ≡ false

-- nor is the greatest committed read below a read that was committed
abbrev pub CommittedReadRaises : Type 0
CommittedReadRaises =
    (opening : CellState) (before middle : List JournalEntry) (commit : JournalEntry) (ts : Stamp) → commit.act ≡ CommitRead ts →
    is_before (cell_through opening (before ++ commit ∷ middle)).rts ts ≡ false
