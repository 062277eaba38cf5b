-- The acts of the cell on small cells, by computing.
use Rattle.std.proofs.Common.{◌≡◌, ℕ, Bool, true, false, refl, List, [], ◌∷◌}
use Rattle.std.specs.Prelude.{map}
use Rattle.mk_txn.specs.declared.Stamp.{Stamp}
use Rattle.mk_txn.specs.declared.Value.TheVariants.{Number, Absent}
use Rattle.mk_txn.specs.declared.Reason.TheVariants.{ReadStale, ReadPending, WriteLate, WritePending}
use Rattle.mk_txn.specs.Stamps.{zero_stamp}
use Rattle.mk_words.specs.declared.Act.{Act}
use Rattle.mk_words.specs.declared.Act.TheVariants.{Get, CheckRead, CheckWrite, CommitRead, CommitWrite, ReleaseRead, ReleaseWrite}
use Rattle.mk_words.specs.declared.Answer.{Answer}
use Rattle.mk_words.specs.declared.Answer.TheVariants.{Version, Okay, Refused, Done}
use Rattle.mk_words.specs.Acts.{answer_fits}
use Rattle.mk_words.specs.Cells.{CellState, cell_after, cell_answer, first_cell, settled_cell}

abbrev at : ℕ → ℕ → Stamp
at time client = record { time = time; client = client }

-- what a cell answers to acts in turn
abbrev answers : CellState → List Act → List Answer
answers cell [] = []
answers cell (act ∷ acts) = cell_answer cell act ∷ answers (cell_after cell act) acts

abbrev after : CellState → List Act → CellState
after cell [] = cell
after cell (act ∷ acts) = after (cell_after cell act) acts

-- a cell with the value 7 of 10.1, read up to 20.2, with readers 25.1 and 30.2 and writers 28.3 and 40.1 pending
abbrev busy : CellState
busy =
    record {
      value = Number 7;
      wts = at 10 1;
      rts = at 20 2;
      readers = at 25 1 ∷ (at 30 2 ∷ []);
      writers = at 28 3 ∷ (at 40 1 ∷ []);
    }

pub get : cell_answer busy Get ≡ Version (at 10 1) (Number 7)
get = refl

pub get_at_first : cell_answer first_cell Get ≡ Version zero_stamp (Number 0)
get_at_first = refl

pub get_changes_nothing : cell_after busy Get ≡ busy
get_changes_nothing = refl

pub stale_read : cell_answer busy (CheckRead (at 50 1) (at 9 2)) ≡ Refused ReadStale (at 10 1)
stale_read = refl

-- the stale version is named before a pending writer, and of those the least
pub read_awaits : cell_answer busy (CheckRead (at 50 1) (at 10 1)) ≡ Refused ReadPending (at 28 3)
read_awaits = refl

pub refused_read_changes_nothing : cell_after busy (CheckRead (at 50 1) (at 10 1)) ≡ busy
refused_read_changes_nothing = refl

pub read_joins : cell_answer busy (CheckRead (at 26 1) (at 10 1)) ≡ Okay
read_joins = refl

pub read_joined_in_order : (cell_after busy (CheckRead (at 26 1) (at 10 1))).readers ≡ at 25 1 ∷ (at 26 1 ∷ (at 30 2 ∷ []))
read_joined_in_order = refl

pub read_again_changes_nothing : cell_after busy (CheckRead (at 25 1) (at 10 1)) ≡ busy
read_again_changes_nothing = refl

pub late_write : cell_answer busy (CheckWrite (at 20 1)) ≡ Refused WriteLate (at 20 2)
late_write = refl

-- of the readers above, the least is named
pub write_awaits : cell_answer busy (CheckWrite (at 22 1)) ≡ Refused WritePending (at 25 1)
write_awaits = refl

pub refused_write_changes_nothing : cell_after busy (CheckWrite (at 22 1)) ≡ busy
refused_write_changes_nothing = refl

pub write_joins : cell_answer busy (CheckWrite (at 35 1)) ≡ Okay
write_joins = refl

pub write_joined_in_order : (cell_after busy (CheckWrite (at 35 1))).writers ≡ at 28 3 ∷ (at 35 1 ∷ (at 40 1 ∷ []))
write_joined_in_order = refl

pub read_commits : cell_after busy (CommitRead (at 30 2)) ≡ record busy { rts = at 30 2; readers = at 25 1 ∷ [] }
read_commits = refl

-- the greatest read stamp stays, and a reader that is not there leaves nothing behind
pub early_read_commits : cell_after busy (CommitRead (at 15 4)) ≡ busy
early_read_commits = refl

pub write_commits : cell_after busy (CommitWrite (at 28 3) (Number 9)) ≡ record busy { value = Number 9; wts = at 28 3; writers = at 40 1 ∷ [] }
write_commits = refl

pub absent_is_installed : cell_after busy (CommitWrite (at 40 1) Absent) ≡ record busy { value = Absent; wts = at 40 1; writers = at 28 3 ∷ [] }
absent_is_installed = refl

-- a write below the version that stands is not installed
pub late_commit : cell_after busy (CommitWrite (at 9 3) (Number 9)) ≡ busy
late_commit = refl

pub read_released : cell_after busy (ReleaseRead (at 25 1)) ≡ record busy { readers = at 30 2 ∷ [] }
read_released = refl

pub write_released : cell_after busy (ReleaseWrite (at 40 1)) ≡ record busy { writers = at 28 3 ∷ [] }
write_released = refl

pub release_of_none : cell_after busy (ReleaseWrite (at 41 1)) ≡ busy
release_of_none = refl

-- a transaction that reads and writes x, and one that comes while it is pending
pub pending_writer : answers first_cell (CheckRead (at 10 1) zero_stamp ∷ (CheckWrite (at 10 1) ∷ (CheckRead (at 11 2) zero_stamp ∷ [])))
    ≡ Okay ∷ (Okay ∷ (Refused ReadPending (at 10 1) ∷ []))
pending_writer = refl

-- a write below a read that was committed
pub late_write_row : answers first_cell (CheckRead (at 20 1) zero_stamp ∷ (CommitRead (at 20 1) ∷ (CheckWrite (at 5 2) ∷ [])))
    ≡ Okay ∷ (Done ∷ (Refused WriteLate (at 20 1) ∷ []))
late_write_row = refl

-- a write below a read that is pending
pub pending_reader : answers first_cell (CheckRead (at 20 1) zero_stamp ∷ (CheckWrite (at 5 2) ∷ [])) ≡ Okay ∷ (Refused WritePending (at 20 1) ∷ [])
pending_reader = refl

-- of two writes the later stays, though the earlier is committed last
pub later_write_stays : after first_cell (CheckWrite (at 20 1) ∷ (CommitWrite (at 20 1) (Number 1) ∷ (CheckWrite (at 10 2) ∷ (CommitWrite (at 10 2) (Number 2) ∷ []))))
    ≡ settled_cell (Number 1) (at 20 1) zero_stamp
later_write_stays = refl

-- a read of a version that a committed write has replaced
pub stale_read_row : answers first_cell (CheckWrite (at 10 1) ∷ (CommitWrite (at 10 1) (Number 5) ∷ (CheckRead (at 20 2) zero_stamp ∷ [])))
    ≡ Okay ∷ (Done ∷ (Refused ReadStale (at 10 1) ∷ []))
stale_read_row = refl

abbrev fits : Act → List Bool
fits act =
    map (answer_fits act)
    (Version zero_stamp (Number 0) ∷ (Okay ∷ (Refused ReadStale zero_stamp ∷ (Refused ReadPending zero_stamp
    ∷ (Refused WriteLate zero_stamp ∷ (Refused WritePending zero_stamp ∷ (Done ∷ [])))))))

pub get_answers : fits Get ≡ true ∷ (false ∷ (false ∷ (false ∷ (false ∷ (false ∷ (false ∷ []))))))
get_answers = refl

pub read_answers : fits (CheckRead (at 1 1) zero_stamp) ≡ false ∷ (true ∷ (true ∷ (true ∷ (false ∷ (false ∷ (false ∷ []))))))
read_answers = refl

pub write_answers : fits (CheckWrite (at 1 1)) ≡ false ∷ (true ∷ (false ∷ (false ∷ (true ∷ (true ∷ (false ∷ []))))))
write_answers = refl

pub commit_answers : fits (CommitRead (at 1 1)) ≡ false ∷ (false ∷ (false ∷ (false ∷ (false ∷ (false ∷ (true ∷ []))))))
commit_answers = refl
