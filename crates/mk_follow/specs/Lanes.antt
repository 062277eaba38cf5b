-- What is kept of the marks of a column.
use Rattle.std.specs.Prelude.{◌≡◌, ℕ, true, List, [], ◌∷◌, ◌++◌, filter, fold, if◌then◌else◌}
use Rattle.mk_lists.specs.Among.{Among}
use Rattle.mk_txn.specs.declared.Stamp.{Stamp}
use Rattle.mk_txn.specs.Stamps.{is_before, later_stamp}
use Rattle.mk_feed_words.specs.declared.Received.{Received}
use Rattle.mk_feed_words.specs.declared.Mark.{Mark}
use Rattle.mk_feed_words.specs.Feed.{is_met, reached}

-- the later of a stamp and a mark that is met
abbrev pub after_waiting : List Received → Stamp → Mark → Stamp
after_waiting commits stamp mark = if is_met commits mark then later_stamp stamp mark.upto else stamp

-- the stamp that is reached, out of a stamp and marks that may be met by now
abbrev pub reached_out_of : List Received → Stamp → List Mark → Stamp
reached_out_of commits stamp marks = fold (after_waiting commits) stamp marks

-- the marks above a stamp
abbrev pub marks_above : Stamp → List Mark → List Mark
marks_above stamp marks = filter (λ mark. is_before stamp mark.upto) marks

-- the marks that wait, with one more where it is not met and lies above the stamp
abbrev pub waiting_after : List Received → Stamp → Mark → List Mark → List Mark
waiting_after commits stamp mark waiting =
    if is_met commits mark then waiting else if is_before stamp mark.upto then waiting ++ mark ∷ [] else waiting

-- the greatest mark met, and all marks of the column above it, of which none is met
pub record LaneFits (column : ℕ) (commits : List Received) (marks : List Mark) (waiting : List Mark) (stamp : Stamp) : Type 0 where
  pub reaches : stamp ≡ reached column commits marks
  pub waits : (mark : Mark) → Among mark marks → mark.column ≡ column → is_before stamp mark.upto ≡ true → Among mark waiting
  pub from : (mark : Mark) → Among mark waiting → Among mark marks × (mark.column ≡ column)
