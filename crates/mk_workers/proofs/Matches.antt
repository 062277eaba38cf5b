-- A column's entries in a journal are the key steps of its log.
use Rattle.std.proofs.Common.{◌≡◌, ◌∙◌, ℕ, Bool, true, false, cond, nat_eq, List, [], ◌∷◌, map, length, slice_get, Some, refl, sym, ap, arith}
use Rattle.std.proofs.lemmas.Option.{slice_get_within}
use Rattle.mk_words.specs.declared.JournalEntry.{JournalEntry}
use Rattle.mk_words.specs.declared.Step.{Step}
use Rattle.mk_words.specs.Cells.{CellState}
use Rattle.mk_history.specs.Matching.{turns_in_log, turns_in_journal}
use Rattle.mk_lock.specs.Entries.{of_seat}
use Rattle.mk_lock.specs.Seats.{SeatView, LockView, AreSeatsOf, IsJournalOf}
use Rattle.mk_workers.specs.Seating.{turn_of, HasColumns}
use Rattle.mk_workers.proofs.PairLaws.{slice_get-inside}

-- the turns of a column in a journal are those of its entries
pub turns_of_seat : (c : ℕ) (journal : List JournalEntry) → turns_in_journal c journal ≡ map turn_of (of_seat c journal)
turns_of_seat c [] = refl
turns_of_seat c (entry ∷ journal) = by (nat_eq entry.seat c) (turns_of_seat c journal)
  where
    by : (b : Bool) → turns_in_journal c journal ≡ map turn_of (of_seat c journal) → cond b (turn_of entry ∷ turns_in_journal c journal) (turns_in_journal c journal) ≡ map turn_of (cond b (entry ∷ of_seat c journal) (of_seat c journal))
    by true rest = ap (λ ts. turn_of entry ∷ ts) rest
    by false rest = rest

-- the seats of all columns are the seats of the lock
pub are_seats : (l : LockView) (logs : List (List Step)) (seats : List SeatView) → l.seats ≡ length logs → HasColumns l logs seats → AreSeatsOf l.name l.seats seats
are_seats l logs seats count has =
    record {
      all = has.all ∙ sym count;
      each = λ k s at.
          let found = slice_get-inside logs k (let inside = slice_get_within seats k s at in let same = has.all in omega arith) in
          let fits = has.each k found.0 s found.1 at in (fits.lock, fits.number);
    }

-- what a lock's journal has of a column is what the column's log has at the lock's key
pub matches : (l : LockView) (logs : List (List Step)) (seats : List SeatView) (opening closing : CellState) (journal : List JournalEntry) → HasColumns l logs seats →
    IsJournalOf opening closing seats journal → (c : ℕ) (log : List Step) → slice_get logs c ≡ Some log → turns_in_journal c journal ≡ turns_in_log l.replica l.key log
matches l logs seats opening closing journal has is c log at =
    let found = slice_get-inside seats c (let inside = slice_get_within logs c log at in let same = has.all in omega arith) in
    let fits = has.each c log found.0 at found.1 in
    turns_of_seat c journal ∙ ap (map turn_of) (is.own c found.0 found.1) ∙ fits.entries
