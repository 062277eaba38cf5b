use Rattle.std.proofs.Common.{◌≡◌, ◌++◌, ◌∷◌, [], ℕ, length, slice_get, Some}
use Rattle.std.specs.Prelude.{vec_len}
use Rattle.mk_lock.specs.Seats.{SeatView}
use Rattle.mk_workers.specs.Seating.{locks_of}
use Rattle.mk_workers.specs.Worked.{logs_of}
use Rattle.mk_workers.proofs.Dealings.{RowsWhile}
use Rattle.mk_workers.proofs.dealing.give_column.Given as goal

abbrev pub invariant-loop-seat : goal.invariant-loop-seat
invariant-loop-seat l = record {
  within : (k : ℕ) (s : SeatView) → slice_get l.seats.items k ≡ Some s → slice_get l.fn.seats.items k ≡ Some s;
  rows : RowsWhile (locks_of l._locks) (logs_of l._given) (logs_of l._given ++ l._column.log ∷ []) (length l.seats.items) l.rows;
}

abbrev pub decreases-loop-seat : goal.decreases-loop-seat
decreases-loop-seat l = vec_len l.seats
