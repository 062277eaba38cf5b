use Rattle.mk_lock_laws.proofs.Sending.{seat_send, lock_send, lock_sync}
use Rattle.mk_lock_laws.proofs.locks_cross.Goals as goal

pub returns-clause-seat : goal.returns-clause-seat
returns-clause-seat c = seat_send

pub returns-clause-lock : goal.returns-clause-lock
returns-clause-lock c = lock_send

pub returns-clause-shared : goal.returns-clause-shared
returns-clause-shared c = lock_sync
