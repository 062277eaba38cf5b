-- What a column keeps, and how its parts are found and changed.
use Rattle.mk_column.specs.declared.Attempt.{Attempt}
use Rattle.mk_model.specs.ColumnState.{AttemptState}

-- an attempt as the outside sees it
abbrev pub shown : AttemptState → Attempt
shown attempt =
    record {
      id = attempt.id;
      replica = attempt.replica;
      epoch = attempt.epoch;
      txn = attempt.txn;
      unread = attempt.unread;
      stopped = attempt.stopped;
      proposed = attempt.coord.proposed;
      learned = attempt.coord.learned;
      reads = attempt.reads;
    }
