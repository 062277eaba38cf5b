-- The transactions of the lines that say commit.
use Rattle.std.specs.Prelude.{List, [], ◌∷◌, Option, Some, None, if◌then◌else◌}
use Rattle.std.specs.List.{flat_map}
use Rattle.mk_txn.specs.declared.Stamp.{Stamp}
use Rattle.mk_txn.specs.Transactions.{Transaction}
use Rattle.mk_run.specs.declared.line.AttemptLine.{AttemptLine}
use Rattle.mk_run.specs.Attempts.{is_committed}

-- the transaction of a line, where it has this stamp
abbrev pub told_txn : AttemptLine → Option Stamp → List Transaction
told_txn line None = []
told_txn line (Some stamp) = record { id = line.id; stamp = stamp; reads = line.reads; writes = line.writes } ∷ []

-- the transaction of a line that says commit
abbrev pub commit_in : AttemptLine → List Transaction
commit_in line = if is_committed line.state then told_txn line line.stamp else []

-- the transactions of the lines that say commit, in order
abbrev pub commits_in : List AttemptLine → List Transaction
commits_in lines = flat_map commit_in lines
