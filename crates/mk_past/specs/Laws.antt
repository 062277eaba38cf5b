-- What the lines of a legal run say of its commits and its attempts, and that each ended for a reason.
use Rattle.std.specs.Prelude.{◌≡◌}
use Rattle.mk_lists.specs.Among.{Among}
use Rattle.mk_txn.specs.declared.TxnId.{TxnId}
use Rattle.mk_words.specs.Bases.{in_stamp_order}
use Rattle.mk_history.specs.Histories.{History}
use Rattle.mk_history.specs.Learning.{commits}
use Rattle.mk_history.specs.Legality.{IsLegal}
use Rattle.mk_history.specs.Shape.{HasShape}
use Rattle.mk_run.specs.declared.line.AttemptLine.{AttemptLine}
use Rattle.mk_run.specs.Attempts.{outcomes_of}
use Rattle.mk_report.specs.Commits.{commits_in}
use Rattle.mk_past.specs.Reasons.{HasAttempt, IsReasoned}

-- the transactions of the lines that say commit are the run's commits
abbrev pub CommitsAreListed : Type 0
CommitsAreListed = (run : History) → HasShape run → IsLegal run → in_stamp_order (commits_in (outcomes_of run)) ≡ in_stamp_order (commits run)

-- each line is an attempt's
abbrev pub LinesAreAttempts : Type 0
LinesAreAttempts = (run : History) → HasShape run → IsLegal run → (line : AttemptLine) → Among line (outcomes_of run) → HasAttempt run line.id

-- and each attempt has its line
abbrev pub AttemptsHaveLines : Type 0
AttemptsHaveLines =
    (run : History) → HasShape run → IsLegal run → (id : TxnId) → HasAttempt run id → (line : AttemptLine) × Among line (outcomes_of run) × (line.id ≡ id)

-- each attempt ended for a reason: a conflict has its refused check, and the attempt that the check names
abbrev pub LinesAreReasoned : Type 0
LinesAreReasoned = (run : History) → HasShape run → IsLegal run → (line : AttemptLine) → Among line (outcomes_of run) → IsReasoned run line
