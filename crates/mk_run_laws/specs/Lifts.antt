-- More of what holds of the columns, journals and tenures of runs.
use Rattle.std.specs.Prelude.{◌≡◌, ◌<◌, ℕ, ◌+◌, true, List, ◌∷◌, ◌++◌, length, Some, slice_get}
use Rattle.mk_lists.specs.Among.{Among}
use Rattle.mk_txn.specs.declared.TxnId.{TxnId}
use Rattle.mk_quorum.specs.Sizes.{members}
use Rattle.mk_model.specs.ColumnState.{AttemptState, attempt_of}
use Rattle.mk_column_laws.specs.Moments.{Moment, PastAct}
use Rattle.mk_column_laws.specs.Items.{ItemFacts}
use Rattle.mk_history.specs.declared.RoundLog.{RoundLog}
use Rattle.mk_history.specs.Histories.{History, journal_of}
use Rattle.mk_history.specs.Shape.{HasShape}
use Rattle.mk_history.specs.Legality.{IsLegal}
use Rattle.mk_run_laws.specs.RunEvents.{moment_of, IsMomentOf}
use Rattle.mk_run_laws.specs.RunLaws.{InRuns}
use Rattle.mk_run_laws.specs.Tenures.{DatedEntry, has_epoch, tenure_of}
use Rattle.mk_run_laws.specs.Ends.{epochs_after, client_column}

-- the moment after some rounds is one of the run's
abbrev pub MomentsOfRounds : Type 0
MomentsOfRounds = (run : History) (c : ℕ) (done rest : List RoundLog) → run.rounds ≡ done ++ rest → IsMomentOf run c (moment_of run c done)

-- a column has the run's version, faults and keys
pub record HasSettingOf (run : History) (m : Moment) : Type 0 where
  pub version : m.round.version ≡ run.version
  pub faults : m.round.faults ≡ run.faults
  pub keys : m.round.keys ≡ length run.key_names

abbrev pub MomentsHaveSettings : Type 0
MomentsHaveSettings = (run : History) (c : ℕ) (m : Moment) → IsMomentOf run c m → HasSettingOf run m

-- an attempt is of its client's column, so two columns never have attempts of one number
abbrev pub IdsAreOfColumns : Type 0
IdsAreOfColumns =
    (run : History) → IsLegal run → (c : ℕ) → c < run.columns → (m : Moment) → IsMomentOf run c m → (id : TxnId) (a : AttemptState) →
    attempt_of m.column id ≡ Some a → client_column run id.client ≡ c

-- attempts read and write different keys that there are
abbrev pub ItemsInRuns : Type 0
ItemsInRuns = InRuns (λ taught m. ItemFacts m)

-- a key act is of a replica and a key that there are
abbrev pub ActsInRange : Type 0
ActsInRange =
    (run : History) → HasShape run → (c : ℕ) (done rest : List RoundLog) → run.rounds ≡ done ++ rest → (act : PastAct) →
    Among act (moment_of run c done).past.acts → (act.replica < members run.faults) × (act.key < length run.key_names)

-- an entry of a tenure is of a column that there is
abbrev pub SeatsInRange : Type 0
SeatsInRange =
    (run : History) → HasShape run → (done rest : List RoundLog) → run.rounds ≡ done ++ rest → (r epoch key : ℕ) (d : DatedEntry) →
    Among d (tenure_of run done r epoch key) → d.entry.seat < run.columns

-- an entry of a tenure stands in a journal of a round, before which the replica had the epoch's state
pub record IsOfJournal (run : History) (rounds : List RoundLog) (r epoch key : ℕ) (d : DatedEntry) : Type 0 where
  pub done : List RoundLog
  pub round : RoundLog
  pub rest : List RoundLog
  pub split : rounds ≡ done ++ round ∷ rest
  pub dated : d.round ≡ length done + 1
  pub had : has_epoch epoch (slice_get (epochs_after run done).replicas r) ≡ true
  pub entered : Among d.entry (journal_of round r key)

abbrev pub TenuresAreJournals : Type 0
TenuresAreJournals =
    (run : History) (rounds : List RoundLog) (r epoch key : ℕ) (d : DatedEntry) → Among d (tenure_of run rounds r epoch key) → IsOfJournal run rounds r epoch key d
