-- The law that the marks of a column are honest at every moment.
use Rattle.std.specs.Prelude.{◌≡◌, ◌<◌, ℕ, true, false, ◌&&◌, List, map, count_by, Some}
use Rattle.std.specs.List.{list_any}
use Rattle.mk_txn.specs.declared.TxnId.{TxnId}
use Rattle.mk_txn.specs.declared.Outcome.{Outcome}
use Rattle.mk_txn.specs.Outcomes.{is_commit}
use Rattle.mk_txn.specs.Stamps.{is_before}
use Rattle.mk_txn.specs.Transactions.{Transaction}
use Rattle.mk_model.specs.ColumnState.{ColumnState, AttemptState, attempt_of}
use Rattle.mk_model.specs.Learnings.{decided}
use Rattle.mk_history.specs.Histories.{History}
use Rattle.mk_history.specs.Shape.{HasShape}
use Rattle.mk_history.specs.Legality.{IsLegal}
use Rattle.mk_history.specs.Learning.{learned, is_learned_commit, commits}
use Rattle.mk_column_laws.specs.Moments.{Moment, Event, EachHappens, moment_through}
use Rattle.mk_column_laws.specs.Laws.{AlwaysHolds}
use Rattle.mk_run_laws.specs.Ends.{client_column}
use Rattle.mk_run_laws.specs.RunEvents.{IsMomentOf}
use Rattle.mk_feed_words.specs.declared.Received.{Received}
use Rattle.mk_feed_words.specs.Feed.{is_counted, IsHonest}
use Rattle.mk_feed_words.specs.MarkStamps.{is_closed, mark_of_column}

-- the attempt is stamped in the column, with this transaction, and it is closed
pub record IsClosedIn (settled : List TxnId) (column : ColumnState) (id : TxnId) (txn : Transaction) : Type 0 where
  pub attempt : AttemptState
  pub found : attempt_of column id ≡ Some attempt
  pub stamped : attempt.txn ≡ Some txn
  pub closed : is_closed settled column id ≡ true

-- what is stamped in a column now or later, at or below the mark stamp of now, is closed now
abbrev pub ClosedBelowMarks : Type 0
ClosedBelowMarks =
    AlwaysHolds (λ taught m. (events : List Event) → EachHappens taught m events → (settled : List TxnId) (id : TxnId) (a : AttemptState) (txn : Transaction) →
    attempt_of (moment_through m events).column id ≡ Some a → a.txn ≡ Some txn → is_before (mark_of_column settled m.column) txn.stamp ≡ false →
    IsClosedIn settled m.column id txn)

-- a commit with the column of its client
abbrev pub with_column : History → Transaction → Received
with_column run txn = record { column = client_column run txn.id.client; txn = txn }

-- all commits of a run with their columns
abbrev pub all_commits : History → List Received
all_commits run = map (with_column run) (commits run)

-- how many of them a column can have handed over by a moment: those of closed attempts, with stamps at or below the mark
abbrev pub known_commits : History → List TxnId → ColumnState → ℕ → ℕ
known_commits run settled column c =
    count_by (λ r. is_counted c (mark_of_column settled column) r && is_closed settled column r.txn.id) (all_commits run)

-- at every moment of every column of a legal run the mark with this stamp and this count is honest
abbrev pub MarksAreHonest : Type 0
MarksAreHonest =
    (run : History) → IsLegal run → (c : ℕ) → c < run.columns → (m : Moment) → IsMomentOf run c m → (settled : List TxnId) →
    IsHonest (all_commits run) (record { column = c; upto = mark_of_column settled m.column; count = known_commits run settled m.column c })

-- what an own coordinator or a takeover learned is a commit exactly where the run learned that
abbrev pub DecidedAreCommits : Type 0
DecidedAreCommits =
    (run : History) → HasShape run → IsLegal run → (c : ℕ) → c < run.columns → (m : Moment) → IsMomentOf run c m → (id : TxnId) (outcome : Outcome) →
    decided m.column id ≡ Some outcome → list_any (is_learned_commit id) (learned run) ≡ is_commit outcome
