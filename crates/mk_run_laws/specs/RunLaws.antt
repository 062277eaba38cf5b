-- The laws of runs.
use Rattle.std.specs.Prelude.{◌≡◌, ◌<◌, ℕ, ◌+◌, true, List, [], ◌∷◌, ◌++◌, length, Some}
use Rattle.mk_txn.specs.declared.TxnId.{TxnId}
use Rattle.mk_txn.specs.declared.Outcome.{Outcome}
use Rattle.mk_txn.specs.Outcomes.{agrees}
use Rattle.mk_txn.specs.Transactions.{Transaction}
use Rattle.mk_model.specs.EpochState.{first_epochs}
use Rattle.mk_epoch_laws.specs.Turns.{after_turns, EachAnswered}
use Rattle.mk_column_laws.specs.Moments.{Moment, Taught, StaysTaught, IsReached, replicas_reset}
use Rattle.mk_model.specs.ColumnState.{AttemptState, attempt_of}
use Rattle.mk_model.specs.Deciding.{IsDecided}
use Rattle.mk_column_laws.specs.Facts.{Facts}
use Rattle.mk_column_laws.specs.Laws.{BackingOf}
use Rattle.mk_column_laws.specs.Identity.{Identity}
use Rattle.mk_column_laws.specs.KeyActs.{ActFacts}
use Rattle.mk_column_laws.specs.Reading.{ReadFacts}
use Rattle.mk_words.specs.declared.GlobalEntry.{GlobalEntry}
use Rattle.mk_history.specs.declared.RoundLog.{RoundLog}
use Rattle.mk_history.specs.Histories.{History}
use Rattle.mk_history.specs.Wholes.{first_state, setting_of, column_of, after_logs, globals_through, state_through}
use Rattle.mk_history.specs.Legality.{IsLegal, EachRoundLegal}
use Rattle.mk_history.specs.Teaching.{IsTaughtBefore}
use Rattle.mk_run_laws.specs.RunEvents.{emptied_in, moment_of, turns_of, IsMomentOf}
use Rattle.mk_run_laws.specs.TaughtIn.{taught_in}

-- after the logs of a round the events of a column lead to the column that the whole then has, with the round's setting and number
abbrev pub RoundsJoin : Type 0
RoundsJoin =
    (run : History) (c : ℕ) → c < run.columns → (done : List RoundLog) (round : RoundLog) →
    let state = state_through run (first_state run) done in
    let m = moment_of run c (done ++ round ∷ []) in
    (m.column ≡ column_of (after_logs run round state) c) × (m.round ≡ setting_of run state) × (m.past.now ≡ length done + 1)

-- and after the first of its global lines to that column with the replicas reset that these lines emptied; so promises
-- hand in what the column has
abbrev pub LinesReset : Type 0
LinesReset =
    (run : History) (c : ℕ) → c < run.columns → (done : List RoundLog) (round : RoundLog) (lines : List GlobalEntry) →
    let state = state_through run (first_state run) done in
    let m = moment_of run c (done ++ round ∷ []) in
    column_of (globals_through run (after_logs run round state) lines) c ≡ replicas_reset (emptied_in lines) m.column

-- the global lines of legal rounds are turns with legal answers, which lead to the epoch machine of the whole
abbrev pub LinesAreTurns : Type 0
LinesAreTurns =
    (run : History) (done : List RoundLog) → EachRoundLegal run (first_state run) done →
    EachAnswered (first_epochs run.faults) (turns_of run done)
    × (after_turns (first_epochs run.faults) (turns_of run done) ≡ (state_through run (first_state run) done).epochs)

-- what a run teaches stays taught
abbrev pub TeachingStays : Type 0
TeachingStays = (run : History) → StaysTaught (taught_in run)

-- what the columns go by is what entered epochs taught
abbrev pub TaughtMeans : Type 0
TaughtMeans =
    (run : History) → IsLegal run → (attempt : AttemptState) (outcome : Outcome) (round : ℕ) → taught_in run attempt.id attempt.epoch outcome round ≡ true →
    IsTaughtBefore run attempt outcome round

-- every moment of a column of a legal run is reached: what is outside of the column meets its laws' premises
abbrev pub RunsReachMoments : Type 0
RunsReachMoments = (run : History) → IsLegal run → (c : ℕ) → c < run.columns → (m : Moment) → IsMomentOf run c m → IsReached (taught_in run) m

-- P holds at every moment of a column of a legal run
abbrev pub InRuns : (Taught → Moment → Type 0) → Type 0
InRuns P = (run : History) → IsLegal run → (c : ℕ) → c < run.columns → (m : Moment) → IsMomentOf run c m → P (taught_in run) m

-- so all that holds of columns holds there
abbrev pub FactsInRuns : Type 0
FactsInRuns = InRuns (λ taught m. Facts taught m)

abbrev pub ActsInRuns : Type 0
ActsInRuns = InRuns (λ taught m. ActFacts m)

abbrev pub ReadsInRuns : Type 0
ReadsInRuns = InRuns (λ taught m. ReadFacts m)

-- an attempt has one decision
abbrev pub OneDecisionInRuns : Type 0
OneDecisionInRuns =
    InRuns (λ taught m. (id : TxnId) (one other : Outcome) → IsDecided m.round.faults m.column id one → IsDecided m.round.faults m.column id other → agrees one other ≡ true)

-- whatever is learned of an attempt, by whomever, is decided, or an entered epoch taught it before
abbrev pub LearnedInRuns : Type 0
LearnedInRuns = InRuns (λ taught m. (id : TxnId) → BackingOf taught m id)

-- attempts are numbered, and stamps rise
abbrev pub IdsInRuns : Type 0
IdsInRuns = InRuns (λ taught m. Identity m.column.clients m.column.attempts)

-- a stamp is of one column: attempts of two columns never have the same
abbrev pub StampsNameColumns : Type 0
StampsNameColumns =
    (run : History) → IsLegal run → (c d : ℕ) → c < run.columns → d < run.columns → (m n : Moment) → IsMomentOf run c m → IsMomentOf run d n →
    (id other : TxnId) (a b : AttemptState) (txn same : Transaction) → attempt_of m.column id ≡ Some a → attempt_of n.column other ≡ Some b →
    a.txn ≡ Some txn → b.txn ≡ Some same → txn.stamp ≡ same.stamp → c ≡ d
