-- A run as the events of each of its columns, and as turns of global lines.
use Rattle.std.specs.Prelude.{◌≡◌, ℕ, List, [], ◌∷◌, ◌++◌, length, map, if◌then◌else◌}
use Rattle.mk_words.specs.declared.GlobalEntry.{GlobalEntry}
use Rattle.mk_words.specs.declared.GlobalLine.{GlobalLine}
use Rattle.mk_words.specs.declared.GlobalLine.TheVariants.{Wipe, Ask, Promise, Merge, Adopt, Enter}
use Rattle.mk_column_laws.specs.Moments.{Moment, Event, first_moment, moment_through}
use Rattle.mk_column_laws.specs.Moments.Event.{NewRound, Doing}
use Rattle.mk_model.specs.EpochState.{views_of}
use Rattle.mk_model.specs.GlobalAnswers.{is_accepted}
use Rattle.mk_epoch_laws.specs.Turns.{GlobalTurn}
use Rattle.mk_history.specs.declared.RoundLog.{RoundLog}
use Rattle.mk_history.specs.Histories.{History, clients_of, log_of}
use Rattle.mk_history.specs.Wholes.{WholeState, first_state, handed_in, after_logs, after_global, after_round}

-- the replica that a line empties once it is done
abbrev pub emptied_by : GlobalLine → List ℕ
emptied_by (Wipe r) = r ∷ []
emptied_by (Adopt epoch r) = r ∷ []
emptied_by (Ask epoch) = []
emptied_by (Promise epoch r) = []
emptied_by (Merge epoch) = []
emptied_by (Enter epoch) = []

-- the replicas that these lines emptied, in order
abbrev pub emptied_in : List GlobalEntry → List ℕ
emptied_in [] = []
emptied_in (entry ∷ entries) = (if is_accepted entry.answer then emptied_by entry.line else []) ++ emptied_in entries

-- the events of a column over these rounds, from this state on; these replicas were emptied since the last round
abbrev pub events_from : ℕ → History → WholeState → List ℕ → List RoundLog → List Event
events_from c run state emptied [] = []
events_from c run state emptied (round ∷ rounds) =
    NewRound (views_of state.epochs) emptied
    ∷ (map Doing (log_of round c) ++ events_from c run (after_round run round state) (emptied_in round.globals) rounds)

-- the events of a column over the first rounds of a run
abbrev pub events_of : History → ℕ → List RoundLog → List Event
events_of run c rounds = events_from c run (first_state run) [] rounds

-- the moment of a column before the first round
abbrev pub start_of : History → ℕ → Moment
start_of run c = first_moment run.version run.faults (length run.key_names) (clients_of c 1 run.client_columns)

-- the moment of a column after the logs of the last of these rounds
abbrev pub moment_of : History → ℕ → List RoundLog → Moment
moment_of run c rounds = moment_through (start_of run c) (events_of run c rounds)

-- a moment of a column of the run: some of its events lead there
pub record IsMomentOf (run : History) (c : ℕ) (m : Moment) : Type 0 where
  pub events : List Event
  pub later : List Event
  pub whole : events ++ later ≡ events_of run c run.rounds
  pub leads : moment_through (start_of run c) events ≡ m

-- a global line with its answer and what its replica hands in
abbrev pub turn_of : WholeState → GlobalEntry → GlobalTurn
turn_of state entry = record { handed = handed_in state entry.line; line = entry.line; answer = entry.answer }

-- the turns of a round's global lines, from this state on
abbrev pub turns_in : History → WholeState → List GlobalEntry → List GlobalTurn
turns_in run state [] = []
turns_in run state (entry ∷ entries) = turn_of state entry ∷ turns_in run (after_global run state entry) entries

-- the turns of these rounds, from this state on
abbrev pub turns_from : History → WholeState → List RoundLog → List GlobalTurn
turns_from run state [] = []
turns_from run state (round ∷ rounds) = turns_in run (after_logs run round state) round.globals ++ turns_from run (after_round run round state) rounds

-- the turns of the first rounds of a run
abbrev pub turns_of : History → List RoundLog → List GlobalTurn
turns_of run rounds = turns_from run (first_state run) rounds
