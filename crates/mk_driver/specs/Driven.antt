-- The step that a script's turns name after a log, and a run that goes by them.
use Rattle.std.specs.Prelude.{◌≡◌, ℕ, ◌+◌, ◌<◌, Bool, ◌==◌, List, [], ◌∷◌, ◌++◌, map, length, filter, slice_index_or, if◌then◌else◌, None}
use Rattle.std.specs.List.{list_any}
use Rattle.mk_trim.specs.declared.ReplicaView.{ReplicaView}
use Rattle.mk_words.specs.declared.GlobalLine.{GlobalLine}
use Rattle.mk_words.specs.declared.GlobalLine.TheVariants.{Wipe, Ask, Promise, Merge, Adopt, Enter}
use Rattle.mk_words.specs.declared.GlobalEntry.{GlobalEntry}
use Rattle.mk_model.specs.EpochState.{views_of}
use Rattle.mk_model.specs.GlobalAnswers.{is_accepted}
use Rattle.mk_script.specs.Scripts.{ScriptParts}
use Rattle.mk_script.specs.declared.lines.ClientLine.{ClientLine}
use Rattle.mk_script.specs.declared.lines.TxnLine.{TxnLine}
use Rattle.mk_script.specs.declared.lines.TakeoverLine.{TakeoverLine}
use Rattle.mk_script.specs.declared.lines.Round.{Round}
use Rattle.mk_faults.specs.Fates.{rules_of}
use Rattle.mk_words.specs.declared.Step.{Step}
use Rattle.mk_words.specs.declared.Step.TheVariants.{Key}
use Rattle.mk_model.specs.ColumnState.{Setting, ColumnState, new_column}
use Rattle.mk_model.specs.Steps.{column_after}
use Rattle.mk_history.specs.declared.RoundLog.{RoundLog}
use Rattle.mk_model.specs.Logs.{reading_ended, replica_reset}
use Rattle.mk_history.specs.Histories.{History, clients_of, log_of}
use Rattle.mk_history.specs.Shape.{columns_of}
use Rattle.mk_history.specs.Wholes.{WholeState, first_state, after_round}
use Rattle.mk_driver.specs.declared.Next.{Next}
use Rattle.mk_driver.specs.declared.Next.TheVariants.{Step as StepNext, Key as KeyNext, Over}
use Rattle.mk_driver.specs.declared.Task.TheVariants.{Take}
use Rattle.mk_driver.specs.declared.Part.TheVariants.{Resume as ResumePart, Turns as TurnsPart, Takeovers as TakeoversPart, Late as LatePart, Settle as SettlePart}
use Rattle.mk_driver.specs.declared.DriverState.{DriverState}
use Rattle.mk_driver.specs.declared.Caller.{Caller}
use Rattle.mk_driver.specs.declared.Request.{Request}
use Rattle.mk_driver.specs.declared.Submission.{Submission}
use Rattle.mk_driver.specs.declared.RoundLines.{RoundLines}
use Rattle.mk_driver.specs.Agenda.{is_caller}
use Rattle.mk_driver.specs.Turns.{choice}

-- the clients of a column, whose numbers begin with this one
abbrev pub callers_from : ℕ → ℕ → List ClientLine → List Caller
callers_from column number [] = []
callers_from column number (line ∷ lines) =
    if line.column == column
    then record { number = number; home = line.home; under_way = None; retries = []; lines = []; trials = [] } ∷ callers_from column (number + 1) lines
    else callers_from column (number + 1) lines

-- the driver of a column before the first round
abbrev pub new_driver : ScriptParts → ℕ → DriverState
new_driver script column =
    record { agenda = []; parts = []; late = []; held = []; takeovers = []; callers = callers_from column 1 script.clients }

-- the submission is of this client
abbrev pub is_submission_of : ℕ → Submission → Bool
is_submission_of client submission = submission.client == client

-- what a line asks for, with so many tries after the first
abbrev pub submitted_by : ℕ → TxnLine → Submission
submitted_by retry line =
    record { client = line.client; request = record { clock = line.clock; items = line.items; tries = retry } }

-- the lines of a round
abbrev pub lines_of : ℕ → Round → RoundLines
lines_of retry round = record { submissions = map (submitted_by retry) round.txns; takeovers = round.takeovers }

-- those of a round of this script
abbrev pub lines_of_round : ScriptParts → Round → RoundLines
lines_of_round script round = lines_of script.retry round

-- the client's are asked for, behind what was asked for before
abbrev pub asked_more : List Submission → Caller → Caller
asked_more submissions caller =
    record caller { lines = caller.lines ++ map (λ submission. submission.request) (filter (is_submission_of caller.number) submissions) }

-- the line is for one of these clients
abbrev pub is_for : List Caller → TakeoverLine → Bool
is_for callers line = list_any (is_caller line.id.client) callers

-- a round with these lines begins: the messages held for it are taken first
abbrev pub begun_with : RoundLines → DriverState → DriverState
begun_with lines driver =
    record driver {
      agenda = map (λ number. Take number) driver.held;
      parts = ResumePart ∷ (TurnsPart ∷ (TakeoversPart ∷ (LatePart ∷ (SettlePart ∷ []))));
      held = [];
      takeovers = filter (is_for driver.callers) lines.takeovers;
      callers = map (asked_more lines.submissions) driver.callers;
    }

-- a round begins
abbrev pub begun_round : ScriptParts → Round → DriverState → DriverState
begun_round script round driver = begun_with (lines_of_round script round) driver

-- a round without lines
abbrev pub empty_round : Round
empty_round = record { txns = []; takeovers = []; globals = [] }

-- the round with this number, counted from 0
abbrev pub round_at : ScriptParts → ℕ → Round
round_at script number = slice_index_or script.rounds number empty_round

-- what a column goes by in a round with these views
abbrev pub setting_in : ScriptParts → List ReplicaView → Setting
setting_in script views = record { version = script.version; faults = script.size; keys = length script.keys; views = views }

-- a driver beside its column
pub record Standing : Type 0 where
  pub driver : DriverState
  pub column : ColumnState

-- the column of each client
abbrev pub client_columns_of : ScriptParts → List ℕ
client_columns_of script = map (λ line. line.column) script.clients

-- before the first round
abbrev pub first_standing : ScriptParts → ℕ → Standing
first_standing script c =
    record { driver = new_driver script c; column = new_column script.size (clients_of c 1 (client_columns_of script)) }

-- the round of this number, counted from 0, begins
abbrev pub standing_begun : ScriptParts → ℕ → Standing → Standing
standing_begun script number standing = record standing { driver = begun_round script (round_at script number) standing.driver }

-- after a step
abbrev pub standing_after : ScriptParts → Setting → Standing → Step → Standing
standing_after script round standing step =
    let chosen = choice (rules_of script) round standing.column standing.driver in
    record { driver = chosen.driver; column = column_after round standing.column step }

-- after these steps
abbrev pub standing_through : ScriptParts → Setting → Standing → List Step → Standing
standing_through script round standing [] = standing
standing_through script round standing (step ∷ steps) = standing_through script round (standing_after script round standing step) steps

-- what the global lines of a round do to a column's records
abbrev pub reset_by_line : GlobalLine → ColumnState → ColumnState
reset_by_line (Wipe r) column = replica_reset r column
reset_by_line (Adopt epoch r) column = replica_reset r column
reset_by_line (Ask epoch) column = column
reset_by_line (Promise epoch r) column = column
reset_by_line (Merge epoch) column = column
reset_by_line (Enter epoch) column = column

-- what these lines do, as far as they were done
abbrev pub reset_by_lines : List GlobalEntry → ColumnState → ColumnState
reset_by_lines [] column = column
reset_by_lines (entry ∷ entries) column =
    reset_by_lines entries (if is_accepted entry.answer then reset_by_line entry.line column else column)

-- at the end of a round the driver has dealt with all its tasks, as when it was asked for the last time
abbrev pub round_ended : ScriptParts → Setting → List GlobalEntry → Standing → Standing
round_ended script round globals standing =
    let chosen = choice (rules_of script) round standing.column standing.driver in
    record { driver = chosen.driver; column = reading_ended (reset_by_lines globals standing.column) }

-- a finished round with the views that it had
pub record PastRound : Type 0 where
  pub views : List ReplicaView
  pub round : RoundLog

-- driver and column after finished rounds, from this one on
abbrev pub standing_past : ScriptParts → ℕ → ℕ → Standing → List PastRound → Standing
standing_past script c number standing [] = standing_begun script number standing
standing_past script c number standing (past ∷ rounds) =
    standing_past script c (number + 1)
    (round_ended script (setting_in script past.views) past.round.globals
    (standing_through script (setting_in script past.views) (standing_begun script number standing) (log_of past.round c)))
    rounds

-- driver and column after the rounds so far and the log so far
abbrev pub standing_at : ScriptParts → ℕ → List PastRound → List ReplicaView → List Step → Standing
standing_at script c rounds views log = standing_through script (setting_in script views) (standing_past script c 0 (first_standing script c) rounds) log

-- what is named next
abbrev pub next_at : ScriptParts → Setting → Standing → Next
next_at script round standing = let chosen = choice (rules_of script) round standing.column standing.driver in chosen.next

-- the one step that the turns name, or none
abbrev pub turn : ScriptParts → ℕ → List PastRound → List ReplicaView → List Step → Next
turn script c rounds views log = next_at script (setting_in script views) (standing_at script c rounds views log)

-- the step is what was named: where a key call was, it has some answer
abbrev pub IsNamed : Next → Step → Type 0
IsNamed (StepNext named) step = step ≡ named
IsNamed (KeyNext call) (Key called answer) = called ≡ call
IsNamed (KeyNext call) _ = ⊥
IsNamed Over step = ⊥

-- a log goes on as the turns name, to its end
abbrev pub IsTurned : ScriptParts → Setting → Standing → List Step → Type 0
IsTurned script round standing [] = next_at script round standing ≡ Over
IsTurned script round standing (step ∷ steps) =
    IsNamed (next_at script round standing) step × IsTurned script round (standing_after script round standing step) steps

-- the lines of these entries
abbrev pub lines_in : List GlobalEntry → List GlobalLine
lines_in entries = map (λ entry. entry.line) entries

-- each log goes by the turns, and the global lines are the script's; before is what was finished
abbrev pub EachRoundTurned : ScriptParts → History → List PastRound → WholeState → List RoundLog → Type 0
EachRoundTurned script run before state [] = Unit {0}
EachRoundTurned script run before state (round ∷ rounds) =
    ((c : ℕ) → c < run.columns →
    IsTurned script (setting_in script (views_of state.epochs)) (standing_at script c before (views_of state.epochs) []) (log_of round c))
    × (lines_in round.globals ≡ (let lines = round_at script (length before) in lines.globals))
    × EachRoundTurned script run (before ++ record { views = views_of state.epochs; round = round } ∷ []) (after_round run round state) rounds

-- a run that goes by the script and the driver's turns
pub record IsDriven (script : ScriptParts) (run : History) : Type 0 where
  pub version : run.version ≡ script.version
  pub size : run.faults ≡ script.size
  pub columns : run.columns ≡ columns_of (client_columns_of script)
  pub client_columns : run.client_columns ≡ client_columns_of script
  pub client_names : run.client_names ≡ map (λ line. line.name) script.clients
  pub key_names : run.key_names ≡ script.keys
  pub rounds : length run.rounds ≡ length script.rounds
  pub turns : EachRoundTurned script run [] (first_state run) run.rounds
