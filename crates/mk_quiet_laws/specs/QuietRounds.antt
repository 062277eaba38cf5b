-- The one round of a quiet script: no global lines, every replica serves epoch 0, no message is faulty, and no attempt stops.
use Rattle.std.specs.Prelude.{◌≡◌, ◌<◌, ℕ, true, List, [], ◌∷◌, map, None, slice_get}
use Rattle.mk_txn.specs.declared.TxnId.{TxnId}
use Rattle.mk_words.specs.declared.Msg.{Msg}
use Rattle.mk_quorum.specs.Sizes.{members}
use Rattle.mk_trim.specs.declared.ReplicaView.{ReplicaView}
use Rattle.mk_script.specs.declared.lines.Fate.TheVariants.{Deliver}
use Rattle.mk_script.specs.Scripts.{ScriptParts}
use Rattle.mk_script.specs.Quiet.{IsQuiet}
use Rattle.mk_faults.specs.Fates.{rules_of, fate_at, stop_of}
use Rattle.mk_words.specs.declared.Step.{Step}
use Rattle.mk_model.specs.ColumnState.{Setting}
use Rattle.mk_model.specs.Replicas.{serves}
use Rattle.mk_model.specs.EpochState.{first_epochs, views_of}
use Rattle.mk_column_laws.specs.Moments.{Moment, moment_through, round_begun}
use Rattle.mk_column_laws.specs.Moments.Event.{Doing}
use Rattle.mk_history.specs.declared.RoundLog.{RoundLog}
use Rattle.mk_history.specs.Histories.{History, log_of}
use Rattle.mk_history.specs.Wholes.{last_state}
use Rattle.mk_driver.specs.Driven.{Standing, IsDriven, IsTurned, first_standing, setting_in, standing_begun, standing_through}
use Rattle.mk_run_laws.specs.Ends.{last_moment}
use Rattle.mk_run_laws.specs.RunEvents.{start_of}

-- the replicas at the start
abbrev pub first_views : ScriptParts → List ReplicaView
first_views script = views_of (first_epochs script.size)

-- what the columns go by in the round
abbrev pub quiet_setting : ScriptParts → Setting
quiet_setting script = setting_in script (first_views script)

-- driver and column as the round begins, and after these steps
abbrev pub quiet_begun : ScriptParts → ℕ → Standing
quiet_begun script c = standing_begun script 0 (first_standing script c)

abbrev pub quiet_standing : ScriptParts → ℕ → List Step → Standing
quiet_standing script c log = standing_through script (quiet_setting script) (quiet_begun script c) log

-- the moment of a column as the round begins, and after these steps
abbrev pub quiet_opening : ScriptParts → History → ℕ → Moment
quiet_opening script run c = round_begun (first_views script) [] (start_of run c)

abbrev pub quiet_moment : ScriptParts → History → ℕ → List Step → Moment
quiet_moment script run c log = moment_through (quiet_opening script run c) (map Doing log)

-- the run has one round, in which each column goes by the driver's turns, and at its end no epoch was touched
pub record IsOneRound (script : ScriptParts) (run : History) : Type 0 where
  pub round : RoundLog
  pub rounds : run.rounds ≡ round ∷ []
  pub no_lines : round.globals ≡ []
  pub turns : (c : ℕ) → c < run.columns → IsTurned script (quiet_setting script) (quiet_begun script c) (log_of round c)
  pub ends : (c : ℕ) → last_moment run c ≡ quiet_moment script run c (log_of round c)
  pub epochs : (last_state run).epochs ≡ first_epochs run.faults

abbrev pub QuietRunsHaveOneRound : Type 0
QuietRunsHaveOneRound = (script : ScriptParts) (run : History) → IsQuiet script → IsDriven script run → IsOneRound script run

-- at every place of a log the moment is that of the standing
pub record IsMomentAt (script : ScriptParts) (run : History) (c : ℕ) (log : List Step) : Type 0 where
  pub setting : (quiet_moment script run c log).round ≡ quiet_setting script
  pub column : (quiet_moment script run c log).column ≡ (quiet_standing script c log).column
  pub now : (quiet_moment script run c log).past.now ≡ 1

abbrev pub QuietMomentsAreStandings : Type 0
QuietMomentsAreStandings = (script : ScriptParts) (run : History) → IsDriven script run → (c : ℕ) (log : List Step) → IsMomentAt script run c log

-- every replica serves epoch 0
abbrev pub AllServeFirst : Type 0
AllServeFirst = (script : ScriptParts) (r : ℕ) → r < members script.size → serves 0 (slice_get (first_views script) r) ≡ true

-- every message is delivered, and no attempt is stopped
pub record IsUndisturbed (script : ScriptParts) : Type 0 where
  pub delivered : (link : List Msg) (number : ℕ) → fate_at (rules_of script) link number ≡ Deliver
  pub unstopped : (id : TxnId) → stop_of (rules_of script) id ≡ None

abbrev pub QuietIsUndisturbed : Type 0
QuietIsUndisturbed = (script : ScriptParts) → IsQuiet script → IsUndisturbed script
