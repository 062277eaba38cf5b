-- A store that goes by a script: between two rounds, and behind the work of one.
use Rattle.std.specs.Prelude.{◌≡◌, ℕ, ◌+◌, ◌<◌, List, [], length, slice_get, Some}
use Rattle.mk_script.specs.Scripts.{ScriptParts}
use Rattle.mk_script.specs.Whole.{IsWhole}
use Rattle.mk_faults.specs.Fates.{RuleLines, rules_of}
use Rattle.mk_words.specs.declared.GlobalEntry.{GlobalEntry}
use Rattle.mk_snap.specs.Snapshots.{SnapState, SnapStands}
use Rattle.mk_history.specs.declared.RoundLog.{RoundLog}
use Rattle.mk_history.specs.Histories.{log_of}
use Rattle.mk_history.specs.Legality.{IsLegalRound}
use Rattle.mk_history.specs.Wholes.{after_logs, globals_through}
use Rattle.mk_driver.specs.Drivers.{DriverView}
use Rattle.mk_driver.specs.Driven.{IsTurned, setting_in, standing_at}
use Rattle.mk_state.specs.Standings.{WholeView, IsAt, IsWithin}
use Rattle.mk_round.specs.Pasts.{run_of, state_behind, views_behind, past_of}
use Rattle.mk_round.specs.Turning.{IsNext, IsOver}

-- how many rounds were begun; columns, cells and epochs; and a driver for each column
pub record StoreView : Type 0 where
  pub round : ℕ
  pub whole : WholeView SnapState
  pub drivers : List DriverView

-- how many columns the script has
abbrev pub column_count : ScriptParts → ℕ
column_count script = let run = run_of script [] in run.columns

-- between two rounds: columns, cells and epochs are those behind the rounds, and so is each driver
pub record IsBetween (script : ScriptParts) (done : List RoundLog) (store : StoreView) : Type 0 where
  pub round : store.round ≡ length done
  pub at : IsAt SnapStands (run_of script []) store.whole (state_behind script done)
  pub as_many : length store.drivers ≡ column_count script
  pub next : (c : ℕ) (driver : DriverView) → slice_get store.drivers c ≡ Some driver → IsNext script done c driver

-- The columns have worked: the round has all but its global lines, is legal so far, and each log goes by the turns to its end. What is
-- kept is the state behind the logs, and each driver is at its end.
pub record HasWorked (script : ScriptParts) (done : List RoundLog) (round : RoundLog) (store : StoreView) : Type 0 where
  pub begun : store.round ≡ length done + 1
  pub globals : round.globals ≡ []
  pub legal : IsLegalRound (run_of script []) round (state_behind script done)
  pub turned : (c : ℕ) → c < column_count script →
      IsTurned script (setting_in script (views_behind script done)) (standing_at script c (past_of script done) (views_behind script done) []) (log_of round c)
  pub within : IsWithin SnapStands (run_of script []) store.whole (after_logs (run_of script []) round (state_behind script done))
  pub as_many : length store.drivers ≡ column_count script
  pub over : (c : ℕ) (driver : DriverView) → slice_get store.drivers c ≡ Some driver → IsOver script done round c driver

-- Behind the work of a round these lines were done: what is kept is the state behind them, and all else of the store is as it was.
pub record AreDone (script : ScriptParts) (done : List RoundLog) (round : RoundLog) (entries : List GlobalEntry) (store new_store : StoreView) : Type 0 where
  pub round_is : new_store.round ≡ store.round
  pub within : IsWithin SnapStands (run_of script []) new_store.whole (globals_through (run_of script []) (after_logs (run_of script []) round (state_behind script done)) entries)
  pub drivers : new_store.drivers ≡ store.drivers

-- the next round can be done: the script's limits hold, the rules are the script's, and it has a round more
pub record MayWork (rules : RuleLines) (script : ScriptParts) (done : List RoundLog) (store : StoreView) : Type 0 where
  pub rules_are : rules ≡ rules_of script
  pub whole : IsWhole script
  pub between : IsBetween script done store
  pub left : length done < length script.rounds
