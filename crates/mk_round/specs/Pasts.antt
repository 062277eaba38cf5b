-- A script's run so far: the rounds that are done, the state behind them, and the views that each had.
use Rattle.std.specs.Prelude.{List, [], ◌∷◌, map}
use Rattle.mk_trim.specs.declared.ReplicaView.{ReplicaView}
use Rattle.mk_script.specs.Scripts.{ScriptParts}
use Rattle.mk_model.specs.EpochState.{views_of}
use Rattle.mk_history.specs.declared.RoundLog.{RoundLog}
use Rattle.mk_history.specs.Histories.{History}
use Rattle.mk_history.specs.Shape.{columns_of}
use Rattle.mk_history.specs.Wholes.{WholeState, first_state, after_round, state_through}
use Rattle.mk_driver.specs.Driven.{PastRound, client_columns_of}

-- the run of a script with these rounds
abbrev pub run_of : ScriptParts → List RoundLog → History
run_of script rounds =
    record {
      version = script.version;
      faults = script.size;
      columns = columns_of (client_columns_of script);
      client_columns = client_columns_of script;
      client_names = map (λ line. line.name) script.clients;
      key_names = script.keys;
      rounds = rounds;
    }

-- the state behind these rounds
abbrev pub state_behind : ScriptParts → List RoundLog → WholeState
state_behind script done = state_through (run_of script []) (first_state (run_of script [])) done

-- what the columns see of the replicas in the round behind these
abbrev pub views_behind : ScriptParts → List RoundLog → List ReplicaView
views_behind script done = views_of (state_behind script done).epochs

-- these rounds, the first of which began in this state, with the views that each had
abbrev pub past_from : ScriptParts → WholeState → List RoundLog → List PastRound
past_from script state [] = []
past_from script state (round ∷ rounds) =
    record { views = views_of state.epochs; round = round } ∷ past_from script (after_round (run_of script []) round state) rounds

-- these rounds, from the script's first on, with the views that each had
abbrev pub past_of : ScriptParts → List RoundLog → List PastRound
past_of script done = past_from script (first_state (run_of script [])) done
