-- One round more of a script's run.
use Rattle.std.proofs.Common.{◌≡◌, ◌∙◌, ◌<◌, ℕ, suc, refl, sym, ap, subst, append_assoc, List, [], ◌∷◌, ◌++◌, length}
use Rattle.std.proofs.lemmas.List.{append-nil}
use Rattle.mk_model.specs.EpochState.{views_of}
use Rattle.mk_words.specs.declared.GlobalEntry.{GlobalEntry}
use Rattle.mk_history.specs.declared.RoundLog.{RoundLog}
use Rattle.mk_history.specs.Histories.{History, log_of}
use Rattle.mk_history.specs.Legality.{IsLegal, IsLegalRound, EachRoundLegal, EachGlobalAnswered}
use Rattle.mk_history.specs.Wholes.{WholeState, first_state, after_logs, after_round, state_through, last_state}
use Rattle.mk_script.specs.Scripts.{ScriptParts}
use Rattle.mk_driver.specs.Driven.{PastRound, IsTurned, EachRoundTurned, IsDriven, lines_in, round_at, setting_in, standing_at}
use Rattle.mk_run_laws.specs.Cuts.{cut_round}
use Rattle.mk_run_laws.proofs.Cutting.{logs_same, round_same, states_same, legal_same}
use Rattle.mk_run_laws.proofs.Lines.{state_through-append}
use Rattle.mk_round.specs.Pasts.{run_of, state_behind, views_behind, past_from, past_of}
use Rattle.mk_round.specs.Stores.{column_count}

-- ---- legal

-- legal rounds, and one more that is legal behind them
pub legal-push : (run : History) (state : WholeState) (done : List RoundLog) (round : RoundLog) → EachRoundLegal run state done →
    IsLegalRound run round (state_through run state done) → EachRoundLegal run state (done ++ round ∷ [])
legal-push run state [] round h legal = (legal, tt)
legal-push run state (r ∷ done) round h legal = (h.0, legal-push run (after_round run r state) done round h.1 legal)

pub state-push : (script : ScriptParts) (done : List RoundLog) (round : RoundLog) →
    state_behind script (done ++ round ∷ []) ≡ after_round (run_of script []) round (state_behind script done)
state-push script done round = state_through-append (run_of script []) (first_state (run_of script [])) done (round ∷ [])

-- a round that is legal with no lines is legal with lines that are answered behind its logs
pub legal-with : (run : History) (state : WholeState) (round : RoundLog) (entries : List GlobalEntry) → IsLegalRound run round state →
    EachGlobalAnswered run (after_logs run round state) entries → IsLegalRound run (cut_round round entries) state
legal-with run state round entries legal answered =
    record {
      logs = legal.logs;
      journals = legal.journals;
      matched = legal.matched;
      globals = subst (λ (s : WholeState). EachGlobalAnswered run s entries) (sym (logs_same run round entries state)) answered;
    }

-- the script's run with these rounds is legal
pub run-legal : (script : ScriptParts) (done : List RoundLog) → EachRoundLegal (run_of script []) (first_state (run_of script [])) done → IsLegal (run_of script done)
run-legal script done h = legal_same (run_of script []) done done (first_state (run_of script [])) h

-- and ends in the state behind them
pub last-behind : (script : ScriptParts) (done : List RoundLog) → last_state (run_of script done) ≡ state_behind script done
last-behind script done = states_same (run_of script []) done done (first_state (run_of script []))

-- ---- driven

-- the round goes by the turns behind these, and its lines are the script's
abbrev pub IsTurnedIn : ScriptParts → List PastRound → WholeState → RoundLog → Type 0
IsTurnedIn script before state round =
    ((c : ℕ) → c < column_count script →
    IsTurned script (setting_in script (views_of state.epochs)) (standing_at script c before (views_of state.epochs) []) (log_of round c))
    × (lines_in round.globals ≡ (let lines = round_at script (length before) in lines.globals))

turned-more : (script : ScriptParts) (before : List PastRound) (state : WholeState) (done : List RoundLog) (round : RoundLog) →
    EachRoundTurned script (run_of script []) before state done →
    IsTurnedIn script (before ++ past_from script state done) (state_through (run_of script []) state done) round →
    EachRoundTurned script (run_of script []) before state (done ++ round ∷ [])
turned-more script before state [] round h t =
    let here = subst (λ (b : List PastRound). IsTurnedIn script b state round) (append-nil before) t in
    (here.0, here.1, tt)
turned-more script before state (r ∷ done) round h t =
    let run = run_of script [] in
    let past : PastRound = record { views = views_of state.epochs; round = r } in
    let next = after_round run r state in (
      h.0,
      h.1,
      turned-more script (before ++ past ∷ []) next done round h.2
          (subst (λ (b : List PastRound). IsTurnedIn script b (state_through run next done) round) (sym (append_assoc before (past ∷ []) (past_from script next done))) t),
    )

past-length : (script : ScriptParts) (state : WholeState) (done : List RoundLog) → length (past_from script state done) ≡ length done
past-length script state [] = refl
past-length script state (round ∷ done) = ap suc (past-length script (after_round (run_of script []) round state) done)

-- rounds that go by the turns, and one more that goes by them and has the script's lines
pub turned-push : (script : ScriptParts) (done : List RoundLog) (round : RoundLog) → EachRoundTurned script (run_of script []) [] (first_state (run_of script [])) done →
    ((c : ℕ) → c < column_count script →
    IsTurned script (setting_in script (views_behind script done)) (standing_at script c (past_of script done) (views_behind script done) []) (log_of round c)) →
    lines_in round.globals ≡ (let lines = round_at script (length done) in lines.globals) →
    EachRoundTurned script (run_of script []) [] (first_state (run_of script [])) (done ++ round ∷ [])
turned-push script done round h turned lines =
    let begin = first_state (run_of script []) in
    let count : length done ≡ length (past_of script done) = sym (past-length script begin done) in
    turned-more script [] begin done round h (turned, lines ∙ ap (λ (n : ℕ). let r = round_at script n in r.globals) count)

turned-same : (script : ScriptParts) (rounds : List RoundLog) (before : List PastRound) (state : WholeState) (done : List RoundLog) →
    EachRoundTurned script (run_of script []) before state done → EachRoundTurned script (run_of script rounds) before state done
turned-same script rounds before state [] h = tt
turned-same script rounds before state (round ∷ done) h =
    let run = run_of script [] in
    let past : PastRound = record { views = views_of state.epochs; round = round } in (
      h.0,
      h.1,
      turned-same script rounds (before ++ past ∷ []) (after_round (run_of script rounds) round state) done
          (subst (λ (s : WholeState). EachRoundTurned script run (before ++ past ∷ []) s done) (sym (round_same run rounds round state)) h.2),
    )

-- the script's run with these rounds is driven by it, where there are as many
pub run-driven : (script : ScriptParts) (done : List RoundLog) → length done ≡ length script.rounds →
    EachRoundTurned script (run_of script []) [] (first_state (run_of script [])) done → IsDriven script (run_of script done)
run-driven script done all h =
    record {
      version = refl;
      size = refl;
      columns = refl;
      client_columns = refl;
      client_names = refl;
      key_names = refl;
      rounds = all;
      turns = turned-same script done [] (first_state (run_of script [])) done h;
    }
