-- What a global line of a script may go by.
use Rattle.std.proofs.Common.{◌≡◌, ◌∙◌, ◌<◌, ◌≤◌, ◌+◌, true, refl, sym, ap, subst, arith, List, [], ◌∷◌, ◌++◌, length, length-append}
use Rattle.std.specs.List.{list_all}
use Rattle.std.proofs.lemmas.List.{append-nil}
use Rattle.mk_lists.specs.Among.{Each-append}
use Rattle.mk_words.specs.declared.GlobalEntry.{GlobalEntry}
use Rattle.mk_model.specs.GlobalSteps.{IsAnswer}
use Rattle.mk_history.specs.declared.RoundLog.{RoundLog}
use Rattle.mk_history.specs.Histories.{History}
use Rattle.mk_history.specs.Legality.{IsLegalRound, EachGlobalAnswered}
use Rattle.mk_history.specs.Shape.{HasShape, IsRoundShape, global_fits}
use Rattle.mk_history.specs.Wholes.{WholeState, first_state, after_logs, after_global, globals_through}
use Rattle.mk_script.specs.Scripts.{ScriptParts}
use Rattle.mk_script.specs.Whole.{IsWhole}
use Rattle.mk_driver.specs.Driven.{round_at}
use Rattle.mk_replay_laws.specs.AtLines.{IsReady, LinesAreReady}
use Rattle.mk_run_laws.specs.Cuts.{cut_round}
use Rattle.mk_run_laws.specs.Ends.{whole_within}
use Rattle.mk_run_laws.proofs.Cutting.{logs_same, globals_same, states_same, legal_same}
use Rattle.mk_shape.specs.AttemptCounts.{FewAttempts}
use Rattle.mk_round.specs.Pasts.{run_of, state_behind}
use Rattle.mk_store.specs.Globals.{AreRounds, state_within}
use Rattle.mk_store.proofs.RoundPush.{legal-with}
use Rattle.mk_store.proofs.ShapeLaws.{rounds-fewer, fewer-push, few-cut, run-shape}

-- ready by a run is ready by every run with its tables
ready-alike : (script : ScriptParts) (rounds : List RoundLog) (state : WholeState) → IsReady (run_of script rounds) state → IsReady (run_of script []) state
ready-alike script rounds state h = record { reached = h.reached; fits = h.fits; names = h.names }

pub shape-with : (run : History) (round : RoundLog) (entries : List GlobalEntry) → IsRoundShape run round → list_all (global_fits run) entries ≡ true → IsRoundShape run (cut_round round entries)
shape-with run round entries h fit =
    record { logs = h.logs; journals = h.journals; keys = h.keys; steps = h.steps; entries = h.entries; globals = fit }

module _ (script : ScriptParts) (done : List RoundLog) (round : RoundLog) (entries : List GlobalEntry) where
  abbrev with-lines : List RoundLog
  with-lines = done ++ cut_round round entries ∷ []

  count : length with-lines ≡ length (done ++ round ∷ [])
  count = length-append done (cut_round round entries ∷ []) ∙ sym (length-append done (round ∷ []))

  -- the rounds so far, with one more that has these lines, are a run
  pub shape-within : IsWhole script → AreRounds script done → length done < length script.rounds → IsRoundShape (run_of script []) round →
      list_all (global_fits (run_of script [])) entries ≡ true → FewAttempts (done ++ round ∷ []) →
      length entries ≤ length (let its = round_at script (length done) in its.globals) → HasShape (run_of script with-lines)
  shape-within whole before left shape fit few fewer =
      let run = run_of script [] in
      let long : length with-lines ≡ length done + 1 = length-append done (cut_round round entries ∷ []) in
      run-shape script with-lines whole (omega (arith, long)) (omega (arith, long, left))
      (fewer-push done script.rounds (cut_round round entries) (rounds-fewer script done before.turned (omega (arith, left))) left fewer)
      (few-cut done round entries few)
      (Each-append (IsRoundShape run) done (cut_round round entries ∷ []) before.shapes (shape-with run round entries shape fit, tt))

  whole-is : whole_within (run_of script with-lines) done (cut_round round entries) entries ≡ state_within script done round entries
  whole-is =
      let run = run_of script [] in
      let begin = first_state run in
      ap (λ (s : WholeState). globals_through (run_of script with-lines) (after_logs run (cut_round round entries) s) entries) (states_same run with-lines done begin)
      ∙ globals_same run with-lines entries (after_logs run (cut_round round entries) (state_behind script done))
      ∙ ap (λ (s : WholeState). globals_through run s entries) (logs_same run round entries (state_behind script done))

  -- the next line can be done behind these
  pub ready-within : LinesAreReady → IsWhole script → AreRounds script done → length done < length script.rounds → IsRoundShape (run_of script []) round →
      list_all (global_fits (run_of script [])) entries ≡ true → FewAttempts (done ++ round ∷ []) →
      length entries ≤ length (let its = round_at script (length done) in its.globals) → IsLegalRound (run_of script []) round (state_behind script done) →
      EachGlobalAnswered (run_of script []) (after_logs (run_of script []) round (state_behind script done)) entries →
      IsReady (run_of script []) (state_within script done round entries)
  ready-within law whole before left shape fit few fewer legal answered =
      let run = run_of script [] in
      let begin = first_state run in
      let state = state_behind script done in
      let last = cut_round round entries in
      let here = legal_same run with-lines (last ∷ []) state (legal-with run state round entries legal answered, tt) in
      let told = subst (λ (s : WholeState). IsLegalRound (run_of script with-lines) last s) (sym (states_same run with-lines done begin)) here.0 in
      subst (λ (s : WholeState). IsReady run s) whole-is
      (ready-alike script with-lines (whole_within (run_of script with-lines) done last entries)
      (law (run_of script with-lines) (shape-within whole before left shape fit few fewer) done [] last refl (legal_same run with-lines done begin before.legal) entries []
      (sym (append-nil entries)) told))

-- one more line that is answered
pub answered-push : (run : History) (state : WholeState) (entries : List GlobalEntry) (entry : GlobalEntry) → EachGlobalAnswered run state entries →
    IsAnswer (globals_through run state entries).epochs entry.line entry.answer → EachGlobalAnswered run state (entries ++ entry ∷ [])
answered-push run state [] entry h answer = (answer, tt)
answered-push run state (e ∷ entries) entry h answer = (h.0, answered-push run (after_global run state e) entries entry h.1 answer)
