-- A store behind a round and its lines.
use Rattle.std.proofs.Common.{◌≡◌, ◌<◌, ℕ, refl, sym, ap, subst, ◌∙◌, List, [], ◌∷◌, ◌++◌, Some, length, map}
use Rattle.std.specs.Prelude.{slice_get, IsSome}
use Rattle.std.proofs.lemmas.Option.{slice_get_within}
use Rattle.mk_words.specs.declared.GlobalEntry.{GlobalEntry}
use Rattle.mk_script.specs.Scripts.{ScriptParts}
use Rattle.mk_model.specs.Logs.{reading_ended}
use Rattle.mk_snap.specs.Snapshots.{SnapState, SnapStands}
use Rattle.mk_history.specs.declared.RoundLog.{RoundLog}
use Rattle.mk_history.specs.Wholes.{WholeState, after_logs, globals_through}
use Rattle.mk_run_laws.proofs.Cutting.{logs_same}
use Rattle.mk_driver.specs.Drivers.{DriverView}
use Rattle.mk_driver_laws.specs.Enabled.{HasComeAfterRound, HasComeAtFirst}
use Rattle.mk_state.specs.Standings.{WholeView, IsAt, IsWithin}
use Rattle.mk_round.specs.Pasts.{run_of, state_behind}
use Rattle.mk_round.specs.Turning.{IsNext}
use Rattle.mk_round.specs.Begun.{AreFirst}
use Rattle.mk_round.specs.Stores.{StoreView, IsBetween, HasWorked, AreDone, column_count}
use Rattle.mk_round.proofs.PastLaws.{behind_more, length_more}
use Rattle.mk_round.proofs.NextLaws.{LinesAreLeft, StandAfterRound, StandAtFirst, next_behind, next_first}

-- what is kept within a round is the state behind it, once its reading has ended
at_end : (script : ScriptParts) (whole : WholeView SnapState) (state : WholeState) → IsWithin SnapStands (run_of script []) whole state →
    IsAt SnapStands (run_of script []) whole (record state { columns = map reading_ended state.columns })
at_end script whole state within =
    record {
      sizes = within.sizes;
      columns = ap (map reading_ended) within.columns;
      cells = within.cells;
      epochs = within.epochs;
      count = within.count;
    }

-- the state behind a round with these lines
behind_lines : (script : ScriptParts) (done : List RoundLog) (round : RoundLog) (entries : List GlobalEntry) →
    (let ended = globals_through (run_of script []) (after_logs (run_of script []) round (state_behind script done)) entries in
    record ended { columns = map reading_ended ended.columns }) ≡ state_behind script (done ++ record round { globals = entries } ∷ [])
behind_lines script done round entries =
    let run = run_of script [] in
    let ended : WholeState → WholeState = λ state. (let s = globals_through run state entries in record s { columns = map reading_ended s.columns }) in
    ap ended (sym (logs_same run round entries (state_behind script done))) ∙ sym (behind_more script done (record round { globals = entries }))

module _ (left_law : LinesAreLeft) (round_law : StandAfterRound) (come_law : HasComeAfterRound) where
  pub between_behind : (script : ScriptParts) (done : List RoundLog) (round : RoundLog) (entries : List GlobalEntry) (store new_store : StoreView) →
      HasWorked script done round store → AreDone script done round entries store new_store →
      IsBetween script (done ++ record round { globals = entries } ∷ []) new_store
  between_behind script done round entries store new_store worked lines =
      let run = run_of script [] in
      let ended = globals_through run (after_logs run round (state_behind script done)) entries in
      record {
        round = lines.round_is ∙ worked.begun ∙ sym (length_more done (record round { globals = entries }));
        at = subst (IsAt SnapStands run new_store.whole) (behind_lines script done round entries) (at_end script new_store.whole ended lines.within);
        as_many = ap (λ (ds : List DriverView). length ds) lines.drivers ∙ worked.as_many;
        next = λ c driver at.
            let here : slice_get store.drivers c ≡ Some driver = ap (λ (ds : List DriverView). slice_get ds c) (sym lines.drivers) ∙ at in
            next_behind left_law round_law come_law script done round entries c driver
            (subst (λ n. c < n) worked.as_many (slice_get_within store.drivers c driver here)) (worked.over c driver here);
      }

-- before the first round
pub between_first : StandAtFirst → HasComeAtFirst → (script : ScriptParts) (columns : ℕ) (whole : WholeView SnapState) (drivers : List DriverView) → columns ≡ column_count script →
    IsAt SnapStands (run_of script []) whole (state_behind script []) → AreFirst script columns drivers →
    IsBetween script [] (record { round = 0; whole = whole; drivers = drivers })
between_first stands_law come_law script columns whole drivers count at first =
    record {
      round = refl;
      at = at;
      as_many = first.all ∙ count;
      next = λ c driver here.
          let is = first.each c driver here in
          let lt : c < column_count script = subst (λ n. c < n) (first.all ∙ count) (slice_get_within drivers c driver here) in
          subst (IsNext script [] c) (sym is.driver_is)
          (next_first stands_law come_law script c lt (λ some. subst (λ (d : DriverView). IsSome (slice_get d.rounds 0)) is.driver_is (is.left some)));
    }
