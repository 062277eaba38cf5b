-- A machine that has replayed some rounds, and one round more.
use Rattle.std.proofs.Common.{◌≡◌, ◌∙◌, ◌==◌, ℕ, refl, sym, ap, subst, List, [], ◌∷◌, ◌++◌, length, map, Option, Some, None, Bool, true, false, not}
use Rattle.std.specs.Prelude.{is_some}
use Rattle.std.specs.List.{list_any}
use Rattle.mk_lists.specs.Among.{Each}
use Rattle.mk_lists.proofs.Changes.{map-map_same}
use Rattle.mk_model.specs.ColumnState.{ColumnState, Learning}
use Rattle.mk_model.specs.Logs.{reading_ended}
use Rattle.mk_column.specs.ColumnByCode.{ColumnView}
use Rattle.mk_words.specs.declared.GlobalEntry.{GlobalEntry}
use Rattle.mk_history.specs.declared.RoundLog.{RoundLog}
use Rattle.mk_history.specs.Histories.{History}
use Rattle.mk_history.specs.Learning.{entered_through}
use Rattle.mk_history.specs.Wholes.{WholeState, first_state, state_through, after_round}
use Rattle.mk_verdict.specs.declared.PlacedFlaw.{PlacedFlaw}
use Rattle.mk_verdict.specs.Flaws.{flaw_of_round}
use Rattle.mk_verdict.proofs.Rounds.{round_is_legal}
use Rattle.mk_words.specs.Bases.{BaseState}
use Rattle.mk_state.specs.Handing.{states_in}
use Rattle.mk_state.specs.Standings.{WholeView, IsOfRun, IsAt}
use Rattle.mk_whole.specs.Standings.{IsItself, MayReplay}
use Rattle.mk_run.specs.Attempts.{outcomes_of}
use Rattle.mk_run.specs.Firsts.{StandsForFound, all_noted}
use Rattle.mk_run.specs.Judging.{WatchView, HasReplayed}
use Rattle.mk_run.specs.Lines.{lines_of_views}
use Rattle.mk_run.specs.News.{all_news, known_of, told_in, news_by_lines, entered_along, found_along, SameEpochs}
use Rattle.mk_run.proofs.JudgeLaws.{state-push}
use Rattle.mk_run.proofs.NotedLaws.{through-same, round-noted}
use Rattle.mk_run.proofs.OutcomeLaws.{lines-are_outcomes}
use Rattle.mk_run.proofs.RoundLaws.{learned_by}
use Rattle.mk_run.proofs.TellLaws.{round-tells}

-- what a column has learned, as it is kept
abbrev heard_by : ColumnView → List Learning
heard_by view = view.state.learned

heard-states : (views : List ColumnView) → map heard_by views ≡ map learned_by (states_in views)
heard-states [] = refl
heard-states (v ∷ views) = ap (λ (rest : List (List Learning)). v.state.learned ∷ rest) (heard-states views)

heard-ended : (views : List ColumnView) (columns : List ColumnState) → map reading_ended (states_in views) ≡ columns → map heard_by views ≡ map learned_by columns
heard-ended views columns is =
    heard-states views ∙ sym (map-map_same learned_by reading_ended (λ x. refl) (states_in views)) ∙ ap (map learned_by) is

known-heard : (views : List ColumnView) → map known_of views ≡ map (λ (learned : List Learning). length learned) (map heard_by views)
known-heard [] = refl
known-heard (v ∷ views) = ap (λ (rest : List ℕ). known_of v ∷ rest) (known-heard views)

known-learned : (columns : List ColumnState) → map (λ (column : ColumnState). length column.learned) columns ≡ map (λ (learned : List Learning). length learned) (map learned_by columns)
known-learned [] = refl
known-learned (column ∷ columns) = ap (λ (rest : List ℕ). length column.learned ∷ rest) (known-learned columns)

known-ended : (views : List ColumnView) (columns : List ColumnState) → map reading_ended (states_in views) ≡ columns →
    map known_of views ≡ map (λ (column : ColumnState). length column.learned) columns
known-ended views columns is =
    known-heard views ∙ ap (map (λ (learned : List Learning). length learned)) (heard-ended views columns is) ∙ sym (known-learned columns)

pub entered-push : (entered : List ℕ) (done : List RoundLog) (round : RoundLog) → entered_along entered (done ++ round ∷ []) ≡ entered_through (entered_along entered done) round.globals
entered-push entered [] round = refl
entered-push entered (r ∷ done) round = entered-push (entered_through entered r.globals) done round

-- the round is replayed and has no flaw, and what was learned in it is noted
pub replayed-next : (run : History) (done : List RoundLog) (round : RoundLog) (old new : WatchView) (mid : WholeView BaseState) (known : List ℕ) (lines : List GlobalEntry) →
    MayReplay run done old.whole round → HasReplayed run old done →
    flaw_of_round run (state_through run (first_state run) done) round ≡ None →
    IsAt IsItself run mid (after_round run round (state_through run (first_state run) done)) → new.whole ≡ mid →
    known ≡ map known_of old.whole.columns → lines ≡ round.globals →
    new.firsts ≡ all_noted (news_by_lines (told_in (after_round run round (state_through run (first_state run) done)).epochs) old.entered lines) (all_noted (all_news mid.columns known) old.firsts) →
    SameEpochs new.entered (entered_through old.entered lines) → new.client_columns ≡ old.client_columns →
    HasReplayed run new (done ++ round ∷ [])
replayed-next run done round old new mid known lines may was none at whole_is known_is lines_is firsts_are entered_are columns_are =
    let state = state_through run (first_state run) done in
    let ended = after_round run round state in
    let told = told_in ended.epochs in
    let legal = round_is_legal run state round none in
    let noted = round-noted run done round old.firsts mid.columns known old.entered told was.firsts
    (heard-ended mid.columns ended.columns at.columns)
    (known_is ∙ known-ended old.whole.columns state.columns was.at.columns)
    was.entered
    (round-tells run done round may.legal legal) in
    record {
      at = subst (λ (w : WholeView BaseState). IsAt IsItself run w (state_through run (first_state run) (done ++ round ∷ []))) (sym whole_is)
          (subst (λ (s : WholeState). IsAt IsItself run mid s) (sym (state-push run (first_state run) done round)) at);
      firsts = subst (λ fs. StandsForFound fs (found_along run (done ++ round ∷ [])))
          (sym (firsts_are ∙ ap (λ (ls : List GlobalEntry). all_noted (news_by_lines told old.entered ls) (all_noted (all_news mid.columns known) old.firsts)) lines_is)) noted;
      entered = λ epoch.
          entered_are epoch
          ∙ ap (λ (ls : List GlobalEntry). list_any (λ e. e == epoch) (entered_through old.entered ls)) lines_is
          ∙ through-same round.globals old.entered (entered_along [] done) was.entered epoch
          ∙ ap (λ (es : List ℕ). list_any (λ e. e == epoch) es) (sym (entered-push [] done round));
      client_columns = columns_are ∙ was.client_columns;
    }

pub not-none : (o : Option PlacedFlaw) (none : Bool) → is_some o ≡ not none → none ≡ false → o ≡ None → ⊥
not-none (Some flaw) none some off is = absurd (cc is)
not-none None true some off is = absurd (cc off)
not-none None false some off is = absurd (cc some)

each-faults : (run : History) (columns : List ColumnView) → Each (IsOfRun run) columns → Each (λ column. column.setting.faults ≡ run.faults) columns
each-faults run [] h = tt
each-faults run (column ∷ columns) h = (h.0.faults, each-faults run columns h.1)

-- what is made of a machine that has replayed the run is how its attempts ended
pub outcomes-left : (run : History) (watch : WatchView) → HasReplayed run watch run.rounds →
    lines_of_views watch.firsts watch.whole.columns 1 watch.client_columns ≡ outcomes_of run
outcomes-left run watch was =
    ap (lines_of_views watch.firsts watch.whole.columns 1) was.client_columns
    ∙ lines-are_outcomes run watch.firsts watch.whole.columns (each-faults run watch.whole.columns was.at.sizes.each) was.at.columns was.firsts
