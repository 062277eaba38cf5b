-- The lines of a run's rounds, cut after some of them.
use Rattle.std.proofs.Common.{◌≡◌, refl, sym, ap, ◌∙◌, List, [], ◌∷◌, ◌++◌, subst}
use Rattle.mk_words.specs.declared.GlobalEntry.{GlobalEntry}
use Rattle.mk_model.specs.EpochState.{EpochState, first_epochs}
use Rattle.mk_epoch_laws.specs.Turns.{GlobalTurn, after_turns, EachAnswered}
use Rattle.mk_history.specs.Histories.{History}
use Rattle.mk_history.specs.Legality.{EachGlobalAnswered}
use Rattle.mk_history.specs.Wholes.{WholeState, first_state, after_logs, after_global, globals_through, state_through}
use Rattle.mk_run_laws.specs.RunEvents.{turn_of, turns_in, turns_of, turns_from}
use Rattle.mk_run_laws.specs.Ends.{RoundsSplit, TurnsWithin}
use Rattle.mk_run_laws.proofs.Lines.{after_turns-append, answered-later, legal-first, turns_from-append, lines_are_turns, answered-join, lines-lead, lines-answered}

pub rounds_split : RoundsSplit
rounds_split run done rest legal =
    let begin = first_epochs run.faults in
    let early = turns_of run done in
    let more = turns_from run (state_through run (first_state run) done) rest in
    let whole = turns_from-append run (first_state run) done rest in
    let first = lines_are_turns run done (legal-first run (first_state run) done rest legal) in
    let all = lines_are_turns run (done ++ rest) legal in
    record {
      more = more;
      early = first.0;
      late = answered-later begin early more (subst (EachAnswered begin) whole all.0);
      to_done = first.1;
      to_end = sym (after_turns-append begin early more) ∙ ap (λ (ts : List GlobalTurn). after_turns begin ts) (sym whole) ∙ all.1;
    }

-- ---- within a round

pub globals_through-append : (run : History) (state : WholeState) (one other : List GlobalEntry) → globals_through run state (one ++ other) ≡ globals_through run (globals_through run state one) other
globals_through-append run state [] other = refl
globals_through-append run state (entry ∷ one) other = globals_through-append run (after_global run state entry) one other

pub turns_in-append : (run : History) (state : WholeState) (one other : List GlobalEntry) → turns_in run state (one ++ other) ≡ turns_in run state one ++ turns_in run (globals_through run state one) other
turns_in-append run state [] other = refl
turns_in-append run state (entry ∷ one) other = ap (λ (ts : List GlobalTurn). turn_of state entry ∷ ts) (turns_in-append run (after_global run state entry) one other)

pub globals-first : (run : History) (state : WholeState) (one other : List GlobalEntry) → EachGlobalAnswered run state (one ++ other) → EachGlobalAnswered run state one
globals-first run state [] other h = tt
globals-first run state (entry ∷ one) other h = (h.0, globals-first run (after_global run state entry) one other h.1)

pub turns_within : TurnsWithin
turns_within run done round lines more legal fine split =
    let begin = first_epochs run.faults in
    let early = turns_of run done in
    let logs = after_logs run round (state_through run (first_state run) done) in
    let here = turns_in run logs lines in
    let first = lines_are_turns run done legal in
    let each = globals-first run logs lines more (subst (EachGlobalAnswered run logs) split fine.globals) in
    let answered = lines-answered run lines logs each in (
      answered-join begin early here first.0 (subst (λ (s : EpochState). EachAnswered s here) (sym first.1) answered),
      after_turns-append begin early here ∙ ap (λ (s : EpochState). after_turns s here) first.1 ∙ lines-lead run lines logs,
    )
