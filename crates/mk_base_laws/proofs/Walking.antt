-- The moments of a run's column: what holds at each, what comes later, and how a fact goes along the log of a round.
use Rattle.std.proofs.Common.{◌≡◌, ◌<◌, ℕ, refl, sym, ap, ◌∙◌, List, [], ◌∷◌, ◌++◌, None, subst, map}
use Rattle.std.proofs.lemmas.List.{append_assoc}
use Rattle.mk_words.specs.declared.Step.{Step}
use Rattle.mk_model.specs.Conditions.{blocked}
use Rattle.mk_model.specs.EpochState.{EpochState, first_epochs, views_of}
use Rattle.mk_epoch_laws.specs.Turns.{after_turns}
use Rattle.mk_epoch_laws.proofs.EpochFacts.{EpochFacts}
use Rattle.mk_epoch_laws.proofs.FactsKept.{facts_first}
use Rattle.mk_epoch_laws.proofs.Extending.{Extends}
use Rattle.mk_epoch_laws.proofs.Turning.{facts_turns, turns_extend}
use Rattle.mk_column_laws.specs.Moments.{Moment, Taught, Event, EachHappens, after_event, moment_through, step_done}
use Rattle.mk_column_laws.specs.Moments.Event.{NewRound, Doing}
use Rattle.mk_column_laws.specs.Laws.{AlwaysHolds}
use Rattle.mk_column_laws.specs.Facts.{Grows}
use Rattle.mk_history.specs.declared.RoundLog.{RoundLog}
use Rattle.mk_history.specs.Histories.{History, log_of}
use Rattle.mk_history.specs.Legality.{IsLegal, EachRoundLegal}
use Rattle.mk_history.specs.Wholes.{first_state, after_round, state_through}
use Rattle.mk_run_laws.specs.RunEvents.{IsMomentOf, emptied_in, events_from, events_of, start_of, moment_of, turns_of}
use Rattle.mk_run_laws.specs.TaughtIn.{taught_in}
use Rattle.mk_run_laws.specs.Ends.{epochs_after, last_moment}
use Rattle.mk_run_laws.proofs.Joined.{begins, moment_through-append}
use Rattle.mk_run_laws.proofs.Lines.{legal-first}
use Rattle.mk_run_laws.proofs.Splitting.{rounds_split}
use Rattle.mk_run_laws.proofs.Emptied.{emptied_before, events_from-append, moment_more}
use Rattle.mk_run_laws.proofs.Reaching.{happens_all, happens-first}
use Rattle.mk_run_laws.proofs.Voted.{events_split}
use Rattle.mk_base_laws.proofs.Lower.{Lower}

happens-later : (run : History) (m : Moment) (one other : List Event) → EachHappens (taught_in run) m (one ++ other) → EachHappens (taught_in run) (moment_through m one) other
happens-later run m [] other h = h
happens-later run m (event ∷ one) other h = happens-later run (after_event event m) one other h.1

-- ---- the epoch machine

-- the rounds up to here are legal
pub legal_done : (run : History) → IsLegal run → (done rest : List RoundLog) → run.rounds ≡ done ++ rest → EachRoundLegal run (first_state run) done
legal_done run legal done rest split = legal-first run (first_state run) done rest (subst (EachRoundLegal run (first_state run)) split legal)

pub facts_after_rounds : (run : History) → IsLegal run → (done rest : List RoundLog) → run.rounds ≡ done ++ rest → EpochFacts (epochs_after run done)
facts_after_rounds run legal done rest split =
    let s = rounds_split run done rest (subst (EachRoundLegal run (first_state run)) split legal) in
    subst EpochFacts s.to_done (facts_turns (first_epochs run.faults) (facts_first run.faults) (turns_of run done) s.early)

-- what is kept of promises, bases and adoptions only grows
pub later_extends : (run : History) → IsLegal run → (done more rest : List RoundLog) → run.rounds ≡ (done ++ more) ++ rest → Extends (epochs_after run done) (epochs_after run (done ++ more))
later_extends run legal done more rest split =
    let s = rounds_split run done more (legal_done run legal (done ++ more) rest split) in
    let early = after_turns (first_epochs run.faults) (turns_of run done) in
    let facts = facts_turns (first_epochs run.faults) (facts_first run.faults) (turns_of run done) s.early in
    subst (λ (e : EpochState). Extends e (epochs_after run (done ++ more))) s.to_done
    (subst (Extends early) s.to_end (turns_extend early facts s.more s.late))

-- ---- a column

module _ (laws : Lower) (run : History) (legal : IsLegal run) (c : ℕ) (lt : c < run.columns) where
  -- what always holds of columns holds at a moment of the run
  pub at_moment : (P : Taught → Moment → Type 0) → AlwaysHolds P → (m : Moment) → IsMomentOf run c m → P (taught_in run) m
  at_moment P always m k = always (taught_in run) (laws.teaching run) m (laws.reach run legal c lt m k)

  -- what comes later can happen
  pub later_happens : (m : Moment) (k : IsMomentOf run c m) → EachHappens (taught_in run) m k.later
  later_happens m k =
      subst (λ (n : Moment). EachHappens (taught_in run) n k.later) k.leads
      (happens-later run (start_of run c) k.events k.later
      (subst (EachHappens (taught_in run) (start_of run c)) (sym k.whole) (happens_all run legal c lt laws.phases laws.held laws.stay laws.entered)))

  pub grows_by : (m : Moment) → IsMomentOf run c m → (events : List Event) → EachHappens (taught_in run) m events → Grows m (moment_through m events)
  grows_by m k = at_moment (λ taught n. (events : List Event) → EachHappens taught n events → Grows n (moment_through n events)) laws.grow m k

  -- what is there once, is there at the last moment
  pub grows_to_last : (m : Moment) → IsMomentOf run c m → Grows m (last_moment run c)
  grows_to_last m k =
      subst (Grows m)
      (ap (λ (n : Moment). moment_through n k.later) (sym k.leads)
      ∙ sym (moment_through-append (start_of run c) k.events k.later)
      ∙ ap (moment_through (start_of run c)) k.whole)
      (grows_by m k k.later (later_happens m k))

  -- what always holds of a moment with a later one holds from the end of some rounds to the end of more
  pub between : (P : Moment → Moment → Type 0) → AlwaysHolds (λ taught m. (events : List Event) → EachHappens taught m events → P m (moment_through m events)) →
      (done more rest : List RoundLog) → run.rounds ≡ (done ++ more) ++ rest → P (moment_of run c done) (moment_of run c (done ++ more))
  between P always done more rest split =
      let m = moment_of run c done in
      let events = events_of run c done in
      let next = events_from c run (state_through run (first_state run) done) (emptied_before [] done) more in
      let all = events_from-append c run done more (first_state run) [] in
      let last = events_split c run (done ++ more) rest (first_state run) [] in
      let k : IsMomentOf run c m = record {
        events = events;
        later = next ++ last.0;
        whole = sym (append_assoc events next last.0) ∙ ap (λ (es : List Event). es ++ last.0) (sym all) ∙ last.1 ∙ ap (events_of run c) (sym split);
        leads = refl;
      } in
      subst (P m) (sym (moment_through-append (start_of run c) events next) ∙ ap (moment_through (start_of run c)) (sym all))
      (at_moment (λ taught n. (es : List Event) → EachHappens taught n es → P n (moment_through n es)) always m k next (happens-first run m next last.0 (later_happens m k)))

  -- what each step of a column keeps, a log keeps
  module _ (Q : Moment → Type 0) (next : (m : Moment) → IsMomentOf run c m → (step : Step) → blocked m.round m.column step ≡ None → Q m → Q (step_done step m)) where
    along_log : (log : List Step) (m : Moment) (events later : List Event) → events ++ (map Doing log ++ later) ≡ events_of run c run.rounds → moment_through (start_of run c) events ≡ m →
        Q m → Q (moment_through m (map Doing log))
    along_log [] m events later whole leads q = q
    along_log (step ∷ log) m events later whole leads q =
        let k : IsMomentOf run c m = record { events = events; later = Doing step ∷ (map Doing log ++ later); whole = whole; leads = leads } in
        let can : EachHappens (taught_in run) m (Doing step ∷ (map Doing log ++ later)) = later_happens m k in
        along_log log (step_done step m) (events ++ Doing step ∷ []) later
        (append_assoc events (Doing step ∷ []) (map Doing log ++ later) ∙ whole)
        (moment_through-append (start_of run c) events (Doing step ∷ []) ∙ ap (after_event (Doing step)) leads)
        (next m k step can.0 q)

    -- from where a round begins to the end of its log
    pub along_round : (done rest : List RoundLog) (round : RoundLog) → run.rounds ≡ done ++ round ∷ rest →
        Q (begins (state_through run (first_state run) done) (emptied_before [] done) (moment_of run c done)) → Q (moment_of run c (done ++ round ∷ []))
    along_round done rest round split q =
        let state = state_through run (first_state run) done in
        let emptied = emptied_before [] done in
        let events = events_of run c done in
        let first : Event = NewRound (views_of state.epochs) emptied in
        let following = events_from c run (after_round run round state) (emptied_in round.globals) rest in
        let whole = append_assoc events (first ∷ []) (map Doing (log_of round c) ++ following)
        ∙ sym (events_from-append c run done (round ∷ rest) (first_state run) [])
        ∙ ap (events_of run c) (sym split) in
        subst Q (sym (moment_more run c done round))
        (along_log (log_of round c) (begins state emptied (moment_of run c done)) (events ++ first ∷ []) following whole (moment_through-append (start_of run c) events (first ∷ [])) q)
