-- A replica that has the state of an epoch was not emptied since it served it.
use Rattle.std.proofs.Common.{◌≡◌, ◌<◌, ℕ, Bool, true, false, refl, arith, inl, inr, sym, ap, ◌∙◌, List, [], ◌∷◌, ◌++◌, subst, ◌||◌, ◌&&◌, map}
use Rattle.std.specs.Prelude.{slice_get}
use Rattle.std.proofs.lemmas.List.{append-nil, append_assoc}
use Rattle.std.proofs.lemmas.Option.{same_Some}
use Rattle.mk_model.specs.EpochState.{ReplicaState, views_of}
use Rattle.mk_model.specs.GlobalAnswers.{lacks}
use Rattle.mk_column_laws.specs.Moments.{Moment, Event, moment_through, past_begun, has_number}
use Rattle.mk_column_laws.specs.Moments.Event.{NewRound, Doing}
use Rattle.mk_epoch_laws.specs.Turns.{Always, AlwaysLater}
use Rattle.mk_epoch_laws.specs.WordLaws.{PhaseAndWord}
use Rattle.mk_epoch_laws.specs.BaseLaws.{BasesHeld, BasesStay, ServingWasEntered}
use Rattle.mk_history.specs.declared.RoundLog.{RoundLog}
use Rattle.mk_history.specs.Histories.{History, log_of}
use Rattle.mk_history.specs.Legality.{IsLegal, EachRoundLegal}
use Rattle.mk_history.specs.Wholes.{WholeState, first_state, after_round, state_through}
use Rattle.mk_run_laws.specs.RunEvents.{emptied_in, events_from, start_of, moment_of}
use Rattle.mk_run_laws.specs.Dates.{RecordsAreKept}
use Rattle.mk_run_laws.proofs.Joined.{column_first, setting_first, left_done, works, begins, moment_through-append}
use Rattle.mk_run_laws.proofs.Reaching.{Before, next_before, left_flag, append-one}
use Rattle.mk_run_laws.proofs.Standing.{Stands}

-- the replicas that were emptied before the round after these
abbrev pub emptied_before : List ℕ → List RoundLog → List ℕ
emptied_before emptied [] = emptied
emptied_before emptied (round ∷ rounds) = emptied_before (emptied_in round.globals) rounds

pub events_from-append : (c : ℕ) (run : History) (one other : List RoundLog) (state : WholeState) (emptied : List ℕ) →
    events_from c run state emptied (one ++ other) ≡ events_from c run state emptied one ++ events_from c run (state_through run state one) (emptied_before emptied one) other
events_from-append c run [] other state emptied = refl
events_from-append c run (round ∷ one) other state emptied =
    let log = map Doing (log_of round c) in
    let next = after_round run round state in
    let here = emptied_in round.globals in
    ap (λ (es : List Event). NewRound (views_of state.epochs) emptied ∷ (log ++ es)) (events_from-append c run one other next here)
    ∙ ap (λ (es : List Event). NewRound (views_of state.epochs) emptied ∷ es)
    (sym (append_assoc log (events_from c run next here one) (events_from c run (state_through run next one) (emptied_before here one) other)))

module _ (run : History) (legal : IsLegal run) (c : ℕ) (lt : c < run.columns)
    (phases : Always PhaseAndWord) (held : Always BasesHeld) (stay : AlwaysLater BasesStay) (entered : ServingWasEntered) where
  before_after : (before more later : List RoundLog) → run.rounds ≡ before ++ (more ++ later) → (state : WholeState) (emptied : List ℕ) (m : Moment) →
      EachRoundLegal run state (more ++ later) → Before run c before state emptied m →
      Before run c (before ++ more) (state_through run state more) (emptied_before emptied more) (moment_through m (events_from c run state emptied more))
  before_after before [] later split state emptied m fine h =
      subst (λ (rs : List RoundLog). Before run c rs state emptied m) (sym (append-nil before)) h
  before_after before (round ∷ more) later split state emptied m fine h =
      let next = works c state emptied round m in
      let log = log_of round c in
      let following = events_from c run (after_round run round state) (emptied_in round.globals) more in
      let one = next_before run legal c lt phases held stay entered before round (more ++ later) split state emptied m fine.0 h in
      let all = before_after (before ++ round ∷ []) more later (split ∙ append-one before round (more ++ later)) (after_round run round state) (emptied_in round.globals) next fine.1 one in
      let moved = subst (λ (n : Moment). Before run c ((before ++ round ∷ []) ++ more) (state_through run (after_round run round state) more) (emptied_before (emptied_in round.globals) more) n)
      (sym (moment_through-append (begins state emptied m) (map Doing log) following)) all in
      subst (λ (rs : List RoundLog). Before run c rs (state_through run (after_round run round state) more) (emptied_before (emptied_in round.globals) more) (moment_through m (events_from c run state emptied (round ∷ more))))
      (sym (append-one before round more)) moved

  pub before_rounds : (done later : List RoundLog) → run.rounds ≡ done ++ later →
      Before run c done (state_through run (first_state run) done) (emptied_before [] done) (moment_of run c done)
  before_rounds done later split =
      before_after [] done later split (first_state run) [] (start_of run c) (subst (EachRoundLegal run (first_state run)) split legal)
      (record {
        at = refl;
        setting = setting_first run c;
        begun = column_first run c lt;
        idle = refl;
        now = refl;
        stands = λ r e is. absurd (cc is);
        served = λ r e is. absurd (cc is);
      })

-- a round more, as an event and the steps of its log
pub moment_more : (run : History) (c : ℕ) (done : List RoundLog) (round : RoundLog) →
    moment_of run c (done ++ round ∷ []) ≡ works c (state_through run (first_state run) done) (emptied_before [] done) round (moment_of run c done)
moment_more run c done round =
    let state = state_through run (first_state run) done in
    let emptied = emptied_before [] done in
    let early = events_from c run (first_state run) [] done in
    let late = events_from c run state emptied (round ∷ []) in
    let log = map Doing (log_of round c) in
    ap (moment_through (start_of run c)) (events_from-append c run done (round ∷ []) (first_state run) [])
    ∙ moment_through-append (start_of run c) early late
    ∙ ap (moment_through (begins state emptied (moment_of run c done))) (append-nil log)

pub records_are_kept : Always PhaseAndWord → Always BasesHeld → AlwaysLater BasesStay → ServingWasEntered → RecordsAreKept
records_are_kept phases held stay entered run legal done rest round split c lt r e replica at has same =
    let state = state_through run (first_state run) done in
    let emptied = emptied_before [] done in
    let m = moment_of run c done in
    let h = before_rounds run legal c lt phases held stay entered done (round ∷ rest) split in
    ap (λ (n : Moment). n.past.has_left r e) (moment_more run c done round)
    ∙ ap (λ (f : ℕ → ℕ → Bool). f r e) (left_done (begins state emptied m) (log_of round c))
    ∙ by state emptied m h (m.past.ever_served r e) refl
  where
    flag : (state : WholeState) (emptied : List ℕ) (m : Moment) (x : ReplicaState) → x ≡ replica → Stands e (m.past.has_left r e || has_number emptied r) x →
        (m.past.has_left r e || has_number emptied r) ≡ false
    flag state emptied m x is (inl k) = k.1
    flag state emptied m x is (inr (le, inl lost)) = absurd (cc (sym has ∙ ap (λ (y : ReplicaState). lacks y.phase) (sym is) ∙ lost))
    flag state emptied m x is (inr (le, inr beyond)) = absurd (let a = ap (λ (y : ReplicaState). y.adopted) is in omega (arith, a, same, beyond))

    by : (state : WholeState) (emptied : List ℕ) (m : Moment) → Before run c done state emptied m → (d : Bool) → m.past.ever_served r e ≡ d →
        (past_begun (views_of state.epochs) emptied m.past).has_left r e ≡ false
    by state emptied m h true k =
        let s = h.stands r e k in
        let here = ap (λ (w : WholeState). w.epochs.replicas) h.at in
        left_flag (m.past.has_left r e) (has_number emptied r) (m.past.ever_served r e)
        (flag state emptied m s.0 (same_Some s.0 replica (sym s.1 ∙ sym (ap (λ (xs : List ReplicaState). slice_get xs r) here) ∙ at)) s.2)
    by state emptied m h false k = none (m.past.has_left r e) refl
      where
        none : (a : Bool) → m.past.has_left r e ≡ a → (a || (has_number emptied r && m.past.ever_served r e)) ≡ false
        none true l = absurd (cc (sym k ∙ h.served r e l))
        none false l = grind (arith, k)
