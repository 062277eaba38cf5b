-- What a column remembers as served was served where a round began, and had been entered before.
use Rattle.std.proofs.Common.{◌≡◌, ◌⊎◌, ◌≤◌, ℕ, ◌+◌, Bool, true, false, refl, arith, inl, inr, sym, ap, ◌∙◌, List, [], ◌∷◌, ◌++◌, Some, subst, cond, ◌||◌, map, length}
use Rattle.std.specs.Prelude.{slice_get, ◌==◌}
use Rattle.std.specs.List.{list_any}
use Rattle.std.proofs.lemmas.Bool.{and_parts, eqb-true}
use Rattle.mk_words.specs.declared.Phase.{Phase}
use Rattle.mk_words.specs.declared.Phase.TheVariants.{Serving}
use Rattle.mk_words.specs.declared.GlobalEntry.{GlobalEntry}
use Rattle.mk_words.specs.declared.GlobalLine.{GlobalLine}
use Rattle.mk_words.specs.declared.GlobalLine.TheVariants.{Wipe, Ask, Promise, Merge, Adopt, Enter}
use Rattle.mk_words.specs.declared.Step.{Step}
use Rattle.mk_model.specs.Replicas.{serves}
use Rattle.mk_model.specs.EpochState.{EpochState, views_of}
use Rattle.mk_model.specs.GlobalAnswers.{lacks, is_accepted}
use Rattle.mk_column_laws.specs.Moments.{Moment, Event, moment_through, after_event, step_done}
use Rattle.mk_column_laws.specs.Moments.Event.{NewRound, Doing}
use Rattle.mk_epoch_laws.specs.Turns.{GlobalTurn, Always, WasEntered}
use Rattle.mk_epoch_laws.specs.WordLaws.{IsAt, EverHad, AdoptedOnTop}
use Rattle.mk_epoch_laws.specs.BaseLaws.{ServingWasEntered, EnteredWasHeld, IsHeld, IsMade}
use Rattle.mk_history.specs.declared.RoundLog.{RoundLog}
use Rattle.mk_history.specs.Histories.{History, log_of}
use Rattle.mk_history.specs.Legality.{EachRoundLegal}
use Rattle.mk_history.specs.Wholes.{WholeState, first_state, after_logs, after_global, after_round, state_through}
use Rattle.mk_history.specs.Teaching.{enters, entered_from, entered_round}
use Rattle.mk_run_laws.specs.RunEvents.{emptied_in, events_from, start_of, turns_in, turns_from, turns_of}
use Rattle.mk_run_laws.specs.Ends.{epochs_after}
use Rattle.mk_run_laws.specs.Dates.{ServedAt, ServedOf, ServedWas, ServersHad, ServersEntered, EnteredAt, EnteredWas}
use Rattle.mk_run_laws.proofs.Joined.{begins, works, now_works}
use Rattle.mk_run_laws.proofs.Lines.{state_through-append, legal-first, lines_are_turns, entered-found, entered_from-append}
use Rattle.mk_run_laws.proofs.Reaching.{serves_at, length-one, append-one}

module _ (run : History) (c : ℕ) where
  -- where a round begins
  served_begun : (before rest : List RoundLog) → run.rounds ≡ before ++ rest → (emptied : List ℕ) (m : Moment) → m.past.now ≡ length before →
      ServedOf run m → ServedOf run (begins (state_through run (first_state run) before) emptied m)
  served_begun before rest split emptied m now h =
      record {
        in_round = λ i r e is. by i r e (i == m.past.now + 1) refl is;
        ever = λ r e is. either r e (m.past.ever_served r e) refl is;
      }
    where
      state : WholeState
      state = state_through run (first_state run) before

      here : (r e : ℕ) → serves e (slice_get (views_of state.epochs) r) ≡ true → ServedAt run before r e
      here r e is =
          let s = serves_at state.epochs.replicas r e is in
          record { rest = rest; split = split; replica = s.0; at = s.1; serving = s.2; adopted = s.3 }

      by : (i r e : ℕ) (b : Bool) → (i == m.past.now + 1) ≡ b → cond b (serves e (slice_get (views_of state.epochs) r)) (m.past.served_in i r e) ≡ true →
          (done : List RoundLog) × (length done + 1 ≡ i) × (i ≤ m.past.now + 1) × ServedAt run done r e
      by i r e true k is = let same = eqb-true i (m.past.now + 1) k in (before, (omega (arith, same, now)), (omega (arith, same)), here r e is)
      by i r e false k is = let f = h.in_round i r e is in (f.0, f.1, (let le = f.2 in omega (arith, le)), f.3)

      either : (r e : ℕ) (b : Bool) → m.past.ever_served r e ≡ b → (b || serves e (slice_get (views_of state.epochs) r)) ≡ true →
          (done : List RoundLog) × (length done + 1 ≤ m.past.now + 1) × ServedAt run done r e
      either r e true k is = let f = h.ever r e k in (f.0, (let le = f.1 in omega (arith, le)), f.2)
      either r e false k is = (before, (omega (arith, now)), here r e is)

  -- a step adds nothing to it
  served_step : (step : Step) (m : Moment) → ServedOf run m → ServedOf run (step_done step m)
  served_step step m h = record { in_round = h.in_round; ever = h.ever }

  served_log : (log : List Step) (m : Moment) → ServedOf run m → ServedOf run (moment_through m (map Doing log))
  served_log [] m h = h
  served_log (step ∷ log) m h = served_log log (step_done step m) (served_step step m h)

  -- the events end in a log, or go past it
  abbrev Past : (m : Moment) (log : List Step) (rest events later : List Event) → Type 0
  Past m log rest events later = ServedOf run (moment_through m events)
      ⊎ ((more : List Event) × (more ++ later ≡ rest) × (moment_through m events ≡ moment_through (moment_through m (map Doing log)) more))

  along : (log : List Step) (m : Moment) (rest events later : List Event) → ServedOf run m → events ++ later ≡ map Doing log ++ rest → Past m log rest events later
  along [] m rest events later h e = inr (events, e, refl)
  along (step ∷ log) m rest [] later h e = inl h
  along (step ∷ log) m rest (event ∷ events) later h e =
      let first : event ≡ Doing step = cc e in
      let others : events ++ later ≡ map Doing log ++ rest = cc e in
      let lead = ap (λ (x : Event). moment_through (after_event x m) events) first in
      elim (along log (step_done step m) rest events later (served_step step m h) others) [
        | inl k ↦ inl (subst (ServedOf run) (sym lead) k)
        | inr k ↦ inr (k.0, k.1, lead ∙ k.2)
      ]

  served_from : (before rest : List RoundLog) → run.rounds ≡ before ++ rest → (emptied : List ℕ) (m : Moment) → m.past.now ≡ length before → ServedOf run m →
      (events later : List Event) → events ++ later ≡ events_from c run (state_through run (first_state run) before) emptied rest → ServedOf run (moment_through m events)
  served_from before rest split emptied m now h [] later e = h
  served_from before [] split emptied m now h (event ∷ events) later e = absurd (cc e)
  served_from before (round ∷ rest) split emptied m now h (event ∷ events) later e =
      let state = state_through run (first_state run) before in
      let first : event ≡ NewRound (views_of state.epochs) emptied = cc e in
      let following = events_from c run (after_round run round state) (emptied_in round.globals) rest in
      let others : events ++ later ≡ map Doing (log_of round c) ++ following = cc e in
      let begun = begins state emptied m in
      let lead = ap (λ (x : Event). moment_through (after_event x m) events) first in
      let good = served_begun before (round ∷ rest) split emptied m now h in
      elim (along (log_of round c) begun following events later good others) [
        | inl k ↦ subst (ServedOf run) (sym lead) k
        | inr k ↦ (
            let next = works c state emptied round m in
            let then = state_through-append run (first_state run) before (round ∷ []) in
            let there = subst (λ (s : WholeState). k.0 ++ later ≡ events_from c run s (emptied_in round.globals) rest) (sym then) k.1 in
            let late = now_works c state emptied round m ∙ ap (λ (n : ℕ). n + 1) now ∙ sym (length-one before round) in
            subst (ServedOf run) (sym (lead ∙ k.2))
            (served_from (before ++ round ∷ []) rest (split ∙ append-one before round rest) (emptied_in round.globals) next late (served_log (log_of round c) begun good) k.0 later there)
            )
      ]

pub served_was : ServedWas
served_was run legal c lt m k =
    let none : ServedOf run (start_of run c) = record { in_round = λ i r e is. absurd (cc is); ever = λ r e is. absurd (cc is) } in
    subst (ServedOf run) k.leads (served_from run c [] run.rounds refl [] (start_of run c) refl none k.events k.later k.whole)

-- ---- who serves

serving_has : (phase : Phase) → phase ≡ Serving → lacks phase ≡ false
serving_has phase e = ap lacks e

pub servers_had : Always AdoptedOnTop → ServersHad
servers_had top run legal done r epoch s =
    let l = lines_are_turns run done (legal-first run (first_state run) done s.rest (subst (EachRoundLegal run (first_state run)) s.split legal)) in
    let here = subst AdoptedOnTop l.1 (top run.faults (turns_of run done) l.0) in
    subst (EverHad (epochs_after run done) r) s.adopted (here r s.replica s.at (serving_has s.replica.phase s.serving)).0

entered_round_first : (run : History) (epoch : ℕ) → epoch ≡ 0 → entered_round run epoch ≡ Some 0
entered_round_first run epoch e = ap (entered_round run) e

pub servers_entered : ServingWasEntered → ServersEntered
servers_entered entered run legal done r epoch s =
    let l = lines_are_turns run done (legal-first run (first_state run) done s.rest (subst (EachRoundLegal run (first_state run)) s.split legal)) in
    let here = subst (λ (e : EpochState). IsAt e r s.replica) (sym l.1) s.at in
    by (epoch == 0) refl (entered run.faults (turns_of run done) l.0 r s.replica here s.serving)
  where
    first : epoch ≡ 0 → (j : ℕ) × (entered_round run epoch ≡ Some j) × (j ≤ length done)
    first e = (0, entered_round_first run epoch e, omega arith)

    by : (b : Bool) → (epoch == 0) ≡ b → (s.replica.adopted ≡ 0) ⊎ WasEntered s.replica.adopted (turns_of run done) →
        (j : ℕ) × (entered_round run epoch ≡ Some j) × (j ≤ length done)
    by true k h = first (eqb-true epoch 0 k)
    by false k (inl zero) = first (sym s.adopted ∙ zero)
    by false k (inr was) =
        let f = entered-found run epoch done (first_state run) 1 (subst (λ (e : ℕ). WasEntered e (turns_of run done)) s.adopted was) in
        let in_all = ap (entered_from epoch 1) s.split ∙ entered_from-append epoch 1 done s.rest f.0 f.1 in
        (f.0, ap (λ (b : Bool). cond b (Some 0) (entered_from epoch 1 run.rounds)) k ∙ in_all, (let lt = f.2 in omega (arith, lt)))

-- ---- the round of an Enter

pub is_enter_line : (e : ℕ) (entry : GlobalEntry) → enters e entry ≡ true → (entry.line ≡ Enter e) × (is_accepted entry.answer ≡ true)
is_enter_line e entry is = by entry.line refl is
  where
    by : (line : GlobalLine) → entry.line ≡ line → enters e (record { line = line; answer = entry.answer }) ≡ true → (entry.line ≡ Enter e) × (is_accepted entry.answer ≡ true)
    by (Enter other) same is = let b = and_parts (other == e) (is_accepted entry.answer) is in (same ∙ ap Enter (eqb-true other e b.0), b.1)
    by (Wipe r) same is = absurd (cc is)
    by (Ask n) same is = absurd (cc is)
    by (Promise n r) same is = absurd (cc is)
    by (Merge n) same is = absurd (cc is)
    by (Adopt n r) same is = absurd (cc is)

entered-lines : (run : History) (e : ℕ) (entries : List GlobalEntry) (state : WholeState) → list_any (enters e) entries ≡ true → WasEntered e (turns_in run state entries)
entered-lines run e [] state h = absurd (cc h)
entered-lines run e (entry ∷ entries) state h = by (λ later. entered-lines run e entries (after_global run state entry) later) (enters e entry) refl h
  where
    by : (list_any (enters e) entries ≡ true → WasEntered e (turns_in run (after_global run state entry) entries)) →
        (b : Bool) → enters e entry ≡ b → (b || list_any (enters e) entries) ≡ true → WasEntered e (turns_in run state (entry ∷ entries))
    by again true k h = inl (is_enter_line e entry k)
    by again false k h = inr (again h)

pub entered-right : (e : ℕ) (one other : List GlobalTurn) → WasEntered e other → WasEntered e (one ++ other)
entered-right e [] other h = h
entered-right e (turn ∷ one) other h = inr (entered-right e one other h)

entered-left : (e : ℕ) (one other : List GlobalTurn) → WasEntered e one → WasEntered e (one ++ other)
entered-left e [] other h = absurd h
entered-left e (turn ∷ one) other (inl now) = inl now
entered-left e (turn ∷ one) other (inr later) = inr (entered-left e one other later)

-- the rounds up to that of the first Enter, and those after it
abbrev pub FirstEnter : (run : History) (e n : ℕ) (state : WholeState) (rounds : List RoundLog) (j : ℕ) → Type 0
FirstEnter run e n state rounds j =
    (done : List RoundLog) × ((rest : List RoundLog) × ((rounds ≡ done ++ rest) × ((n + length done ≡ j + 1) × WasEntered e (turns_from run state done))))

pub first_enter : (run : History) (e n : ℕ) (state : WholeState) (rounds : List RoundLog) (j : ℕ) → entered_from e n rounds ≡ Some j → FirstEnter run e n state rounds j
first_enter run e n state [] j h = absurd (cc h)
first_enter run e n state (round ∷ rounds) j h =
    by (λ later. first_enter run e (n + 1) (after_round run round state) rounds j later) (list_any (enters e) round.globals) refl h
  where
    here : List GlobalTurn
    here = turns_in run (after_logs run round state) round.globals

    by : (entered_from e (n + 1) rounds ≡ Some j → FirstEnter run e (n + 1) (after_round run round state) rounds j) →
        (b : Bool) → list_any (enters e) round.globals ≡ b → cond b (Some n) (entered_from e (n + 1) rounds) ≡ Some j → FirstEnter run e n state (round ∷ rounds) j
    by again true k h =
        let same : n ≡ j = cc h in
        (round ∷ [], (rounds, (refl, (omega (arith, same), entered-left e here [] (entered-lines run e round.globals (after_logs run round state) k)))))
    by again false k h =
        let f = again h in
        let len = f.1.1.1.0 in
        let more = turns_from run (after_round run round state) f.0 in
        (round ∷ f.0, (f.1.0, (ap (λ (rs : List RoundLog). round ∷ rs) f.1.1.0, (omega (arith, len), entered-right e here more f.1.1.1.1))))

pub entered_was : EnteredWasHeld → EnteredWas
entered_was held run legal epoch j is = by (epoch == 0) refl is
  where
    by : (b : Bool) → (epoch == 0) ≡ b → cond b (Some 0) (entered_from epoch 1 run.rounds) ≡ Some j → EnteredAt run epoch j
    by true k h =
        let first = eqb-true epoch 0 k in
        record {
          done = [];
          rest = run.rounds;
          split = refl;
          rounds = cc h;
          held = inl first;
          made = subst (IsMade (epochs_after run [])) (sym first) refl;
        }
    by false k h =
        let f = first_enter run epoch 1 (first_state run) run.rounds j h in
        let done = f.0 in
        let split = f.1.1.0 in
        let len = f.1.1.1.0 in
        let l = lines_are_turns run done (legal-first run (first_state run) done f.1.0 (subst (EachRoundLegal run (first_state run)) split legal)) in
        let was = held run.faults (turns_of run done) l.0 epoch f.1.1.1.1 in
        record {
          done = done;
          rest = f.1.0;
          split = split;
          rounds = omega (arith, len);
          held = subst (λ (s : EpochState). IsHeld s epoch) l.1 was.0;
          made = subst (λ (s : EpochState). IsMade s epoch) l.1 was.1;
        }
