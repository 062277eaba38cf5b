-- The events of a column of a legal run can happen: what is outside of the column meets the premises of its laws.
use Rattle.std.proofs.Common.{◌≡◌, ◌⊎◌, ◌<◌, ℕ, ◌+◌, Bool, true, false, refl, arith, inl, inr, sym, ap, ◌∙◌, List, [], ◌∷◌, ◌++◌, Option, Some, None, subst, cond, ◌||◌, ◌&&◌, map, length}
use Rattle.std.specs.Prelude.{slice_get, nat_lt, option_map, find, ◌==◌}
use Rattle.std.proofs.lemmas.Bool.Decides.{nat_tests}
use Rattle.std.proofs.lemmas.Option.{slice_get-map, same_Some}
use Rattle.mk_lists.specs.Among.{Among}
use Rattle.mk_lists.proofs.Tests.{list_any-from_Among}
use Rattle.mk_lists.proofs.Lookups.{find_tells}
use Rattle.mk_txn.specs.declared.TxnId.{TxnId}
use Rattle.mk_txn.specs.declared.Known.TheVariants.{Forgotten}
use Rattle.mk_txn.specs.declared.Cause.TheVariants.{Epoch as ByEpoch}
use Rattle.mk_txn.specs.declared.Outcome.TheVariants.{Abort}
use Rattle.std.specs.Option.{unwrap_or}
use Rattle.std.proofs.lemmas.Bool.{and_parts, eqb-true}
use Rattle.mk_txn.specs.declared.Outcome.{Outcome}
use Rattle.mk_quorum.specs.Slots.{passes}
use Rattle.mk_words.specs.KeptOutcomes.{known_of, known_outcome}
use Rattle.mk_txn.specs.MarkMaps.{covers}
use Rattle.mk_words.specs.declared.Phase.{Phase}
use Rattle.mk_words.specs.declared.Phase.TheVariants.{Serving, Paused, Adopted, Lacking}
use Rattle.mk_trim.specs.declared.ReplicaView.{ReplicaView}
use Rattle.mk_words.specs.Bases.{BaseState, empty_base, known, kept_of, fate_in}
use Rattle.mk_words.proofs.KnownLaws.{known-kept}
use Rattle.mk_words.specs.declared.Step.{Step}
use Rattle.mk_model.specs.ColumnState.{ColumnState, Setting}
use Rattle.mk_model.specs.ColumnState.Work.{Idle}
use Rattle.mk_model.specs.Replicas.{serves, is_serving}
use Rattle.mk_model.specs.Answers.{outcome_after}
use Rattle.mk_model.specs.Logs.{EachEnabled, column_through, reading_ended}
use Rattle.mk_model.specs.EpochState.{EpochState, ReplicaState, MadeBase, first_epochs, view_of, views_of, made_for, base_for}
use Rattle.mk_model.specs.GlobalAnswers.{lacks}
use Rattle.mk_epoch_laws.specs.Turns.{Always, AlwaysLater, EachAnswered, after_turns, WasEntered}
use Rattle.mk_epoch_laws.specs.WordLaws.{IsAt, PhaseFits, PhaseAndWord}
use Rattle.mk_epoch_laws.specs.BaseLaws.{BasesHeld, BasesStay, ServingWasEntered}
use Rattle.mk_column_laws.specs.Moments.{Moment, Event, IsRound, EachHappens, after_event, moment_through, step_done, past_begun, has_number, replicas_reset}
use Rattle.mk_column_laws.specs.Moments.Event.{Doing}
use Rattle.mk_history.specs.declared.RoundLog.{RoundLog}
use Rattle.mk_history.specs.Histories.{History, clients_of, log_of}
use Rattle.mk_history.specs.Legality.{IsLegal, IsLegalRound, EachRoundLegal}
use Rattle.mk_history.specs.Wholes.{WholeState, first_state, last_state, setting_of, after_logs, after_round, state_through}
use Rattle.mk_history.specs.Teaching.{entered_round, entered_from, stands_in}
use Rattle.mk_run_laws.specs.RunEvents.{emptied_in, events_from, events_of, start_of, turns_of, turns_from}
use Rattle.mk_run_laws.specs.TaughtIn.{taught_in, teaches, was_entered, is_same_outcome}
use Rattle.mk_run_laws.specs.RunLaws.{RunsReachMoments}
use Rattle.mk_run_laws.proofs.Joined.{HasSetting, Begun, has_column, column_first, column_works, setting_begun, keeps_setting, next_begun, now_works, works, begins, setting_first, left_done, served_done}
use Rattle.mk_run_laws.proofs.Lines.{after_turns-append, answered-later, state_through-append, legal-first, turns_from-append, lines_are_turns, entered-found, entered_from-append}
use Rattle.mk_run_laws.proofs.SameOutcome.{outcome_same}
use Rattle.mk_run_laws.proofs.Standing.{At, Stands, IsPast, lines_stand}

-- ---- lists of events

pub happens-join : (run : History) (m : Moment) (one other : List Event) → EachHappens (taught_in run) m one → EachHappens (taught_in run) (moment_through m one) other →
    EachHappens (taught_in run) m (one ++ other)
happens-join run m [] other h k = k
happens-join run m (event ∷ one) other h k = (h.0, happens-join run (after_event event m) one other h.1 k)

pub happens-first : (run : History) (m : Moment) (one other : List Event) → EachHappens (taught_in run) m (one ++ other) → EachHappens (taught_in run) m one
happens-first run m [] other h = tt
happens-first run m (event ∷ one) other h = (h.0, happens-first run (after_event event m) one other h.1)

log_happens : (run : History) (m : Moment) (log : List Step) → EachEnabled m.round m.column log → EachHappens (taught_in run) m (map Doing log)
log_happens run m [] h = tt
log_happens run m (step ∷ log) h = (h.0, log_happens run (step_done step m) log h.1)

all_true : (a b d : Bool) → a ≡ true → b ≡ true → d ≡ true → (a && b && d) ≡ true
all_true a b d p q s = grind (arith, p, q, s)

-- ---- what a view tells of its replica

view_at : (xs : List ReplicaState) (r : ℕ) (view : ReplicaView) → slice_get (map view_of xs) r ≡ Some view → (x : ReplicaState) × (slice_get xs r ≡ Some x) × (view_of x ≡ view)
view_at xs r view e = by (slice_get xs r) refl (sym (slice_get-map view_of xs r) ∙ e)
  where
    by : (o : Option ReplicaState) → slice_get xs r ≡ o → option_map view_of o ≡ Some view → (x : ReplicaState) × (slice_get xs r ≡ Some x) × (view_of x ≡ view)
    by None k e = absurd (cc e)
    by (Some x) k e = (x, k, same_Some (view_of x) view e)

serving_phase : (phase : Phase) → is_serving phase ≡ true → phase ≡ Serving
serving_phase Serving e = refl
serving_phase Paused e = absurd (cc e)
serving_phase Adopted e = absurd (cc e)
serving_phase Lacking e = absurd (cc e)

-- a view that serves an epoch is of a replica that serves it
pub serves_at : (xs : List ReplicaState) (r e : ℕ) → serves e (slice_get (map view_of xs) r) ≡ true → (x : ReplicaState) × (slice_get xs r ≡ Some x) × (x.phase ≡ Serving) × (x.adopted ≡ e)
serves_at xs r e is = by (slice_get xs r) refl (subst (λ (o : Option ReplicaView). serves e o ≡ true) (slice_get-map view_of xs r) is)
  where
    by : (o : Option ReplicaState) → slice_get xs r ≡ o → serves e (option_map view_of o) ≡ true → (x : ReplicaState) × (slice_get xs r ≡ Some x) × (x.phase ≡ Serving) × (x.adopted ≡ e)
    by None k is = absurd (cc is)
    by (Some x) k is = let b = and_parts (is_serving x.phase) (x.adopted == e) is in (x, k, serving_phase x.phase b.0, eqb-true x.adopted e b.1)

-- ---- what a view teaches

known_tells : (base : BaseState) (epoch : ℕ) (id : TxnId) (outcome : Outcome) → outcome_after epoch (known base id) ≡ Some outcome → stands_in base epoch id ≡ outcome
known_tells base epoch id outcome e = by (covers base.marks id) (fate_in id base.list) refl e
  where
    by : (b : Bool) (o : Option Outcome) → fate_in id base.list ≡ o → outcome_after epoch (cond b Forgotten (known_outcome o)) ≡ Some outcome → stands_in base epoch id ≡ outcome
    by true o k e = absurd (cc e)
    by false None k e = ap (λ (x : Option Outcome). unwrap_or x (Abort (ByEpoch epoch))) k ∙ same_Some (Abort (ByEpoch epoch)) outcome e
    by false (Some x) k e = ap (λ (y : Option Outcome). unwrap_or y (Abort (ByEpoch epoch))) k ∙ same_Some x outcome e

view_teaches : (base : BaseState) (epoch : ℕ) (id : TxnId) (outcome : Outcome) → outcome_after epoch (known_of (kept_of base) id) ≡ Some outcome → stands_in base epoch id ≡ outcome
view_teaches base epoch id outcome e = known_tells base epoch id outcome (ap (outcome_after epoch) (sym (known-kept base id)) ∙ e)

-- a base that is found was made
pub made_found : (epoch : ℕ) (made : List MadeBase) (base : BaseState) → option_map (λ (m : MadeBase). m.base) (find (λ (m : MadeBase). m.epoch == epoch) made) ≡ Some base →
    (m : MadeBase) × Among m made × (m.epoch ≡ epoch) × (m.base ≡ base)
made_found epoch made base e = by (find (λ (m : MadeBase). m.epoch == epoch) made) refl e
  where
    by : (o : Option MadeBase) → find (λ (m : MadeBase). m.epoch == epoch) made ≡ o → option_map (λ (m : MadeBase). m.base) o ≡ Some base →
        (m : MadeBase) × Among m made × (m.epoch ≡ epoch) × (m.base ≡ base)
    by None k e = absurd (cc e)
    by (Some m) k e = let f = find_tells (λ (m : MadeBase). m.epoch == epoch) made m k in (m, f.0, eqb-true m.epoch epoch f.1, same_Some m.base base e)

pub base_made : (epoch : ℕ) (state : EpochState) (base : BaseState) → 0 < epoch → base_for epoch state ≡ Some base → made_for epoch state ≡ Some base
base_made epoch state base up e = by (epoch == 0) refl e
  where
    by : (b : Bool) → (epoch == 0) ≡ b → cond b (Some empty_base) (made_for epoch state) ≡ Some base → made_for epoch state ≡ Some base
    by true k e = absurd (let first = eqb-true epoch 0 k in omega (arith, first, up))
    by false k e = e

pub entered_round_up : (run : History) (epoch i : ℕ) → 0 < epoch → entered_from epoch 1 run.rounds ≡ Some i → entered_round run epoch ≡ Some i
entered_round_up run epoch i up e = by (epoch == 0) refl
  where
    by : (b : Bool) → (epoch == 0) ≡ b → cond b (Some 0) (entered_from epoch 1 run.rounds) ≡ Some i
    by true k = absurd (let first = eqb-true epoch 0 k in omega (arith, first, up))
    by false k = e

pub length-one : (xs : List RoundLog) (x : RoundLog) → length (xs ++ x ∷ []) ≡ length xs + 1
length-one [] x = refl
length-one (y ∷ xs) x = let k = length-one xs x in omega (arith, k)

pub append-one : (xs : List RoundLog) (x : RoundLog) (ys : List RoundLog) → xs ++ x ∷ ys ≡ (xs ++ x ∷ []) ++ ys
append-one [] x ys = refl
append-one (y ∷ xs) x ys = ap (λ (zs : List RoundLog). y ∷ zs) (append-one xs x ys)

-- ---- before a round

-- what is so after these rounds, before the next one begins
pub record Before (run : History) (c : ℕ) (before : List RoundLog) (state : WholeState) (emptied : List ℕ) (m : Moment) : Type 0 where
  pub at : state_through run (first_state run) before ≡ state
  pub setting : HasSetting run m
  pub begun : Begun state c emptied m
  pub idle : m.column.work ≡ Idle
  pub now : m.past.now ≡ length before
  pub stands : (r e : ℕ) → m.past.ever_served r e ≡ true → At (Stands e (m.past.has_left r e || has_number emptied r)) r state.epochs.replicas
  pub served : (r e : ℕ) → m.past.has_left r e ≡ true → m.past.ever_served r e ≡ true

-- who serves an epoch is not past it
serves_now : (xs : List ReplicaState) (r e : ℕ) (left : Bool) → serves e (slice_get (map view_of xs) r) ≡ true → At (Stands e left) r xs → left ≡ false
serves_now xs r e left is (x, at, inl h) = h.1
serves_now xs r e left is (x, at, inr h) =
    let s = serves_at xs r e is in
    let same = same_Some x s.0 (sym at ∙ s.1) in
    absurd (by s.0 s.2 s.3 (subst (IsPast e) same h))
  where
    by : (y : ReplicaState) → y.phase ≡ Serving → y.adopted ≡ e → IsPast e y → ⊥
    by y serving same (le, inl lost) = cc (sym (ap lacks serving) ∙ lost)
    by y serving same (le, inr beyond) = omega (arith, same, beyond)

-- the flag where a round begins
pub left_flag : (a b d : Bool) → (a || b) ≡ false → (a || (b && d)) ≡ false
left_flag a b d e = grind (arith, e)

module _ (run : History) (legal : IsLegal run) (c : ℕ) (lt : c < run.columns)
    (phases : Always PhaseAndWord) (held : Always BasesHeld) (stay : AlwaysLater BasesStay) (entered : ServingWasEntered) where
  module _ (before rest : List RoundLog) (split : run.rounds ≡ before ++ rest) (state : WholeState) (emptied : List ℕ) (m : Moment) (h : Before run c before state emptied m) where
    legal_before : EachRoundLegal run (first_state run) before
    legal_before = legal-first run (first_state run) before rest (subst (EachRoundLegal run (first_state run)) split legal)

    answered : EachAnswered (first_epochs run.faults) (turns_of run before)
    answered = (lines_are_turns run before legal_before).0

    leads : after_turns (first_epochs run.faults) (turns_of run before) ≡ state.epochs
    leads = (lines_are_turns run before legal_before).1 ∙ ap (λ (s : WholeState). s.epochs) h.at

    tenure : (r e : ℕ) → serves e (slice_get (views_of state.epochs) r) ≡ true → (past_begun (views_of state.epochs) emptied m.past).has_left r e ≡ false
    tenure r e is = by (m.past.ever_served r e) refl
      where
        by : (d : Bool) → m.past.ever_served r e ≡ d → (m.past.has_left r e || (has_number emptied r && d)) ≡ false
        by true k =
            left_flag (m.past.has_left r e) (has_number emptied r) true
            (serves_now state.epochs.replicas r e (m.past.has_left r e || has_number emptied r) is (h.stands r e k))
        by false k = none (m.past.has_left r e) refl
          where
            none : (a : Bool) → m.past.has_left r e ≡ a → (a || (has_number emptied r && false)) ≡ false
            none true l = absurd (cc (sym k ∙ h.served r e l))
            none false l = grind arith

    -- the base of a replica that serves was made, its epoch was entered, and in the end it is there
    told : (r : ℕ) (x : ReplicaState) (id : TxnId) (epoch : ℕ) (outcome : Outcome) → IsAt state.epochs r x → x.phase ≡ Serving → epoch < x.adopted →
        outcome_after x.adopted (known_of (kept_of x.base) id) ≡ Some outcome → taught_in run id epoch outcome (m.past.now + 1) ≡ true
    told r x id epoch outcome at serving up tells =
        let turns = turns_of run before in
        let more = turns_from run (state_through run (first_state run) before) rest in
        let early = after_turns (first_epochs run.faults) turns in
        let here = subst (λ (s : EpochState). IsAt s r x) (sym leads) at in
        let base = (held run.faults turns answered).by_replica r x here in
        let found = made_found x.adopted early.made x.base (base_made x.adopted early x.base (omega (arith, up)) base) in
        let all = turns_from-append run (first_state run) before rest in
        let whole = lines_are_turns run run.rounds legal in
        let split_turns : turns_of run run.rounds ≡ turns ++ more = ap (turns_of run) split ∙ all in
        let answered_more = answered-later (first_epochs run.faults) turns more (subst (EachAnswered (first_epochs run.faults)) split_turns whole.0) in
        let late : after_turns early more ≡ (last_state run).epochs =
        sym (after_turns-append (first_epochs run.faults) turns more) ∙ ap (after_turns (first_epochs run.faults)) (sym split_turns) ∙ whole.1 in
        let stays = (stay run.faults turns more answered answered_more found.0 found.1).0 in
        let there = subst (λ (s : EpochState). Among found.0 s.made) late stays in
        let was = entered_then (entered run.faults turns answered r x here serving) in
        list_any-from_Among (teaches run id epoch outcome (m.past.now + 1)) (last_state run).epochs.made found.0 there
        (passes_all found.0 found.2 found.3 was)
      where
        entered_then : (x.adopted ≡ 0) ⊎ WasEntered x.adopted (turns_of run before) → was_entered run x.adopted (m.past.now + 1) ≡ true
        entered_then (inl first) = absurd (omega (arith, first, up))
        entered_then (inr was) =
            let f = entered-found run x.adopted before (first_state run) 1 was in
            let in_all = ap (entered_from x.adopted 1) split ∙ entered_from-append x.adopted 1 before rest f.0 f.1 in
            let first = entered_round_up run x.adopted f.0 (omega (arith, up)) in_all in
            let now = h.now in
            let low = f.2 in
            subst (λ (o : Option ℕ). passes (λ i. nat_lt i (m.past.now + 1)) o ≡ true) (sym first) (let k : f.0 < m.past.now + 1 = omega (arith, now, low) in grind (arith, nat_tests, k))

        passes_all : (made : MadeBase) → made.epoch ≡ x.adopted → made.base ≡ x.base → was_entered run x.adopted (m.past.now + 1) ≡ true →
            teaches run id epoch outcome (m.past.now + 1) made ≡ true
        passes_all made same_epoch same_base was =
            let one : nat_lt epoch made.epoch ≡ true = grind (arith, nat_tests, same_epoch, up) in
            let two = ap (λ (n : ℕ). was_entered run n (m.past.now + 1)) same_epoch ∙ was in
            let stands = (λ i. stands_in (same_base i) (same_epoch i) id) ∙ view_teaches x.base x.adopted id outcome tells in
            let three = ap (λ (o : Outcome). is_same_outcome o outcome) stands ∙ outcome_same outcome in
            all_true (nat_lt epoch made.epoch) (was_entered run made.epoch (m.past.now + 1)) (is_same_outcome (stands_in made.base made.epoch id) outcome) one two three

    is_round : IsRound (taught_in run) (views_of state.epochs) emptied m
    is_round =
        record {
          idle = h.idle;
          tenure = tenure;
          teaches = λ r view id epoch outcome at serving up tells.
              let x = view_at state.epochs.replicas r view at in
              let same = x.2 in
              told r x.0 id epoch outcome x.1 (serving_phase (x.0).phase (ap (λ (v : ReplicaView). is_serving v.phase) same ∙ serving)) (subst (λ (v : ReplicaView). epoch < v.epoch) (sym same) up)
              (subst (λ (v : ReplicaView). outcome_after v.epoch (known_of v.fates id) ≡ Some outcome) (sym same) tells);
        }

    -- where a replica stands when the round begins
    stands_begun : (r e : ℕ) → (past_begun (views_of state.epochs) emptied m.past).ever_served r e ≡ true →
        At (Stands e ((past_begun (views_of state.epochs) emptied m.past).has_left r e)) r state.epochs.replicas
    stands_begun r e is = by (m.past.ever_served r e) refl is
      where
        keeps : (x : ReplicaState) → Stands e (m.past.has_left r e || has_number emptied r) x → Stands e ((past_begun (views_of state.epochs) emptied m.past).has_left r e) x
        keeps x (inl k) = inl (k.0, left_flag (m.past.has_left r e) (has_number emptied r) (m.past.ever_served r e) k.1)
        keeps x (inr k) = inr k

        fits : (x : ReplicaState) → x.phase ≡ Serving → PhaseFits x x.phase → x.word ≡ x.adopted
        fits x serving k = subst (PhaseFits x) serving k

        by : (d : Bool) → m.past.ever_served r e ≡ d → (d || serves e (slice_get (views_of state.epochs) r)) ≡ true →
            At (Stands e ((past_begun (views_of state.epochs) emptied m.past).has_left r e)) r state.epochs.replicas
        by true k is = let s = h.stands r e k in (s.0, s.1, keeps s.0 s.2)
        by false k is =
            let s = serves_at state.epochs.replicas r e is in
            let here = subst (λ (t : EpochState). IsAt t r s.0) (sym leads) s.1 in
            let word = fits s.0 s.2 (phases run.faults (turns_of run before) answered r s.0 here) in
            let same = s.3 in
            (s.0, s.1, inl ((omega (arith, word, same), ap lacks s.2, same), tenure r e is))

    served_begun : (r e : ℕ) → (past_begun (views_of state.epochs) emptied m.past).has_left r e ≡ true → (past_begun (views_of state.epochs) emptied m.past).ever_served r e ≡ true
    served_begun r e is = by (m.past.has_left r e) refl (has_number emptied r) (m.past.ever_served r e) refl is
      where
        by : (a : Bool) → m.past.has_left r e ≡ a → (b d : Bool) → m.past.ever_served r e ≡ d → (a || (b && d)) ≡ true → (d || serves e (slice_get (views_of state.epochs) r)) ≡ true
        by true l b d k is = ap (λ (x : Bool). x || serves e (slice_get (views_of state.epochs) r)) (sym k ∙ h.served r e l)
        by false l b true k is = refl
        by false l true false k is = absurd (cc is)
        by false l false false k is = absurd (cc is)

  -- one round more
  pub next_before : (before : List RoundLog) (round : RoundLog) (rest : List RoundLog) → run.rounds ≡ before ++ round ∷ rest → (state : WholeState) (emptied : List ℕ) (m : Moment) →
      IsLegalRound run round state → Before run c before state emptied m →
      Before run c (before ++ round ∷ []) (after_round run round state) (emptied_in round.globals) (works c state emptied round m)
  next_before before round rest split state emptied m fine h =
      let log = log_of round c in
      let first = begins state emptied m in
      let left = left_done first log in
      let ever = served_done first log in
      let here = has_column state c (reading_ended (replicas_reset emptied m.column)) h.begun in
      record {
        at = state_through-append run (first_state run) before (round ∷ []) ∙ ap (after_round run round) h.at;
        setting = keeps_setting run c state emptied round m h.setting;
        begun = next_begun run c state emptied round m h.setting h.begun;
        idle =
            ap (λ (col : ColumnState). col.work) (column_works run c state emptied round m h.setting)
            ∙ ap (λ (col : ColumnState). (column_through (setting_of run state) col log).work) (sym here)
            ∙ (fine.logs c lt).finished;
        now = now_works c state emptied round m ∙ ap (λ (n : ℕ). n + 1) h.now ∙ sym (length-one before round);
        stands = λ r e is.
            let k = lines_stand run round.globals (after_logs run round state) fine.globals e r (first.past.has_left r e)
            (stands_begun before (round ∷ rest) split state emptied m h r e (ap (λ (f : ℕ → ℕ → Bool). f r e) (sym ever) ∙ is)) in
            (k.0, k.1, subst (λ (b : Bool). Stands e (b || has_number (emptied_in round.globals) r) k.0) (ap (λ (f : ℕ → ℕ → Bool). f r e) (sym left)) k.2);
        served = λ r e is.
            ap (λ (f : ℕ → ℕ → Bool). f r e) ever
            ∙ served_begun before (round ∷ rest) split state emptied m h r e (ap (λ (f : ℕ → ℕ → Bool). f r e) (sym left) ∙ is);
      }

  happens_from : (before rest : List RoundLog) → run.rounds ≡ before ++ rest → (state : WholeState) (emptied : List ℕ) (m : Moment) → EachRoundLegal run state rest →
      Before run c before state emptied m → EachHappens (taught_in run) m (events_from c run state emptied rest)
  happens_from before [] split state emptied m fine h = tt
  happens_from before (round ∷ rest) split state emptied m fine h =
      let log = log_of round c in
      let first = begins state emptied m in
      let next = works c state emptied round m in
      let here = has_column state c (reading_ended (replicas_reset emptied m.column)) h.begun in
      let enabled = subst (λ (col : ColumnState). EachEnabled (setting_of run state) col log) here ((fine.0).logs c lt).enabled in
      let enabled_here = subst (λ (s : Setting). EachEnabled s first.column log) (sym (setting_begun run state emptied m h.setting)) enabled in (
        is_round before (round ∷ rest) split state emptied m h,
        happens-join run first (map Doing log) (events_from c run (after_round run round state) (emptied_in round.globals) rest) (log_happens run first log enabled_here)
            (
            happens_from (before ++ round ∷ []) rest (split ∙ append-one before round rest) (after_round run round state) (emptied_in round.globals) next fine.1
            (next_before before round rest split state emptied m fine.0 h)
            ),
      )

  pub happens_all : EachHappens (taught_in run) (start_of run c) (events_of run c run.rounds)
  happens_all =
      happens_from [] run.rounds refl (first_state run) [] (start_of run c) legal
      (record {
        at = refl;
        setting = setting_first run c;
        begun = column_first run c lt;
        idle = refl;
        now = refl;
        stands = λ r e is. absurd (cc is);
        served = λ r e is. absurd (cc is);
      })

pub runs_reach_moments : Always PhaseAndWord → Always BasesHeld → AlwaysLater BasesStay → ServingWasEntered → RunsReachMoments
runs_reach_moments phases held stay entered run legal c lt m k =
    record {
      version = run.version;
      faults = run.faults;
      keys = length run.key_names;
      clients = clients_of c 1 run.client_columns;
      events = k.events;
      happens = happens-first run (start_of run c) k.events k.later
          (subst (EachHappens (taught_in run) (start_of run c)) (sym k.whole) (happens_all run legal c lt phases held stay entered));
      leads = k.leads;
    }
