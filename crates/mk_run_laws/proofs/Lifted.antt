-- Settings, ranges and journals of a run's moments and tenures.
use Rattle.std.proofs.Common.{◌≡◌, ℕ, ◌+◌, Bool, true, false, refl, arith, inl, inr, ap, List, [], ◌∷◌, ◌++◌, subst, cond, map, length}
use Rattle.std.specs.Prelude.{slice_get}
use Rattle.mk_lists.specs.Among.{Among, Each, Among-append}
use Rattle.mk_lists.proofs.Members.{Among-from_map}
use Rattle.mk_lists.proofs.EachMember.{Each-append_left}
use Rattle.mk_column_laws.specs.Moments.{Moment, Event, moment_through, after_event}
use Rattle.mk_column_laws.specs.Moments.Event.{NewRound, Doing}
use Rattle.mk_history.specs.declared.RoundLog.{RoundLog}
use Rattle.mk_history.specs.Histories.{History, journal_of}
use Rattle.mk_history.specs.Shape.{HasShape, IsRoundShape}
use Rattle.mk_history.specs.Wholes.{WholeState, first_state, after_round, state_through}
use Rattle.mk_run_laws.specs.RunEvents.{start_of}
use Rattle.mk_run_laws.specs.Tenures.{DatedEntry, dated_at, has_epoch, tenure_from}
use Rattle.mk_run_laws.specs.Lifts.{MomentsOfRounds, HasSettingOf, MomentsHaveSettings, ActsInRange, SeatsInRange, TenuresAreJournals}
use Rattle.mk_run_laws.proofs.Ranges.{act_in_range, seat_in_range}
use Rattle.mk_run_laws.proofs.Voted.{is_moment}

pub moments_of_rounds : MomentsOfRounds
moments_of_rounds run c done rest split = is_moment run done rest split c

-- ---- settings

setting_through : (run : History) (m : Moment) (events : List Event) → HasSettingOf run m → HasSettingOf run (moment_through m events)
setting_through run m [] h = h
setting_through run m (NewRound views resets ∷ events) h =
    setting_through run (after_event (NewRound views resets) m) events (record { version = h.version; faults = h.faults; keys = h.keys })
setting_through run m (Doing step ∷ events) h =
    setting_through run (after_event (Doing step) m) events (record { version = h.version; faults = h.faults; keys = h.keys })

pub moments_have_settings : MomentsHaveSettings
moments_have_settings run c m k =
    subst (HasSettingOf run) k.leads (setting_through run (start_of run c) k.events (record { version = refl; faults = refl; keys = refl }))

-- ---- ranges

shape_done : (run : History) → HasShape run → (done rest : List RoundLog) → run.rounds ≡ done ++ rest → Each (IsRoundShape run) done
shape_done run shape done rest split = Each-append_left (IsRoundShape run) done rest (subst (Each (IsRoundShape run)) split shape.rounds)

pub acts_in_range : ActsInRange
acts_in_range run shape c done rest split act a =
    elim (act_in_range run c done (first_state run) [] (start_of run c) (shape_done run shape done rest split) act a) [ inl none ↦ absurd none | inr k ↦ k ]

pub seats_in_range : SeatsInRange
seats_in_range run shape done rest split r e key d a = seat_in_range run r e key 1 done (first_state run) (shape_done run shape done rest split) d a

-- ---- journals

-- an entry of a tenure from this state on, with the rounds before it
abbrev pub Entered : (run : History) (r e key n : ℕ) (state : WholeState) (rounds : List RoundLog) (d : DatedEntry) → Type 0
Entered run r e key n state rounds d =
    (done : List RoundLog) × ((round : RoundLog) × ((rest : List RoundLog) × ((rounds ≡ done ++ round ∷ rest) × ((d.round ≡ n + length done)
    × ((has_epoch e (slice_get (state_through run state done).epochs.replicas r) ≡ true) × Among d.entry (journal_of round r key))))))

entered_at : (run : History) (r e key n : ℕ) (rounds : List RoundLog) (state : WholeState) (d : DatedEntry) → Among d (tenure_from r e key n run state rounds) →
    Entered run r e key n state rounds d
entered_at run r e key n [] state d a = absurd a
entered_at run r e key n (round ∷ rounds) state d a =
    let here = cond (has_epoch e (slice_get state.epochs.replicas r)) (map (dated_at n) (journal_of round r key)) [] in
    elim (Among-append d here (tenure_from r e key (n + 1) run (after_round run round state) rounds) a) [
      | inl there ↦ by (has_epoch e (slice_get state.epochs.replicas r)) refl there
      | inr later ↦ (
          let f = entered_at run r e key (n + 1) rounds (after_round run round state) d later in
          let dated = f.1.1.1.1.0 in
          (round ∷ f.0, (f.1.0, (f.1.1.0, (ap (λ (rs : List RoundLog). round ∷ rs) f.1.1.1.0, (omega (arith, dated), (f.1.1.1.1.1.0, f.1.1.1.1.1.1))))))
          )
    ]
  where
    by : (b : Bool) → has_epoch e (slice_get state.epochs.replicas r) ≡ b → Among d (cond b (map (dated_at n) (journal_of round r key)) []) →
        Entered run r e key n state (round ∷ rounds) d
    by false k there = absurd there
    by true k there =
        let f = Among-from_map (dated_at n) d (journal_of round r key) there in
        let number = ap (λ (x : DatedEntry). x.round) f.2 in
        ([], (round, (rounds, (refl, (omega (arith, number), (k, subst (λ (x : DatedEntry). Among x.entry (journal_of round r key)) f.2 f.1))))))

pub tenures_are_journals : TenuresAreJournals
tenures_are_journals run rounds r e key d a =
    let f = entered_at run r e key 1 rounds (first_state run) d a in
    let dated = f.1.1.1.1.0 in
    record {
      done = f.0;
      round = f.1.0;
      rest = f.1.1.0;
      split = f.1.1.1.0;
      dated = omega (arith, dated);
      had = f.1.1.1.1.1.0;
      entered = f.1.1.1.1.1.1;
    }
