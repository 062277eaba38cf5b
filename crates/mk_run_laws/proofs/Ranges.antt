-- The replicas, keys and columns of a run's acts and entries are in range.
use Rattle.std.proofs.Common.{◌≡◌, ◌⊎◌, ◌<◌, ℕ, zero, suc, ◌+◌, Bool, true, false, refl, inl, inr, List, [], ◌∷◌, subst, cond, ◌&&◌, map, length}
use Rattle.std.specs.Prelude.{slice_get, slice_index_or, nat_lt}
use Rattle.std.specs.List.{list_all}
use Rattle.std.proofs.lemmas.Bool.{and_parts, ltb-true}
use Rattle.mk_lists.specs.Among.{Among, Each, Among-append}
use Rattle.mk_lists.proofs.Members.{Among-from_map}
use Rattle.mk_lists.proofs.Tests.{list_all-among}
use Rattle.mk_quorum.specs.Sizes.{members}
use Rattle.mk_words.specs.declared.Step.{Step}
use Rattle.mk_column_laws.specs.Moments.{Moment, PastAct, moment_through}
use Rattle.mk_column_laws.specs.Moments.Event.{Doing}
use Rattle.mk_history.specs.declared.RoundLog.{RoundLog}
use Rattle.mk_history.specs.Histories.{History, log_of, journal_of}
use Rattle.mk_history.specs.Matching.{Turn, turns_in_log}
use Rattle.mk_history.specs.Shape.{IsRoundShape, step_fits, entry_fits, replica_fits, key_fits, turn_fits}
use Rattle.mk_history.specs.Wholes.{WholeState, after_round}
use Rattle.mk_run_laws.specs.RunEvents.{emptied_in, events_from}
use Rattle.mk_run_laws.specs.Tenures.{DatedEntry, dated_at, has_epoch, tenure_from}
use Rattle.mk_run_laws.proofs.Joined.{begins, works, moment_through-append}
use Rattle.mk_run_laws.proofs.Turns.{IsTurnOf, turn_of_act, first_turn, act_turn}

all_at : {X : Type 0} (p : X → Bool) (xs : List X) (c : ℕ) (d : X) → p d ≡ true → list_all p xs ≡ true → p (slice_index_or xs c d) ≡ true
all_at p [] c d e h = e
all_at p (x ∷ xs) zero d e h = (and_parts (p x) (list_all p xs) h).0
all_at p (x ∷ xs) (suc c) d e h = all_at p xs c d e (and_parts (p x) (list_all p xs) h).1

-- the replica and the key are there
abbrev pub InRange : History → (r key : ℕ) → Type 0
InRange run r key = (r < members run.faults) × (key < length run.key_names)

turn_in_range : (run : History) (r key : ℕ) (t : Turn) (log : List Step) → list_all (step_fits run) log ≡ true → Among t (turns_in_log r key log) → InRange run r key
turn_in_range run r key t [] h a = absurd a
turn_in_range run r key t (step ∷ log) h a =
    let both = and_parts (step_fits run step) (list_all (step_fits run) log) h in
    elim (first_turn r key t step log a) [
      | inr later ↦ turn_in_range run r key t log both.1 later
      | inl here ↦ by here both.0
    ]
  where
    by : IsTurnOf r key t step → step_fits run step ≡ true → InRange run r key
    by (call, (answer, (is, at, on, same))) fits =
        let f = subst (λ (s : Step). step_fits run s ≡ true) is fits in
        let p = and_parts (replica_fits run call.replica && key_fits run call.key) (turn_fits run call.act answer) f in
        let q = and_parts (replica_fits run call.replica) (key_fits run call.key) p.0 in (
          subst (λ (n : ℕ). n < members run.faults) at (ltb-true call.replica (members run.faults) q.0),
          subst (λ (n : ℕ). n < length run.key_names) on (ltb-true call.key (length run.key_names) q.1),
        )

pub act_in_range : (run : History) (c : ℕ) (rounds : List RoundLog) (state : WholeState) (emptied : List ℕ) (m : Moment) → Each (IsRoundShape run) rounds → (act : PastAct) →
    Among act (moment_through m (events_from c run state emptied rounds)).past.acts → Among act m.past.acts ⊎ InRange run act.replica act.key
act_in_range run c [] state emptied m shape act a = inl a
act_in_range run c (round ∷ rounds) state emptied m shape act a =
    let next = works c state emptied round m in
    let later = events_from c run (after_round run round state) (emptied_in round.globals) rounds in
    let whole = moment_through-append (begins state emptied m) (map Doing (log_of round c)) later in
    elim (act_in_range run c rounds (after_round run round state) (emptied_in round.globals) next shape.1 act (subst (λ (x : Moment). Among act x.past.acts) whole a)) [
      | inr range ↦ inr range
      | inl before ↦ elim (act_turn (begins state emptied m) (log_of round c) act before) [
        | inl old ↦ inl old
        | inr new ↦ inr (turn_in_range run act.replica act.key (turn_of_act act) (log_of round c) (all_at (list_all (step_fits run)) round.logs c [] refl (shape.0).steps) new.1)
      ]
    ]

pub seat_in_range : (run : History) (r e key n : ℕ) (rounds : List RoundLog) (state : WholeState) → Each (IsRoundShape run) rounds → (d : DatedEntry) → Among d (tenure_from r e key n run state rounds) →
    d.entry.seat < run.columns
seat_in_range run r e key n [] state shape d a = absurd a
seat_in_range run r e key n (round ∷ rounds) state shape d a =
    elim (Among-append d (cond (has_epoch e (slice_get state.epochs.replicas r)) (map (dated_at n) (journal_of round r key)) []) (tenure_from r e key (n + 1) run (after_round run round state) rounds) a) [
      | inl here ↦ by (has_epoch e (slice_get state.epochs.replicas r)) here
      | inr there ↦ seat_in_range run r e key (n + 1) rounds (after_round run round state) shape.1 d there
    ]
  where
    by : (b : Bool) → Among d (cond b (map (dated_at n) (journal_of round r key)) []) → d.entry.seat < run.columns
    by false a = absurd a
    by true a =
        let f = Among-from_map (dated_at n) d (journal_of round r key) a in
        let fits = all_at (list_all (entry_fits run)) (slice_index_or round.journals r []) key [] refl (all_at (list_all (list_all (entry_fits run))) round.journals r [] refl (shape.0).entries) in
        let one = list_all-among (entry_fits run) (journal_of round r key) f.0 fits f.1 in
        let p = and_parts (nat_lt (f.0).seat run.columns) (turn_fits run (f.0).act (f.0).answer) one in
        subst (λ (x : DatedEntry). x.entry.seat < run.columns) f.2 (ltb-true (f.0).seat run.columns p.0)
