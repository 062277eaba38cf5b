-- The entries of a tenure are the key acts of the columns.
use Rattle.std.proofs.Common.{◌≡◌, ◌<◌, ◌≤◌, ℕ, ◌+◌, Bool, true, false, refl, arith, inl, inr, sym, ap, ◌∙◌, List, [], ◌∷◌, ◌++◌, Option, Some, None, subst, cond, not, ◌&&◌, map, length}
use Rattle.std.specs.Prelude.{slice_get, option_map, ◌==◌}
use Rattle.std.proofs.lemmas.Option.{slice_get-map}
use Rattle.std.proofs.lemmas.List.{append-nil, append_assoc}
use Rattle.std.proofs.lemmas.Bool.{and_parts, eq-eqb, eqb-true}
use Rattle.mk_lists.specs.Among.{Among, Among-append, Among-append_left, Among-append_right}
use Rattle.mk_lists.proofs.Members.{Among-from_map, Among-map}
use Rattle.mk_quorum.specs.Sizes.{members}
use Rattle.mk_trim.specs.declared.ReplicaView.{ReplicaView}
use Rattle.mk_words.specs.declared.Step.{Step}
use Rattle.mk_model.specs.Replicas.{serves}
use Rattle.mk_model.specs.Steps.{epoch_of}
use Rattle.mk_model.specs.EpochState.{ReplicaState, view_of, views_of}
use Rattle.mk_model.specs.GlobalAnswers.{lacks}
use Rattle.mk_column_laws.specs.Moments.{Moment, PastAct, moment_through, step_done}
use Rattle.mk_column_laws.specs.Moments.Event.{Doing}
use Rattle.mk_history.specs.declared.RoundLog.{RoundLog}
use Rattle.mk_history.specs.Histories.{History, log_of, journal_of}
use Rattle.mk_history.specs.Matching.{turns_in_log, turns_in_journal}
use Rattle.mk_history.specs.Legality.{EachRoundLegal}
use Rattle.mk_history.specs.Wholes.{WholeState, first_state, after_round}
use Rattle.mk_run_laws.specs.RunEvents.{emptied_in, events_from, start_of}
use Rattle.mk_run_laws.specs.Tenures.{DatedEntry, dated_at, has_epoch, tenure_from, act_in, TenuresMatch}
use Rattle.mk_run_laws.proofs.Joined.{begins, works, now_works, moment_through-append}
use Rattle.mk_run_laws.proofs.Reaching.{serves_at}
use Rattle.mk_run_laws.proofs.Turns.{turn_of_entry, turn_of_act, entry_turn, turn_entry, act_then, turn_done, act_turn, acts_stay}

pub served_in_done : (m : Moment) (log : List Step) → (moment_through m (map Doing log)).past.served_in ≡ m.past.served_in
served_in_done m [] = refl
served_in_done m (step ∷ log) = served_in_done (step_done step m) log

-- a replica with the epoch's state is seen in that epoch
pub seen_in : (e : ℕ) (xs : List ReplicaState) (r : ℕ) → has_epoch e (slice_get xs r) ≡ true → epoch_of (slice_get (map view_of xs) r) ≡ e
seen_in e xs r is = ap epoch_of (slice_get-map view_of xs r) ∙ by (slice_get xs r) is
  where
    by : (o : Option ReplicaState) → has_epoch e o ≡ true → epoch_of (option_map view_of o) ≡ e
    by None is = absurd (cc is)
    by (Some x) is = eqb-true x.adopted e (and_parts (not (lacks x.phase)) (x.adopted == e) is).1

serves_has : (e : ℕ) (xs : List ReplicaState) (r : ℕ) → serves e (slice_get (map view_of xs) r) ≡ true → has_epoch e (slice_get xs r) ≡ true
serves_has e xs r is =
    let s = serves_at xs r e is in
    let lost = ap lacks s.2 in
    let same = eq-eqb (s.0).adopted e s.3 in
    ap (has_epoch e) s.1 ∙ by (lacks (s.0).phase) lost ((s.0).adopted == e) same
  where
    by : (a : Bool) → a ≡ false → (b : Bool) → b ≡ true → (not a && b) ≡ true
    by a p b q = grind (arith, p, q)

module _ (run : History) (c r e key : ℕ) (clt : c < run.columns) (rlt : r < members run.faults) (klt : key < length run.key_names) where
  -- ---- each entry is an act

  part_done : (round : RoundLog) (state : WholeState) (emptied : List ℕ) (m : Moment) → turns_in_journal c (journal_of round r key) ≡ turns_in_log r key (log_of round c) →
      (n : ℕ) → m.past.now + 1 ≡ n → (d : DatedEntry) → Among d (cond (has_epoch e (slice_get state.epochs.replicas r)) (map (dated_at n) (journal_of round r key)) []) → d.entry.seat ≡ c →
      Among (act_in r e key d) (works c state emptied round m).past.acts
  part_done round state emptied m matched n now d a seat = by (has_epoch e (slice_get state.epochs.replicas r)) refl a
    where
      by : (b : Bool) → has_epoch e (slice_get state.epochs.replicas r) ≡ b → Among d (cond b (map (dated_at n) (journal_of round r key)) []) →
          Among (act_in r e key d) (works c state emptied round m).past.acts
      by false k a = absurd a
      by true k a =
          let f = Among-from_map (dated_at n) d (journal_of round r key) a in
          let entry = f.0 in
          let same = f.2 in
          let t = entry_turn c entry (journal_of round r key) f.1 (ap (λ (x : DatedEntry). x.entry.seat) same ∙ seat) in
          let done = turn_done (begins state emptied m) (log_of round c) r key (turn_of_entry entry) (subst (Among (turn_of_entry entry)) matched t) in
          let seen = seen_in e state.epochs.replicas r k in
          let is : act_then (begins state emptied m) r key (turn_of_entry entry) ≡ act_in r e key (dated_at n entry) =
          λ i. record { round = now i; replica = r; epoch = seen i; key = key; act = entry.act; answer = entry.answer } in
          subst (λ (x : PastAct). Among x (works c state emptied round m).past.acts) (is ∙ ap (act_in r e key) same) done

  entry_done : (rounds : List RoundLog) (state : WholeState) (emptied : List ℕ) (m : Moment) (n : ℕ) → EachRoundLegal run state rounds → m.past.now + 1 ≡ n →
      (d : DatedEntry) → Among d (tenure_from r e key n run state rounds) → d.entry.seat ≡ c → Among (act_in r e key d) (moment_through m (events_from c run state emptied rounds)).past.acts
  entry_done [] state emptied m n legal now d a seat = absurd a
  entry_done (round ∷ rounds) state emptied m n legal now d a seat =
      let next = works c state emptied round m in
      let later = events_from c run (after_round run round state) (emptied_in round.globals) rounds in
      let whole = moment_through-append (begins state emptied m) (map Doing (log_of round c)) later in
      let now_next = now_works c state emptied round m in
      subst (λ (x : Moment). Among (act_in r e key d) x.past.acts) (sym whole)
      (elim (Among-append d (cond (has_epoch e (slice_get state.epochs.replicas r)) (map (dated_at n) (journal_of round r key)) []) (tenure_from r e key (n + 1) run (after_round run round state) rounds) a) [
        | inl here ↦ acts_stay next later (act_in r e key d) (part_done round state emptied m ((legal.0).matched c r key clt rlt klt) n now d here seat)
        | inr there ↦ entry_done rounds (after_round run round state) (emptied_in round.globals) next (n + 1) legal.1 (omega (arith, now_next, now)) d there seat
      ])

  -- ---- each act where the epoch was served is an entry

  abbrev Entered : PastAct → List DatedEntry → Type 0
  Entered act tenure = (d : DatedEntry) × Among d tenure × (d.entry.seat ≡ c) × (act_in r e key d ≡ act)

  abbrev Here : PastAct → Type 0
  Here act = (act.replica ≡ r) × (act.epoch ≡ e) × (act.key ≡ key)

  -- of the acts so far
  pub record Kept (m : Moment) (tenure : List DatedEntry) : Type 0 where
    pub early : (act : PastAct) → Among act m.past.acts → act.round ≤ m.past.now
    pub entered : (act : PastAct) → Among act m.past.acts → Here act → m.past.served_in act.round r e ≡ true → Entered act tenure

  more_entered : (act : PastAct) (one other : List DatedEntry) → Entered act one → Entered act (one ++ other)
  more_entered act one other (d, a, seat, same) = (d, Among-append_left d one other a, seat, same)

  -- what was served in an earlier round is known already
  served_before : (views : List ReplicaView) (now round : ℕ) (old : Bool) → round ≤ now → cond (round == now + 1) (serves e (slice_get views r)) old ≡ true → old ≡ true
  served_before views now round old le is = by (round == now + 1) refl is
    where
      by : (b : Bool) → (round == now + 1) ≡ b → cond b (serves e (slice_get views r)) old ≡ true → old ≡ true
      by true k is = absurd (let same = eqb-true round (now + 1) k in omega (arith, same, le))
      by false k is = is

  served_now : (views : List ReplicaView) (now round : ℕ) (old : Bool) → round ≡ now + 1 → cond (round == now + 1) (serves e (slice_get views r)) old ≡ true → serves e (slice_get views r) ≡ true
  served_now views now round old same is = by (round == now + 1) refl is
    where
      by : (b : Bool) → (round == now + 1) ≡ b → cond b (serves e (slice_get views r)) old ≡ true → serves e (slice_get views r) ≡ true
      by true k is = is
      by false k is = absurd (cc (sym k ∙ eq-eqb round (now + 1) same))

  -- the entry of an act of this round
  fresh : (round : RoundLog) (state : WholeState) → turns_in_journal c (journal_of round r key) ≡ turns_in_log r key (log_of round c) →
      (n : ℕ) (act : PastAct) → Here act → act.round ≡ n → Among (turn_of_act act) (turns_in_log act.replica act.key (log_of round c)) → serves e (slice_get (views_of state.epochs) r) ≡ true →
      Entered act (cond (has_epoch e (slice_get state.epochs.replicas r)) (map (dated_at n) (journal_of round r key)) [])
  fresh round state matched n act here at t served =
      let at_key = subst (λ (k : ℕ). Among (turn_of_act act) (turns_in_log r k (log_of round c))) here.2
      (subst (λ (q : ℕ). Among (turn_of_act act) (turns_in_log q act.key (log_of round c))) here.0 t) in
      let f = turn_entry c (turn_of_act act) (journal_of round r key) (subst (Among (turn_of_act act)) (sym matched) at_key) in
      let entry = f.0 in
      let has = serves_has e state.epochs.replicas r served in
      let in_round = here.0 in
      let in_epoch = here.1 in
      let on_key = here.2 in
      let same = f.3 in (
        dated_at n entry,
        subst (λ (b : Bool). Among (dated_at n entry) (cond b (map (dated_at n) (journal_of round r key)) [])) (sym has) (Among-map (dated_at n) entry (journal_of round r key) f.1),
        f.2,
        (λ i. record { round = sym at i; replica = sym in_round i; epoch = sym in_epoch i; key = sym on_key i; act = (same i).act; answer = (same i).answer }),
      )

  kept_round : (round : RoundLog) (state : WholeState) (emptied : List ℕ) (m : Moment) → turns_in_journal c (journal_of round r key) ≡ turns_in_log r key (log_of round c) →
      (n : ℕ) → m.past.now + 1 ≡ n → (tenure : List DatedEntry) → Kept m tenure →
      Kept (works c state emptied round m) (tenure ++ cond (has_epoch e (slice_get state.epochs.replicas r)) (map (dated_at n) (journal_of round r key)) [])
  kept_round round state emptied m matched n now tenure k =
      let log = log_of round c in
      let first = begins state emptied m in
      let views = views_of state.epochs in
      let more = cond (has_epoch e (slice_get state.epochs.replicas r)) (map (dated_at n) (journal_of round r key)) [] in
      let up = now_works c state emptied round m in
      record {
        early = λ act a. elim (act_turn first log act a) [
          | inl old ↦ (let le = k.early act old in omega (arith, le, up))
          | inr new ↦ (let is = new.0 in omega (arith, is, up))
        ];
        entered = λ act a here served.
            let served_then = ap (λ (f : ℕ → ℕ → ℕ → Bool). f act.round r e) (sym (served_in_done first log)) ∙ served in
            elim (act_turn first log act a) [
              | inl old ↦ more_entered act tenure more (k.entered act old here (served_before views m.past.now act.round (m.past.served_in act.round r e) (k.early act old) served_then))
              | inr new ↦ (let f = fresh round state matched n act here (new.0 ∙ now) new.1 (served_now views m.past.now act.round (m.past.served_in act.round r e) new.0 served_then) in
                  (f.0, Among-append_right f.0 tenure more f.1, f.2, f.3))
            ];
      }

  kept_rounds : (rounds : List RoundLog) (state : WholeState) (emptied : List ℕ) (m : Moment) (n : ℕ) → EachRoundLegal run state rounds → m.past.now + 1 ≡ n →
      (tenure : List DatedEntry) → Kept m tenure → Kept (moment_through m (events_from c run state emptied rounds)) (tenure ++ tenure_from r e key n run state rounds)
  kept_rounds [] state emptied m n legal now tenure k = subst (Kept m) (sym (append-nil tenure)) k
  kept_rounds (round ∷ rounds) state emptied m n legal now tenure k =
      let more = cond (has_epoch e (slice_get state.epochs.replicas r)) (map (dated_at n) (journal_of round r key)) [] in
      let later = tenure_from r e key (n + 1) run (after_round run round state) rounds in
      let next = works c state emptied round m in
      let events = events_from c run (after_round run round state) (emptied_in round.globals) rounds in
      let up = now_works c state emptied round m in
      subst (λ (x : Moment). Kept x (tenure ++ (more ++ later))) (sym (moment_through-append (begins state emptied m) (map Doing (log_of round c)) events))
      (subst (Kept (moment_through next events)) (append_assoc tenure more later)
      (kept_rounds rounds (after_round run round state) (emptied_in round.globals) next (n + 1) legal.1 (omega (arith, up, now)) (tenure ++ more)
      (kept_round round state emptied m ((legal.0).matched c r key clt rlt klt) n now tenure k)))

pub tenures_match : TenuresMatch
tenures_match run rounds legal c r e key clt rlt klt =
    let k = kept_rounds run c r e key clt rlt klt rounds (first_state run) [] (start_of run c) 1 legal refl []
    (record { early = λ act none. absurd none; entered = λ act none. absurd none }) in
    record {
      entry_done = entry_done run c r e key clt rlt klt rounds (first_state run) [] (start_of run c) 1 legal refl;
      act_entered = λ act a replica epoch on served. k.entered act a (replica, epoch, on) served;
    }
