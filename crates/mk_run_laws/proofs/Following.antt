-- A column's entries of a tenure stand in the order of its acts.
use Rattle.std.proofs.Common.{◌≡◌, ◌<◌, ℕ, ◌+◌, Bool, true, false, refl, arith, inl, inr, sym, ap, ◌∙◌, List, [], ◌∷◌, ◌++◌, subst, cond, ◌&&◌, map, length}
use Rattle.std.specs.Prelude.{slice_get, ◌==◌}
use Rattle.std.proofs.lemmas.List.{append-nil, append_assoc}
use Rattle.std.proofs.lemmas.Bool.{and_parts, eqb-true}
use Rattle.mk_quorum.specs.Sizes.{members}
use Rattle.mk_words.specs.declared.JournalEntry.{JournalEntry}
use Rattle.mk_words.specs.declared.Step.{Step}
use Rattle.mk_words.specs.declared.Step.TheVariants.{Begin, Unread, Read, Stamp, Validate, Take, Key, Rule, Again, Takeover, Pick, Stop}
use Rattle.mk_model.specs.ColumnState.{Setting}
use Rattle.mk_column_laws.specs.Moments.{Moment, PastAct, act_of, moment_through, step_done}
use Rattle.mk_column_laws.specs.Moments.Event.{Doing}
use Rattle.mk_history.specs.declared.RoundLog.{RoundLog}
use Rattle.mk_history.specs.Histories.{History, log_of, journal_of}
use Rattle.mk_history.specs.Matching.{Turn, turns_in_log, turns_in_journal}
use Rattle.mk_history.specs.Legality.{EachRoundLegal}
use Rattle.mk_history.specs.Wholes.{WholeState, first_state, after_round}
use Rattle.mk_run_laws.specs.RunEvents.{emptied_in, events_from, start_of}
use Rattle.mk_run_laws.specs.Tenures.{DatedEntry, dated_at, has_epoch, tenure_from, act_in, acts_in, StandsIn, TenuresFollow}
use Rattle.mk_run_laws.proofs.Joined.{begins, works, now_works, moment_through-append}
use Rattle.mk_run_laws.proofs.Matched.{seen_in}
use Rattle.mk_run_laws.proofs.Turns.{turn, act_then, turn_of_entry}

-- ---- lists in lists

module _ {X : Type 0} where
  stands_later : (y : X) (xs ys : List X) → StandsIn xs ys → StandsIn xs (y ∷ ys)
  stands_later y [] ys s = tt
  stands_later y (x ∷ xs) ys s = inr s

  stands_after : (xs ys zs : List X) → StandsIn xs zs → StandsIn xs (ys ++ zs)
  stands_after xs [] zs s = s
  stands_after xs (y ∷ ys) zs s = stands_later y xs (ys ++ zs) (stands_after xs ys zs s)

  stands-append : (xs ys us vs : List X) → StandsIn xs ys → StandsIn us vs → StandsIn (xs ++ us) (ys ++ vs)
  stands-append [] ys us vs s t = stands_after us ys vs t
  stands-append (x ∷ xs) [] us vs s t = absurd s
  stands-append (x ∷ xs) (y ∷ ys) us vs (inl here) t = inl (here.0, stands-append xs ys us vs here.1 t)
  stands-append (x ∷ xs) (y ∷ ys) us vs (inr s) t = inr (stands-append (x ∷ xs) ys us vs s t)

-- ---- the acts of a log

abbrev log_acts : Setting → ℕ → List Step → List PastAct
log_acts round now [] = []
log_acts round now (step ∷ log) = act_of round now step ++ log_acts round now log

acts_done : (m : Moment) (log : List Step) → (moment_through m (map Doing log)).past.acts ≡ m.past.acts ++ log_acts m.round m.past.now log
acts_done m [] = sym (append-nil m.past.acts)
acts_done m (step ∷ log) =
    acts_done (step_done step m) log ∙ append_assoc m.past.acts (act_of m.round m.past.now step) (log_acts m.round m.past.now log)

stands_in_log : (m : Moment) (r key : ℕ) (log : List Step) → StandsIn (map (act_then m r key) (turns_in_log r key log)) (log_acts m.round m.past.now log)
stands_in_log m r key [] = tt
stands_in_log m r key (Key call answer ∷ log) = by (call.replica == r && call.key == key) refl (stands_in_log m r key log)
  where
    by : (b : Bool) → (call.replica == r && call.key == key) ≡ b → StandsIn (map (act_then m r key) (turns_in_log r key log)) (log_acts m.round m.past.now log) →
        StandsIn (map (act_then m r key) (cond b (turn call answer ∷ turns_in_log r key log) (turns_in_log r key log)))
        (act_then m call.replica call.key (turn call answer) ∷ log_acts m.round m.past.now log)
    by false k s = stands_later (act_then m call.replica call.key (turn call answer)) (map (act_then m r key) (turns_in_log r key log)) (log_acts m.round m.past.now log) s
    by true k s =
        let both = and_parts (call.replica == r) (call.key == key) k in
        let at = eqb-true call.replica r both.0 in
        let on = eqb-true call.key key both.1 in
        inl ((λ i. act_then m (at i) (on i) (turn call answer)), s)
stands_in_log m r key (Begin client replica ∷ log) = stands_in_log m r key log
stands_in_log m r key (Unread client ∷ log) = stands_in_log m r key log
stands_in_log m r key (Read id k ∷ log) = stands_in_log m r key log
stands_in_log m r key (Stamp id clock writes ∷ log) = stands_in_log m r key log
stands_in_log m r key (Validate id ∷ log) = stands_in_log m r key log
stands_in_log m r key (Take number ∷ log) = stands_in_log m r key log
stands_in_log m r key (Rule id ∷ log) = stands_in_log m r key log
stands_in_log m r key (Again id ∷ log) = stands_in_log m r key log
stands_in_log m r key (Takeover id view ∷ log) = stands_in_log m r key log
stands_in_log m r key (Pick id view ∷ log) = stands_in_log m r key log
stands_in_log m r key (Stop id ∷ log) = stands_in_log m r key log

-- ---- the entries of a column

acts_in-append : (c r e key : ℕ) (one other : List DatedEntry) → acts_in c r e key (one ++ other) ≡ acts_in c r e key one ++ acts_in c r e key other
acts_in-append c r e key [] other = refl
acts_in-append c r e key (d ∷ one) other = by (d.entry.seat == c) (acts_in-append c r e key one other)
  where
    by : (b : Bool) → acts_in c r e key (one ++ other) ≡ acts_in c r e key one ++ acts_in c r e key other →
        cond b (act_in r e key d ∷ acts_in c r e key (one ++ other)) (acts_in c r e key (one ++ other))
        ≡ cond b (act_in r e key d ∷ acts_in c r e key one) (acts_in c r e key one) ++ acts_in c r e key other
    by true same = ap (λ (xs : List PastAct). act_in r e key d ∷ xs) same
    by false same = same

-- a turn as the act of a round
abbrev act_at_turn : (n r e key : ℕ) → Turn → PastAct
act_at_turn n r e key t = record { round = n; replica = r; epoch = e; key = key; act = t.act; answer = t.answer }

acts_of_journal : (c n r e key : ℕ) (journal : List JournalEntry) → acts_in c r e key (map (dated_at n) journal) ≡ map (act_at_turn n r e key) (turns_in_journal c journal)
acts_of_journal c n r e key [] = refl
acts_of_journal c n r e key (x ∷ journal) = by (x.seat == c) (acts_of_journal c n r e key journal)
  where
    by : (b : Bool) → acts_in c r e key (map (dated_at n) journal) ≡ map (act_at_turn n r e key) (turns_in_journal c journal) →
        cond b (act_in r e key (dated_at n x) ∷ acts_in c r e key (map (dated_at n) journal)) (acts_in c r e key (map (dated_at n) journal))
        ≡ map (act_at_turn n r e key) (cond b (turn_of_entry x ∷ turns_in_journal c journal) (turns_in_journal c journal))
    by true same = ap (λ (xs : List PastAct). act_in r e key (dated_at n x) ∷ xs) same
    by false same = same

-- ---- rounds

module _ (run : History) (c r e key : ℕ) (clt : c < run.columns) (rlt : r < members run.faults) (klt : key < length run.key_names) where
  stands_round : (round : RoundLog) (state : WholeState) (emptied : List ℕ) (m : Moment) → turns_in_journal c (journal_of round r key) ≡ turns_in_log r key (log_of round c) →
      (n : ℕ) → m.past.now + 1 ≡ n → (tenure : List DatedEntry) → StandsIn (acts_in c r e key tenure) m.past.acts →
      StandsIn (acts_in c r e key (tenure ++ cond (has_epoch e (slice_get state.epochs.replicas r)) (map (dated_at n) (journal_of round r key)) []))
      (works c state emptied round m).past.acts
  stands_round round state emptied m matched n now tenure before =
      subst (λ (xs : List PastAct). StandsIn xs (works c state emptied round m).past.acts) (sym (acts_in-append c r e key tenure more))
      (subst (StandsIn (acts_in c r e key tenure ++ acts_in c r e key more)) (sym (acts_done first (log_of round c)))
      (stands-append (acts_in c r e key tenure) m.past.acts (acts_in c r e key more) done before (by (has_epoch e (slice_get state.epochs.replicas r)) refl)))
    where
      first : Moment
      first = begins state emptied m

      more : List DatedEntry
      more = cond (has_epoch e (slice_get state.epochs.replicas r)) (map (dated_at n) (journal_of round r key)) []

      done : List PastAct
      done = log_acts first.round first.past.now (log_of round c)

      by : (b : Bool) → has_epoch e (slice_get state.epochs.replicas r) ≡ b → StandsIn (acts_in c r e key (cond b (map (dated_at n) (journal_of round r key)) [])) done
      by false k = tt
      by true k =
          let seen = seen_in e state.epochs.replicas r k in
          let as_acts : act_then first r key ≡ act_at_turn n r e key =
          λ i t. record { round = now i; replica = r; epoch = seen i; key = key; act = t.act; answer = t.answer } in
          subst (λ (xs : List PastAct). StandsIn xs done) (sym (acts_of_journal c n r e key (journal_of round r key)))
          (subst (λ (ts : List Turn). StandsIn (map (act_at_turn n r e key) ts) done) (sym matched)
          (subst (λ (f : Turn → PastAct). StandsIn (map f (turns_in_log r key (log_of round c))) done) as_acts (stands_in_log first r key (log_of round c))))

  stands_rounds : (rounds : List RoundLog) (state : WholeState) (emptied : List ℕ) (m : Moment) (n : ℕ) → EachRoundLegal run state rounds → m.past.now + 1 ≡ n →
      (tenure : List DatedEntry) → StandsIn (acts_in c r e key tenure) m.past.acts →
      StandsIn (acts_in c r e key (tenure ++ tenure_from r e key n run state rounds)) (moment_through m (events_from c run state emptied rounds)).past.acts
  stands_rounds [] state emptied m n legal now tenure before =
      subst (λ (xs : List DatedEntry). StandsIn (acts_in c r e key xs) m.past.acts) (sym (append-nil tenure)) before
  stands_rounds (round ∷ rounds) state emptied m n legal now tenure before =
      let more = cond (has_epoch e (slice_get state.epochs.replicas r)) (map (dated_at n) (journal_of round r key)) [] in
      let later = tenure_from r e key (n + 1) run (after_round run round state) rounds in
      let next = works c state emptied round m in
      let events = events_from c run (after_round run round state) (emptied_in round.globals) rounds in
      let up = now_works c state emptied round m in
      subst (λ (x : Moment). StandsIn (acts_in c r e key (tenure ++ (more ++ later))) x.past.acts) (sym (moment_through-append (begins state emptied m) (map Doing (log_of round c)) events))
      (subst (λ (xs : List DatedEntry). StandsIn (acts_in c r e key xs) (moment_through next events).past.acts) (append_assoc tenure more later)
      (stands_rounds rounds (after_round run round state) (emptied_in round.globals) next (n + 1) legal.1 (omega (arith, up, now)) (tenure ++ more)
      (stands_round round state emptied m ((legal.0).matched c r key clt rlt klt) n now tenure before)))

pub tenures_follow : TenuresFollow
tenures_follow run rounds legal c r e key clt rlt klt =
    stands_rounds run c r e key clt rlt klt rounds (first_state run) [] (start_of run c) 1 legal refl [] tt
