-- What each step does to the entries that are remembered, and that records go on to match them.
use Rattle.std.proofs.Common.{◌≡◌, ◌⊎◌, ◌<◌, ◌≤◌, ◌∙◌, ℕ, Bool, true, false, refl, inl, inr, sym, ap, subst, List, [], ◌∷◌, ◌++◌, Option, Some, None, get_or-set_same, get_or-set_other}
use Rattle.std.specs.Prelude.{option_map, option_and_then, slice_get, slice_set, slice_index_or, is_some, length}
use Rattle.std.proofs.lemmas.Option.{same_Some}
use Rattle.std.proofs.lemmas.Bool.{cases_eq}
use Rattle.mk_lists.specs.Among.{Among}
use Rattle.mk_words.proofs.EntryLaws.{entry_of-change, entry_of-change_other}
use Rattle.mk_txn.specs.declared.TxnId.{TxnId}
use Rattle.mk_txn.specs.declared.Vote.{Vote}
use Rattle.mk_txn.specs.declared.Outcome.{Outcome}
use Rattle.mk_txn.specs.Transactions.{Transaction, same_id}
use Rattle.mk_words.specs.declared.Answer.{Answer}
use Rattle.mk_words.specs.declared.Entry.{Entry}
use Rattle.mk_words.specs.Entries.{opened, entry_of, change_entry, with_vote}
use Rattle.mk_words.specs.declared.Msg.{Msg}
use Rattle.mk_words.specs.declared.Body.{Body}
use Rattle.mk_words.specs.declared.Body.TheVariants.{Voted, Accept, Accepted as AcceptedBody, Decide, Ask, Told as ToldBody, Moved as MovedBody}
use Rattle.mk_quorum.specs.Sizes.{members}
use Rattle.mk_quorum.specs.Slots.{passes}
use Rattle.mk_txn.specs.Outcomes.{is_ok_vote}
use Rattle.mk_txn.proofs.IdOrder.{same_id-tells}
use Rattle.mk_words.specs.Checks.{KeyAct, finish_acts}
use Rattle.mk_words.specs.Validations.{ValidationState, next_act, after_answer, vote_of}
use Rattle.mk_words.specs.declared.Step.{Step}
use Rattle.mk_model.specs.ColumnState.{ColumnState, AttemptState, attempt_of, entries_at}
use Rattle.mk_model.specs.ColumnState.Work.{Idle, Validating}
use Rattle.mk_words.specs.KeptOutcomes.{known_of}
use Rattle.mk_model.specs.Replicas.{Reaction, reply, told_of, reaction_by_view, reacted, serves, held_at, finishing}
use Rattle.mk_model.specs.Learnings.{learned_in_step, txn_of}
use Rattle.mk_model.specs.Steps.{replica_takes, validated, voted_msg}
use Rattle.mk_column_laws.specs.Moments.{Moment, PastEntry, Taught, remembered, remembered_from, past_after}
use Rattle.mk_model.specs.Sending.{Sent, msg_of}
use Rattle.mk_column_laws.specs.Moves.{undated, EntryMove, Newborn, WorkMove, IsStampedIn, ServesAttempt, IsMatched, past_opened, past_or_opened, entry_of_past}
use Rattle.mk_column_laws.specs.Moves.EntryMove.{EntryStays, EntryOpens, EntryVotes, EntryPromises, EntryAccepts, EntryFinishes}
use Rattle.mk_column_laws.specs.Moves.Newborn.{VoteSent, AcceptedSent, FinalToldSent, PromiseSent, MovedSent}
use Rattle.mk_column_laws.specs.Moves.WorkMove.{WorkRests, WorkEnds, WorkValidates}
use Rattle.mk_column_laws.specs.Facts.{Facts, WorkFacts}
use Rattle.mk_column_laws.proofs.Histories.{remembered-same, matched-stays, remembered-promise, remembered-accepted, remembered-last, undated-none, undated-some}
use Rattle.mk_column_laws.proofs.Reactions.{ReactionKind, view_reacts}
use Rattle.mk_column_laws.proofs.Reactions.ReactionKind.{Quiet, BeginsValidation, VotesAgain, TellsFinal, PromisesView, AcceptsOutcome, Finishes, TellsMoved}

-- the moment after a step, where the column is this one but for what was learned
abbrev pub moment_with : Moment → Step → ColumnState → Moment
moment_with m step c =
    record {
      round = m.round;
      column = record c { learned = m.column.learned ++ learned_in_step m.round m.column step };
      past = past_after m.round m.column step c m.past;
    }

-- a message, by what it says
pub sent_as : (link : List Msg) (msg : Msg) (b : Body) → Among msg link → msg.body ≡ b → Sent link msg.id msg.replica msg.view b
sent_as link msg b a is =
    let same : msg ≡ msg_of msg.epoch msg.id msg.replica msg.view b =
    λ i. record { epoch = msg.epoch; id = msg.id; replica = msg.replica; view = msg.view; body = is i } in
    (msg.epoch, subst (λ (x : Msg). Among x link) same a)

-- a transaction is its attempt's
pub txn_of-some : (column : ColumnState) (id : TxnId) (txn : Transaction) → txn_of column id ≡ Some txn → (a : AttemptState) × (attempt_of column id ≡ Some a) × (a.txn ≡ Some txn)
txn_of-some column id txn e = by (attempt_of column id) refl e
  where
    by : (o : Option AttemptState) → attempt_of column id ≡ o → option_and_then (λ (a : AttemptState). a.txn) o ≡ Some txn → (a : AttemptState) × (attempt_of column id ≡ Some a) × (a.txn ≡ Some txn)
    by None is k = absurd (cc k)
    by (Some a) is k = (a, is, k)

-- a record goes on to match where its entry and what is remembered of it stay
pub matched_kept : (m next : Moment) (q : ℕ) (id : TxnId) →
    entry_of id (entries_at next.column q) ≡ entry_of id (entries_at m.column q) → next.past.entries q id ≡ m.past.entries q id →
    ((epoch : ℕ) → m.past.has_left q epoch ≡ true → next.past.has_left q epoch ≡ true) →
    ((a : AttemptState) → attempt_of m.column id ≡ Some a → (b : AttemptState) × (attempt_of next.column id ≡ Some b) × (b.epoch ≡ a.epoch)) →
    IsMatched m q id → IsMatched next q id
matched_kept m next q id same stays left attempts (inl e) = inl (same ∙ e ∙ sym (ap (option_map entry_of_past) stays))
matched_kept m next q id same stays left attempts (inr k) =
    let b = attempts k.1.0 k.1.1 in
    inr (same ∙ k.0, (b.0, b.1, subst (λ (n : ℕ). next.past.has_left q n ≡ true) (sym b.2) (left k.1.0.epoch k.1.2)))

module _ (taught : Taught) (m : Moment) (h : Facts taught m) (step : Step) where
  -- records that nothing touches
  pub entries_stay : (r : ℕ) (id : TxnId) → remembered m.past.now (m.past.entries r id) (entry_of id (entries_at m.column r)) ≡ m.past.entries r id
  entries_stay r id = matched-stays m r id (h.matched r id)

  -- what is done to an entry, and that the record matches then or stays as it was
  abbrev pub EntrySorted : ColumnState → ℕ → TxnId → Type 0
  EntrySorted c r id =
      EntryMove m (moment_with m step c) r id (m.past.entries r id) (remembered m.past.now (m.past.entries r id) (entry_of id (entries_at c r)))
      × ((entry_of id (entries_at c r) ≡ option_map entry_of_past (remembered m.past.now (m.past.entries r id) (entry_of id (entries_at c r))))
      ⊎ ((entry_of id (entries_at c r) ≡ entry_of id (entries_at m.column r))
      × (remembered m.past.now (m.past.entries r id) (entry_of id (entries_at c r)) ≡ m.past.entries r id)))

  pub entry_untouched : (c : ColumnState) (r : ℕ) (id : TxnId) → entry_of id (entries_at c r) ≡ entry_of id (entries_at m.column r) → EntrySorted c r id
  entry_untouched c r id e =
      let stays = ap (remembered m.past.now (m.past.entries r id)) e ∙ entries_stay r id in
      (EntryStays stays, inr (e, stays))

  -- an entry that the record and the past have after a change
  changed_to : (c : ColumnState) (r : ℕ) (id : TxnId) (e : Entry) (p : PastEntry) → entry_of id (entries_at c r) ≡ Some e → remembered_from m.past.now (m.past.entries r id) e ≡ p → e ≡ entry_of_past p →
      (remembered m.past.now (m.past.entries r id) (entry_of id (entries_at c r)) ≡ Some p)
      × (entry_of id (entries_at c r) ≡ option_map entry_of_past (remembered m.past.now (m.past.entries r id) (entry_of id (entries_at c r))))
  changed_to c r id e p is from back =
      let new : remembered m.past.now (m.past.entries r id) (entry_of id (entries_at c r)) ≡ Some p = ap (remembered m.past.now (m.past.entries r id)) is ∙ ap Some from in
      (new, is ∙ ap Some back ∙ sym (ap (option_map entry_of_past) new))

  -- ---- a message is taken by a replica

  module _ (msg : Msg) (among : Among msg m.column.link) (txn : Transaction) (is_txn : txn_of m.column msg.id ≡ Some txn) (idle : m.column.work ≡ Idle) where
    pub re_of : Reaction
    re_of = reaction_by_view txn (held_at m.column msg.replica) msg (slice_get m.round.views msg.replica)

    pub in_range : msg.replica < length m.column.records
    in_range = subst (λ (n : ℕ). msg.replica < n) (sym h.sized) (h.ranged msg among)

    pub the_epoch : (a : AttemptState) → attempt_of m.column msg.id ≡ Some a → a.epoch ≡ msg.epoch
    the_epoch a e =
        let s = (h.messages msg among).0 in
        ap (λ (x : AttemptState). x.epoch) (same_Some a s.attempt (sym e ∙ s.found)) ∙ s.same_epoch

    pub serves_it : serves msg.epoch (slice_get m.round.views msg.replica) ≡ true → ServesAttempt m msg.replica msg.id txn
    serves_it served =
        let a = txn_of-some m.column msg.id txn is_txn in
        record { attempt = a.0; found = a.1; stamped = a.2; served = subst (λ (n : ℕ). serves n (slice_get m.round.views msg.replica) ≡ true) (sym (the_epoch a.0 a.1)) served }

    matched_there : serves msg.epoch (slice_get m.round.views msg.replica) ≡ true → entry_of msg.id (entries_at m.column msg.replica) ≡ option_map entry_of_past (m.past.entries msg.replica msg.id)
    matched_there served = by (h.matched msg.replica msg.id)
      where
        by : IsMatched m msg.replica msg.id → entry_of msg.id (entries_at m.column msg.replica) ≡ option_map entry_of_past (m.past.entries msg.replica msg.id)
        by (inl e) = e
        by (inr k) =
            let stayed = h.round.tenure msg.replica msg.epoch served in
            let left = subst (λ (n : ℕ). m.past.has_left msg.replica n ≡ true) (the_epoch k.1.0 k.1.1) k.1.2 in
            absurd (cc (stayed, left))

    the_id : txn.id ≡ msg.id
    the_id = let a = txn_of-some m.column msg.id txn is_txn in (h.attempts msg.id a.0 a.1).txn_id txn a.2

    pub reacts : ReactionKind (slice_get m.round.views msg.replica) msg txn (entry_of msg.id (entries_at m.column msg.replica)) (m.past.entries msg.replica msg.id)
        (reaction_by_view txn (held_at m.column msg.replica) msg (slice_get m.round.views msg.replica))
    reacts = (view_reacts msg txn (held_at m.column msg.replica) the_id (slice_get m.round.views msg.replica) (m.past.entries msg.replica msg.id) matched_there).0

    others_stay : (other : TxnId) → same_id msg.id other ≡ false →
        entry_of other (reaction_by_view txn (held_at m.column msg.replica) msg (slice_get m.round.views msg.replica)).held.entries ≡ entry_of other (entries_at m.column msg.replica)
    others_stay = (view_reacts msg txn (held_at m.column msg.replica) the_id (slice_get m.round.views msg.replica) (m.past.entries msg.replica msg.id) matched_there).1

    module _ (re : Reaction) (kind : ReactionKind (slice_get m.round.views msg.replica) msg txn (entry_of msg.id (entries_at m.column msg.replica)) (m.past.entries msg.replica msg.id) re)
        (others : (other : TxnId) → same_id msg.id other ≡ false → entry_of other re.held.entries ≡ entry_of other (entries_at m.column msg.replica)) where
      at_replica : (id : TxnId) → entry_of id (entries_at (reacted msg.replica re m.column) msg.replica) ≡ entry_of id re.held.entries
      at_replica id = ap (entry_of id) (get_or-set_same m.column.records msg.replica re.held.entries [] in_range)

      by_kind : ReactionKind (slice_get m.round.views msg.replica) msg txn (entry_of msg.id (entries_at m.column msg.replica)) (m.past.entries msg.replica msg.id) re →
          EntrySorted (reacted msg.replica re m.column) msg.replica msg.id
      by_kind (Quiet e sent work) = entry_untouched (reacted msg.replica re m.column) msg.replica msg.id (at_replica msg.id ∙ e)
      by_kind (TellsMoved there v s lt e sent work) = entry_untouched (reacted msg.replica re m.column) msg.replica msg.id (at_replica msg.id ∙ e)
      by_kind (BeginsValidation mark body served none e sent work) =
          let k = changed_to (reacted msg.replica re m.column) msg.replica msg.id (opened txn) (past_opened txn) (at_replica msg.id ∙ e)
          (ap (λ (o : Option PastEntry). remembered_from m.past.now o (opened txn)) none) refl in
          (EntryOpens txn msg.epoch (serves_it served) none k.0 idle work, inl k.1)
      by_kind (VotesAgain mark past vote body served old_is vote_is e sent work) =
          let k = changed_to (reacted msg.replica re m.column) msg.replica msg.id (entry_of_past past) past (at_replica msg.id ∙ e)
          (ap (λ (o : Option PastEntry). remembered_from m.past.now o (entry_of_past past)) old_is ∙ remembered-same m.past.now past) refl in
          (EntryStays (k.0 ∙ sym old_is), inl k.1)
      by_kind (TellsFinal past outcome served old_is last_is e sent work) =
          let k = changed_to (reacted msg.replica re m.column) msg.replica msg.id (entry_of_past past) past (at_replica msg.id ∙ e)
          (ap (λ (o : Option PastEntry). remembered_from m.past.now o (entry_of_past past)) old_is ∙ remembered-same m.past.now past) refl in
          (EntryStays (k.0 ∙ sym old_is), inl k.1)
      by_kind (PromisesView body served last le e sent work) =
          let there = past_or_opened txn (m.past.entries msg.replica msg.id) in
          let k = changed_to (reacted msg.replica re m.column) msg.replica msg.id _ (record there { view = msg.view }) (at_replica msg.id ∙ e)
          (remembered-promise m.past.now txn (m.past.entries msg.replica msg.id) msg.view) refl in
          (EntryPromises txn msg.view (serves_it served) (sent_as m.column.link msg Ask among body) (undated-none there.last last) le k.0 idle work, inl k.1)
      by_kind (AcceptsOutcome outcome body served last le e sent work) =
          let there = past_or_opened txn (m.past.entries msg.replica msg.id) in
          let k = changed_to (reacted msg.replica re m.column) msg.replica msg.id _ (record there { view = msg.view; accepted = Some (record { view = msg.view; outcome = outcome }) }) (at_replica msg.id ∙ e)
          (remembered-accepted m.past.now txn (m.past.entries msg.replica msg.id) msg.view outcome) refl in
          (EntryAccepts txn msg.view outcome (serves_it served) (sent_as m.column.link msg (Accept outcome) among body) (undated-none there.last last) le k.0 idle work, inl k.1)
      by_kind (Finishes outcome body served last e sent work) =
          let there = past_or_opened txn (m.past.entries msg.replica msg.id) in
          let none = undated-none there.last last in
          let k = changed_to (reacted msg.replica re m.column) msg.replica msg.id _ (record there { last = Some (outcome, m.past.now) }) (at_replica msg.id ∙ e)
          (remembered-last m.past.now txn (m.past.entries msg.replica msg.id) outcome none) refl in
          (EntryFinishes txn msg.view outcome (serves_it served) (sent_as m.column.link msg (Decide outcome) among body) none k.0 idle, inl k.1)

      pub reacted_sorted : (q : ℕ) (id : TxnId) → EntrySorted (reacted msg.replica re m.column) q id
      reacted_sorted q id = by (cases_eq q msg.replica) (same_id msg.id id) refl
        where
          by : (q ≡ msg.replica) ⊎ (q ≡ msg.replica → ⊥) → (b : Bool) → same_id msg.id id ≡ b → EntrySorted (reacted msg.replica re m.column) q id
          by (inl e) true t =
              subst (λ (n : ℕ). EntrySorted (reacted msg.replica re m.column) n id) (sym e)
              (subst (λ (x : TxnId). EntrySorted (reacted msg.replica re m.column) msg.replica x) (same_id-tells msg.id id t) (by_kind kind))
          by (inl e) false t =
              subst (λ (n : ℕ). EntrySorted (reacted msg.replica re m.column) n id) (sym e)
              (entry_untouched (reacted msg.replica re m.column) msg.replica id (at_replica id ∙ others id t))
          by (inr ne) b t =
              entry_untouched (reacted msg.replica re m.column) q id (ap (entry_of id) (get_or-set_other m.column.records msg.replica q re.held.entries [] ne))

      -- what the replica sends
      stamped_still : IsStampedIn (moment_with m step (reacted msg.replica re m.column)) msg.id msg.epoch
      stamped_still = let s = (h.messages msg among).0 in record { attempt = s.attempt; found = s.found; stamped = s.stamped; same_epoch = s.same_epoch }

      abbrev pub SentRight : Msg → Type 0
      SentRight new =
          (new.replica < members m.round.faults)
          × IsStampedIn (moment_with m step (reacted msg.replica re m.column)) new.id new.epoch
          × Newborn m (moment_with m step (reacted msg.replica re m.column)) new

      one_reply : (b : Body) → Newborn m (moment_with m step (reacted msg.replica re m.column)) (reply msg b) → (new : Msg) → Among new (reply msg b ∷ []) → SentRight new
      one_reply b n new (inl e) = subst SentRight e (h.ranged msg among, stamped_still, n)
      one_reply b n new (inr none) = absurd none

      no_reply : (sent : List Msg) → sent ≡ [] → (new : Msg) → Among new sent → SentRight new
      no_reply [] e new a = absurd a
      no_reply (x ∷ xs) e new a = absurd (cc e)

      as_sent : (sent : List Msg) → re.sent ≡ sent → ((new : Msg) → Among new sent → SentRight new) → (new : Msg) → Among new re.sent → SentRight new
      as_sent sent e k new a = k new (subst (λ (l : List Msg). Among new l) e a)

      sent_by_kind : ReactionKind (slice_get m.round.views msg.replica) msg txn (entry_of msg.id (entries_at m.column msg.replica)) (m.past.entries msg.replica msg.id) re →
          (new : Msg) → Among new re.sent → SentRight new
      sent_by_kind (Quiet e sent work) = as_sent [] sent (no_reply [] refl)
      sent_by_kind (BeginsValidation mark body served none e sent work) = as_sent [] sent (no_reply [] refl)
      sent_by_kind (Finishes outcome body served last e sent work) = as_sent [] sent (no_reply [] refl)
      sent_by_kind (TellsMoved there v s lt e sent work) =
          as_sent _ sent (one_reply (MovedBody (record { to = there.epoch; fate = known_of there.fates msg.id })) (MovedSent there refl v s lt))
      sent_by_kind (VotesAgain mark past vote body served old_is vote_is e sent work) =
          let k = changed_to (reacted msg.replica re m.column) msg.replica msg.id (entry_of_past past) past (at_replica msg.id ∙ e)
          (ap (λ (o : Option PastEntry). remembered_from m.past.now o (entry_of_past past)) old_is ∙ remembered-same m.past.now past) refl in
          let v = undated-some past.vote vote vote_is in
          as_sent _ sent (one_reply (Voted vote) (VoteSent past vote v.0 refl k.0 v.1))
      sent_by_kind (TellsFinal past outcome served old_is last_is e sent work) =
          let k = changed_to (reacted msg.replica re m.column) msg.replica msg.id (entry_of_past past) past (at_replica msg.id ∙ e)
          (ap (λ (o : Option PastEntry). remembered_from m.past.now o (entry_of_past past)) old_is ∙ remembered-same m.past.now past) refl in
          let l = undated-some past.last outcome last_is in
          as_sent _ sent (one_reply (ToldBody (told_of (entry_of_past past))) (FinalToldSent past outcome l.0 refl k.0 l.1))
      sent_by_kind (PromisesView body served last le e sent work) =
          let there = past_or_opened txn (m.past.entries msg.replica msg.id) in
          let k = changed_to (reacted msg.replica re m.column) msg.replica msg.id _ (record there { view = msg.view }) (at_replica msg.id ∙ e)
          (remembered-promise m.past.now txn (m.past.entries msg.replica msg.id) msg.view) refl in
          as_sent _ sent (one_reply (ToldBody (told_of (entry_of_past there)))
          (PromiseSent txn (sent_as m.column.link msg Ask among body) refl (undated-none there.last last) le k.0 work))
      sent_by_kind (AcceptsOutcome outcome body served last le e sent work) =
          let there = past_or_opened txn (m.past.entries msg.replica msg.id) in
          let after = record there { view = msg.view; accepted = Some (record { view = msg.view; outcome = outcome }) } in
          let k = changed_to (reacted msg.replica re m.column) msg.replica msg.id _ after (at_replica msg.id ∙ e)
          (remembered-accepted m.past.now txn (m.past.entries msg.replica msg.id) msg.view outcome) refl in
          as_sent _ sent (one_reply AcceptedBody (AcceptedSent after outcome refl k.0 refl refl
          (λ old is. subst (λ (o : Option PastEntry). (past_or_opened txn o).view ≤ msg.view) is le)
          (sent_as m.column.link msg (Accept outcome) among body)))

      pub reacted_sends : (new : Msg) → Among new re.sent → SentRight new
      reacted_sends = sent_by_kind kind

      -- the key calls that it begins
      finishing_moves : (entry : PastEntry) (outcome : Outcome) (acts : List KeyAct) → ServesAttempt m msg.replica msg.id txn →
          remembered m.past.now (m.past.entries msg.replica msg.id) (entry_of msg.id (entries_at (reacted msg.replica re m.column) msg.replica)) ≡ Some entry →
          entry.last ≡ Some (outcome, m.past.now) → acts ≡ finish_acts entry.txn outcome (passes is_ok_vote (undated entry.vote)) → re.work ≡ finishing msg.replica acts →
          WorkMove m (moment_with m step (reacted msg.replica re m.column)) m.column.work re.work
      finishing_moves entry outcome [] s there last is e = WorkRests e
      finishing_moves entry outcome (act ∷ acts) s there last is e = WorkEnds txn msg.replica msg.id entry outcome (act ∷ acts) s refl refl idle there last is e

      work_by_kind : ReactionKind (slice_get m.round.views msg.replica) msg txn (entry_of msg.id (entries_at m.column msg.replica)) (m.past.entries msg.replica msg.id) re →
          WorkMove m (moment_with m step (reacted msg.replica re m.column)) m.column.work re.work
      work_by_kind (Quiet e sent work) = WorkRests work
      work_by_kind (TellsMoved there v s lt e sent work) = WorkRests work
      work_by_kind (VotesAgain mark past vote body served old_is vote_is e sent work) = WorkRests work
      work_by_kind (TellsFinal past outcome served old_is last_is e sent work) = WorkRests work
      work_by_kind (PromisesView body served last le e sent work) = WorkRests work
      work_by_kind (AcceptsOutcome outcome body served last le e sent work) = WorkRests work
      work_by_kind (Finishes outcome body served last e sent work) =
          let there = past_or_opened txn (m.past.entries msg.replica msg.id) in
          let after = record there { last = Some (outcome, m.past.now) } in
          let k = changed_to (reacted msg.replica re m.column) msg.replica msg.id _ after (at_replica msg.id ∙ e)
          (remembered-last m.past.now txn (m.past.entries msg.replica msg.id) outcome (undated-none there.last last)) refl in
          finishing_moves after outcome _ (serves_it served) k.0 refl refl work
      work_by_kind (BeginsValidation mark body served none e sent work) =
          let k = changed_to (reacted msg.replica re m.column) msg.replica msg.id (opened txn) (past_opened txn) (at_replica msg.id ∙ e)
          (ap (λ (o : Option PastEntry). remembered_from m.past.now o (opened txn)) none) refl in
          let s = serves_it served in
          let at_txn : ServesAttempt m msg.replica txn.id txn =
          subst (λ (x : TxnId). ServesAttempt m msg.replica x txn) (sym the_id) s in
          let found : attempt_of m.column txn.id ≡ Some s.attempt = subst (λ (x : TxnId). attempt_of m.column x ≡ Some s.attempt) (sym the_id) s.found in
          let here : ServesAttempt m msg.replica txn.id txn = record { attempt = s.attempt; found = found; stamped = s.stamped; served = s.served } in
          WorkValidates txn msg.replica msg.epoch here (the_epoch s.attempt s.found) refl (h.ranged msg among) idle
          (ap (m.past.entries msg.replica) the_id ∙ none)
          (subst (λ (x : TxnId). remembered m.past.now (m.past.entries msg.replica x) (entry_of x (entries_at (reacted msg.replica re m.column) msg.replica)) ≡ Some (past_opened txn)) (sym the_id) k.0)
          work

      pub reacted_works : WorkMove m (moment_with m step (reacted msg.replica re m.column)) m.column.work re.work
      reacted_works = work_by_kind kind

    pub replica_sorted : (q : ℕ) (id : TxnId) → EntrySorted (replica_takes m.round msg txn m.column) q id
    replica_sorted = reacted_sorted (reaction_by_view txn (held_at m.column msg.replica) msg (slice_get m.round.views msg.replica)) reacts others_stay

    pub replica_sends : (new : Msg) → Among new (reaction_by_view txn (held_at m.column msg.replica) msg (slice_get m.round.views msg.replica)).sent →
        (new.replica < members m.round.faults) × IsStampedIn (moment_with m step (replica_takes m.round msg txn m.column)) new.id new.epoch
        × Newborn m (moment_with m step (replica_takes m.round msg txn m.column)) new
    replica_sends = reacted_sends (reaction_by_view txn (held_at m.column msg.replica) msg (slice_get m.round.views msg.replica)) reacts others_stay

    pub replica_works : WorkMove m (moment_with m step (replica_takes m.round msg txn m.column)) m.column.work (replica_takes m.round msg txn m.column).work
    replica_works = reacted_works (reaction_by_view txn (held_at m.column msg.replica) msg (slice_get m.round.views msg.replica)) reacts others_stay

  -- ---- a validation goes on

  module _ (txn : Transaction) (r ep : ℕ) (state : ValidationState) (answer : Answer) (work : m.column.work ≡ Validating txn r ep state) where
    facts : WorkFacts m (Validating txn r ep state)
    facts = subst (WorkFacts m) work h.work

    r_in_range : r < length m.column.records
    r_in_range = subst (λ (n : ℕ). r < n) (sym h.sized) facts.2

    entry_there : entry_of txn.id (entries_at m.column r) ≡ Some (opened txn)
    entry_there = by (h.matched r txn.id)
      where
        by : IsMatched m r txn.id → entry_of txn.id (entries_at m.column r) ≡ Some (opened txn)
        by (inl e) = e ∙ ap (option_map entry_of_past) facts.0
        by (inr k) =
            let s = facts.1.0 in
            let stayed = h.round.tenure r s.attempt.epoch s.served in
            let left = subst (λ (a : AttemptState). m.past.has_left r a.epoch ≡ true) (same_Some k.1.0 s.attempt (sym k.1.1 ∙ s.found)) k.1.2 in
            absurd (cc (stayed, left))

    vote_here : (w : Vote) (c : ColumnState) → c.records ≡ slice_set m.column.records r (change_entry txn.id (with_vote w) (entries_at m.column r)) → entry_of txn.id (entries_at c r) ≡ Some (with_vote w (opened txn))
    vote_here w c e =
        ap (λ (l : List (List Entry)). entry_of txn.id (slice_index_or l r [])) e
        ∙ ap (entry_of txn.id) (get_or-set_same m.column.records r (change_entry txn.id (with_vote w) (entries_at m.column r)) [] r_in_range)
        ∙ entry_of-change txn.id (with_vote w) (entries_at m.column r) (λ _. refl)
        ∙ ap (option_map (with_vote w)) entry_there

    vote_others : (w : Vote) (c : ColumnState) → c.records ≡ slice_set m.column.records r (change_entry txn.id (with_vote w) (entries_at m.column r)) → (other : TxnId) → same_id txn.id other ≡ false →
        entry_of other (entries_at c r) ≡ entry_of other (entries_at m.column r)
    vote_others w c e other apart =
        ap (λ (l : List (List Entry)). entry_of other (slice_index_or l r [])) e
        ∙ ap (entry_of other) (get_or-set_same m.column.records r (change_entry txn.id (with_vote w) (entries_at m.column r)) [] r_in_range)
        ∙ entry_of-change_other txn.id other (with_vote w) (entries_at m.column r) (λ _. refl) apart

    pub validated_sorted : (next : Option KeyAct) → next_act (after_answer state answer) ≡ next → (q : ℕ) (id : TxnId) → EntrySorted (validated txn r ep (after_answer state answer) next m.column) q id
    validated_sorted (Some act) is q id = entry_untouched (validated txn r ep (after_answer state answer) (Some act) m.column) q id refl
    validated_sorted None is q id = by (cases_eq q r) (same_id txn.id id) refl
      where
        c : ColumnState
        c = validated txn r ep (after_answer state answer) None m.column

        here : EntrySorted (validated txn r ep (after_answer state answer) None m.column) r txn.id
        here =
            let w = vote_of (after_answer state answer) in
            let there = past_opened txn in
            let k = changed_to (validated txn r ep (after_answer state answer) None m.column) r txn.id (with_vote w (opened txn)) (record there { vote = Some (w, m.past.now) })
            (vote_here w (validated txn r ep (after_answer state answer) None m.column) refl)
            (ap (λ (o : Option PastEntry). remembered_from m.past.now o (with_vote w (opened txn))) facts.0) refl in
            (EntryVotes txn ep state facts.1.0 facts.0 work refl refl w answer refl is k.0, inl k.1)

        by : (q ≡ r) ⊎ (q ≡ r → ⊥) → (b : Bool) → same_id txn.id id ≡ b → EntrySorted (validated txn r ep (after_answer state answer) None m.column) q id
        by (inl e) true t =
            subst (λ (n : ℕ). EntrySorted (validated txn r ep (after_answer state answer) None m.column) n id) (sym e)
            (subst (λ (x : TxnId). EntrySorted (validated txn r ep (after_answer state answer) None m.column) r x) (same_id-tells txn.id id t) here)
        by (inl e) false t =
            subst (λ (n : ℕ). EntrySorted (validated txn r ep (after_answer state answer) None m.column) n id) (sym e)
            (entry_untouched (validated txn r ep (after_answer state answer) None m.column) r id (vote_others (vote_of (after_answer state answer)) (validated txn r ep (after_answer state answer) None m.column) refl id t))
        by (inr ne) b t =
            entry_untouched (validated txn r ep (after_answer state answer) None m.column) q id
            (ap (entry_of id) (get_or-set_other m.column.records r q (change_entry txn.id (with_vote (vote_of (after_answer state answer))) (entries_at m.column r)) [] ne))

    pub validated_sends : next_act (after_answer state answer) ≡ None → (new : Msg) → Among new (voted_msg txn r ep (vote_of (after_answer state answer)) ∷ []) →
        (new.replica < members m.round.faults) × IsStampedIn (moment_with m step (validated txn r ep (after_answer state answer) None m.column)) new.id new.epoch
        × Newborn m (moment_with m step (validated txn r ep (after_answer state answer) None m.column)) new
    validated_sends is new (inr none) = absurd none
    validated_sends is new (inl e) =
        let w = vote_of (after_answer state answer) in
        let there = past_opened txn in
        let after = record there { vote = Some (w, m.past.now) } in
        let k = changed_to (validated txn r ep (after_answer state answer) None m.column) r txn.id (with_vote w (opened txn)) after
        (vote_here w (validated txn r ep (after_answer state answer) None m.column) refl)
        (ap (λ (o : Option PastEntry). remembered_from m.past.now o (with_vote w (opened txn))) facts.0) refl in
        let s = facts.1.0 in
        subst (λ (x : Msg). (x.replica < members m.round.faults) × IsStampedIn (moment_with m step (validated txn r ep (after_answer state answer) None m.column)) x.id x.epoch
        × Newborn m (moment_with m step (validated txn r ep (after_answer state answer) None m.column)) x) e (
          facts.2,
          record { attempt = s.attempt; found = s.found; stamped = ap is_some s.stamped; same_epoch = facts.1.1 },
          VoteSent after w m.past.now refl k.0 refl,
        )

    -- the entry has the vote
    pub validated_entry : remembered m.past.now (m.past.entries r txn.id) (entry_of txn.id (entries_at (validated txn r ep (after_answer state answer) None m.column) r))
        ≡ Some (let opened_one = past_opened txn in record opened_one { vote = Some (vote_of (after_answer state answer), m.past.now) })
    validated_entry =
        let w = vote_of (after_answer state answer) in
        let there = past_opened txn in
        (changed_to (validated txn r ep (after_answer state answer) None m.column) r txn.id (with_vote w (opened txn)) (record there { vote = Some (w, m.past.now) })
        (vote_here w (validated txn r ep (after_answer state answer) None m.column) refl)
        (ap (λ (o : Option PastEntry). remembered_from m.past.now o (with_vote w (opened txn))) facts.0) refl).0
