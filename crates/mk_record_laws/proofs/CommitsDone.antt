-- An entry that is final with Commit has its commits done, but for those that are left of its end at the keys.
use Rattle.std.proofs.Common.{◌≡◌, ◌⊎◌, ◌∙◌, ℕ, true, refl, inl, inr, sym, ap, subst, List, [], ◌∷◌, Option, Some, None}
use Rattle.std.specs.Prelude.{option_map, slice_get}
use Rattle.std.proofs.lemmas.Option.{same_Some}
use Rattle.mk_lists.specs.Among.{Among, Among-append_left, Among-append_right}
use Rattle.mk_txn.specs.declared.TxnId.{TxnId}
use Rattle.mk_txn.specs.declared.Outcome.{Outcome}
use Rattle.mk_txn.specs.declared.Outcome.TheVariants.{Commit}
use Rattle.mk_txn.specs.Outcomes.{is_ok_vote}
use Rattle.mk_txn.specs.Transactions.{Transaction}
use Rattle.mk_words.specs.declared.Answer.{Answer}
use Rattle.mk_words.specs.declared.Entry.{Entry}
use Rattle.mk_words.specs.Entries.{entry_of}
use Rattle.mk_quorum.specs.Slots.{passes}
use Rattle.mk_words.specs.Checks.{KeyAct, commits_of, finish_acts}
use Rattle.mk_words.specs.declared.Step.{Step}
use Rattle.mk_model.specs.ColumnState.{AttemptState, Work, attempt_of, entries_at}
use Rattle.mk_model.specs.ColumnState.Work.{Idle, Fetching, Validating, Finishing}
use Rattle.mk_model.specs.Conditions.{blocked}
use Rattle.mk_model.specs.Replicas.{serves, finishing}
use Rattle.mk_model.specs.Steps.{epoch_of}
use Rattle.mk_model.proofs.Frames.{enabled}
use Rattle.mk_column_laws.specs.Moments.{Moment, PastAct, PastEntry, Taught, StaysTaught, Event, CanHappen, after_event, step_done, round_begun, act_of}
use Rattle.mk_column_laws.specs.Moments.Event.{NewRound, Doing}
use Rattle.mk_column_laws.specs.Moves.{EntryMove, ServesAttempt, IsMatched, past_opened, past_or_opened, undated, entry_of_past}
use Rattle.mk_column_laws.specs.Moves.EntryMove.{EntryStays, EntryOpens, EntryVotes, EntryPromises, EntryAccepts, EntryFinishes}
use Rattle.mk_column_laws.specs.Facts.{Facts, Grows}
use Rattle.mk_column_laws.specs.Identity.{Identity}
use Rattle.mk_column_laws.specs.KeyActs.{WasDone, IsInEpoch, act_at}
use Rattle.mk_column_laws.proofs.ActMoves.ActMove.{NoAct, ActFetched, ActChecked, ActVoted, ActFinished}
use Rattle.mk_column_laws.proofs.Growing.{grows}
use Rattle.mk_column_laws.proofs.KeptActs.{serves-epoch}
use Rattle.mk_column_laws.proofs.ActMoves.{ActMove, act_now, act_moves}
use Rattle.mk_column_laws.proofs.Rounds.{event_facts, event_moves}
use Rattle.mk_record_laws.specs.Finishing.{CommitsAreDone}
use Rattle.mk_record_laws.proofs.StepShapes.{step_shape}
use Rattle.mk_record_laws.proofs.Always.{always}

-- the act is left of an end at this replica's keys
abbrev IsLeftIn : Work → ℕ → KeyAct → Type 0
IsLeftIn (Finishing q left) r act = (q ≡ r) × Among act left
IsLeftIn Idle r act = ⊥
IsLeftIn (Fetching id q key) r act = ⊥
IsLeftIn (Validating txn q epoch state) r act = ⊥

-- it was done, or it is left in this round
abbrev DoneOrLeft : Moment → ℕ → ℕ → ℕ → KeyAct → Type 0
DoneOrLeft m round r epoch act =
    ((answer : Answer) × WasDone m round r epoch act answer) ⊎ (IsLeftIn m.column.work r act × (round ≡ m.past.now) × (serves epoch (slice_get m.round.views r) ≡ true))

abbrev CommitsOf : Moment → Type 0
CommitsOf m =
    (r : ℕ) (id : TxnId) (entry : PastEntry) (round epoch : ℕ) → m.past.entries r id ≡ Some entry → entry.last ≡ Some (Commit, round) → IsInEpoch m id epoch →
    (act : KeyAct) → Among act (commits_of entry.txn) → DoneOrLeft m round r epoch act

left_of : (q : ℕ) (left : List KeyAct) (r : ℕ) (act : KeyAct) → q ≡ r → Among act left → IsLeftIn (finishing q left) r act
left_of q [] r act same a = absurd a
left_of q (x ∷ left) r act same a = (same, a)

-- the epoch of an attempt that was there is what it was
epoch_before : (m next : Moment) → Grows m next → (id : TxnId) (a : AttemptState) → attempt_of m.column id ≡ Some a → (epoch : ℕ) → IsInEpoch next id epoch → a.epoch ≡ epoch
epoch_before m next g id a found epoch k =
    let b = g.attempts id a found in
    sym b.2.same_epoch ∙ ap (λ (x : AttemptState). x.epoch) (same_Some b.0 k.0 (sym b.1 ∙ k.1)) ∙ k.2

not_final : (o : Option (Outcome × ℕ)) (x : Outcome × ℕ) → o ≡ None → o ≡ Some x → ⊥
not_final o x none some = cc (none, some)

module _ (taught : Taught) (stays : StaysTaught taught) (m : Moment) (h : Facts taught m) (known : CommitsOf m) where
  -- ---- a round begins

  module _ (event : Event) (can : CanHappen taught event m) where
    growth : Grows m (after_event event m)
    growth = grows taught m (after_event event m) h (event_moves taught stays m h event can)

  -- ---- a step

  module _ (step : Step) (able : blocked m.round m.column step ≡ None) where
    -- what is left is done now, or is still left
    left_then : (round r epoch : ℕ) (act : KeyAct) → IsLeftIn m.column.work r act → round ≡ m.past.now → serves epoch (slice_get m.round.views r) ≡ true →
        ActMove m (step_done step m) → DoneOrLeft (step_done step m) round r epoch act
    left_then round r epoch act left now served (NoAct acts work) = absurd (subst (λ (w : Work). IsLeftIn w r act) work left)
    left_then round r epoch act left now served (ActFetched id q key answer work found acts next) = absurd (subst (λ (w : Work). IsLeftIn w r act) work left)
    left_then round r epoch act left now served (ActChecked txn q ep state x answer same work wanted acts next) = absurd (subst (λ (w : Work). IsLeftIn w r act) work left)
    left_then round r epoch act left now served (ActVoted txn q ep state x answer same work wanted acts over next entry) = absurd (subst (λ (w : Work). IsLeftIn w r act) work left)
    left_then round r epoch act left now served (ActFinished q x more answer same_now same_round work acts next) = by (subst (λ (w : Work). IsLeftIn w r act) work left)
      where
        by : IsLeftIn (Finishing q (x ∷ more)) r act → DoneOrLeft (step_done step m) round r epoch act
        by (at, inl is) =
            let ep : epoch_of (slice_get m.round.views q) ≡ epoch = ap (λ (n : ℕ). epoch_of (slice_get m.round.views n)) at ∙ serves-epoch epoch (slice_get m.round.views r) served in
            let same : act_now m q x answer ≡ act_at round r epoch act answer = (λ i. act_at (sym now i) (at i) (ep i) (is i) answer) in
            inl (
              answer,
              subst (λ (l : List PastAct). Among (act_at round r epoch act answer) l) (sym acts)
                  (Among-append_right (act_at round r epoch act answer) m.past.acts (act_now m q x answer ∷ []) (inl same)),
            )
        by (at, inr a) = inr (subst (λ (w : Work). IsLeftIn w r act) (sym next) (left_of q more r act at a), now, served)

    -- an entry that stays final
    stays_done : (r : ℕ) (id : TxnId) (entry : PastEntry) (round epoch : ℕ) → m.past.entries r id ≡ Some entry → entry.last ≡ Some (Commit, round) → IsInEpoch (step_done step m) id epoch →
        (act : KeyAct) → Among act (commits_of entry.txn) → DoneOrLeft (step_done step m) round r epoch act
    stays_done r id entry round epoch found last k act a =
        let f = h.entries r id entry found in
        let before : IsInEpoch m id epoch = (f.attempt, f.found, epoch_before m (step_done step m) (growth (Doing step) able) id f.attempt f.found epoch k) in
        elim (known r id entry round epoch found last before act a) [
          | inl done ↦ inl (done.0, Among-append_left (act_at round r epoch act done.0) m.past.acts (act_of m.round m.past.now step) done.1)
          | inr left ↦ left_then round r epoch act left.0 left.1 left.2 (act_moves taught m h step (enabled m.round m.column step able))
        ]

    -- an entry that becomes final
    matched_now : (n : Moment) → Facts taught n → (r : ℕ) (id : TxnId) (a : AttemptState) → attempt_of n.column id ≡ Some a → serves a.epoch (slice_get n.round.views r) ≡ true →
        entry_of id (entries_at n.column r) ≡ option_map entry_of_past (n.past.entries r id)
    matched_now n f r id a found served = by (f.matched r id)
      where
        by : IsMatched n r id → entry_of id (entries_at n.column r) ≡ option_map entry_of_past (n.past.entries r id)
        by (inl e) = e
        by (inr k) =
            let stayed = f.round.tenure r a.epoch served in
            let left = subst (λ (x : AttemptState). n.past.has_left r x.epoch ≡ true) (same_Some k.1.0 a (sym k.1.1 ∙ found)) k.1.2 in
            absurd (cc (stayed, left))

    was_open : (txn : Transaction) (old : Option PastEntry) (was : Entry) (o : Outcome) → (past_or_opened txn old).last ≡ None → option_map entry_of_past old ≡ Some was → was.last ≡ Some o → ⊥
    was_open txn None was o none e last = cc e
    was_open txn (Some past) was o none e last =
        let same : entry_of_past past ≡ was = same_Some (entry_of_past past) was e in
        let k : undated past.last ≡ Some o = ap (λ (x : Entry). x.last) same ∙ last in
        let n : undated past.last ≡ None = ap undated none in
        cc (k, n)

    ends_now : (r : ℕ) (id : TxnId) (entry : PastEntry) (epoch : ℕ) (txn : Transaction) → ServesAttempt m r id txn → (past_or_opened txn (m.past.entries r id)).last ≡ None →
        (step_done step m).past.entries r id ≡ Some entry → entry.last ≡ Some (Commit, m.past.now) → IsInEpoch (step_done step m) id epoch →
        (act : KeyAct) → Among act (commits_of entry.txn) → DoneOrLeft (step_done step m) m.past.now r epoch act
    ends_now r id entry epoch txn s none found last k act a =
        let next = step_done step m in
        let b = (growth (Doing step) able).attempts id s.attempt s.found in
        let served : serves b.0.epoch (slice_get m.round.views r) ≡ true = subst (λ (n : ℕ). serves n (slice_get m.round.views r) ≡ true) (sym b.2.same_epoch) s.served in
        let here : entry_of id (entries_at next.column r) ≡ Some (entry_of_past entry) =
        matched_now (step_done step m) (event_facts taught stays m h (Doing step) able) r id b.0 b.1 served ∙ ap (option_map entry_of_past) found in
        let there = matched_now m h r id s.attempt s.found s.served in
        let shape = step_shape taught m h step (enabled m.round m.column step able) in
        let in_epoch = epoch_before m (step_done step m) (growth (Doing step) able) id s.attempt s.found epoch k in
        elim (shape.ends r id (entry_of_past entry) Commit here (ap undated last)) [
          | inl was ↦ absurd (was_open txn (m.past.entries r id) was.0 Commit none (sym there ∙ was.1) was.2)
          | inr work ↦ inr (
            subst (λ (w : Work). IsLeftIn w r act) (sym work) (left_of r (finish_acts entry.txn Commit (passes is_ok_vote (undated entry.vote))) r act refl a),
            refl,
            subst (λ (n : ℕ). serves n (slice_get m.round.views r) ≡ true) in_epoch s.served,
          )
        ]

    step_done_or_left : CommitsOf (step_done step m)
    step_done_or_left r id entry round epoch found last k act a = by (m.past.entries r id) refl ((event_moves taught stays m h (Doing step) able).entries r id)
      where
        open_still : (e : PastEntry) → (step_done step m).past.entries r id ≡ Some e → e.last ≡ None → DoneOrLeft (step_done step m) round r epoch act
        open_still e is none =
            let same : e ≡ entry = same_Some e entry (sym is ∙ found) in
            absurd (not_final entry.last (Commit, round) (ap (λ (x : PastEntry). x.last) (sym same) ∙ none) last)

        by : (old : Option PastEntry) → m.past.entries r id ≡ old → EntryMove m (step_done step m) r id (m.past.entries r id) ((step_done step m).past.entries r id) → DoneOrLeft (step_done step m) round r epoch act
        by old is (EntryStays same) = stays_done r id entry round epoch (sym same ∙ found) last k act a
        by old is (EntryOpens txn ep s none new w1 w2) = open_still (past_opened txn) new refl
        by old is (EntryVotes txn ep state s was w1 own w2 vote answer v q new) = open_still _ new refl
        by old is (EntryPromises txn view s sent none le new w1 w2) = open_still _ new none
        by old is (EntryAccepts txn view o s sent none le new w1 w2) = open_still _ new none
        by old is (EntryFinishes txn view o s sent none new w1) =
            let there = past_or_opened txn (m.past.entries r id) in
            let same : (record there { last = Some (o, m.past.now) }) ≡ entry = same_Some (record there { last = Some (o, m.past.now) }) entry (sym new ∙ found) in
            let both : (o, m.past.now) ≡ (Commit, round) = same_Some (o, m.past.now) (Commit, round) (ap (λ (x : PastEntry). x.last) same ∙ last) in
            let now : m.past.now ≡ round = ap (λ (x : Outcome × ℕ). x.1) both in
            let final : entry.last ≡ Some (Commit, m.past.now) = last ∙ ap (λ (n : ℕ). Some (Commit, n)) (sym now) in
            subst (λ (n : ℕ). DoneOrLeft (step_done step m) n r epoch act) now (ends_now r id entry epoch txn s none found final k act a)

event_commits : (taught : Taught) → StaysTaught taught → (m : Moment) → Facts taught m → Identity m.column.clients m.column.attempts → (event : Event) → CanHappen taught event m → CommitsOf m → CommitsOf (after_event event m)
event_commits taught stays m h ids (NewRound views resets) can known r id entry round epoch found last k act a =
    let f = h.entries r id entry found in
    let before : IsInEpoch m id epoch = (f.attempt, f.found, epoch_before m (round_begun views resets m) (growth taught stays m h known (NewRound views resets) can) id f.attempt f.found epoch k) in
    elim (known r id entry round epoch found last before act a) [
      | inl done ↦ inl done
      | inr left ↦ absurd (subst (λ (w : Work). IsLeftIn w r act) can.idle left.0)
    ]
event_commits taught stays m h ids (Doing step) can known r id entry round epoch found last k act a =
    step_done_or_left taught stays m h known step can r id entry round epoch found last k act a

pub commits_are_done : CommitsAreDone
commits_are_done taught stays m reached idle r id entry round epoch found last k act a =
    elim (always (λ _ n. CommitsOf n) (λ taught version f keys clients r id entry round epoch found last k act a. absurd (cc found)) event_commits taught stays m reached r id entry round epoch found last k act a) [
      | inl done ↦ done
      | inr left ↦ absurd (subst (λ (w : Work). IsLeftIn w r act) idle left.0)
    ]
