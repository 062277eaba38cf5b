-- Every vote is sent, and an entry without one is under validation or came otherwise than by a Validate.
use Rattle.std.proofs.Common.{◌≡◌, ◌⊎◌, ◌∙◌, ℕ, true, refl, inl, inr, sym, ap, subst, [], ◌∷◌, ◌++◌, Option, Some, None}
use Rattle.std.proofs.lemmas.Option.{same_Some}
use Rattle.mk_lists.specs.Among.{Among, Among-append_right}
use Rattle.mk_txn.specs.declared.TxnId.{TxnId}
use Rattle.mk_txn.specs.declared.Vote.{Vote}
use Rattle.mk_txn.specs.Transactions.{Transaction}
use Rattle.mk_words.specs.declared.Answer.{Answer}
use Rattle.mk_words.specs.Entries.{entry_of}
use Rattle.mk_words.specs.declared.Body.{Body}
use Rattle.mk_words.specs.declared.Body.TheVariants.{Voted, Accept, Decide, Ask}
use Rattle.mk_words.specs.Checks.{KeyAct}
use Rattle.mk_words.specs.Validations.{ValidationState, validation_of, next_act, after_answer, vote_of}
use Rattle.mk_words.specs.declared.KeyCall.{KeyCall}
use Rattle.mk_words.specs.declared.Step.{Step}
use Rattle.mk_words.specs.declared.Step.TheVariants.{Begin, Unread, Read, Stamp, Validate, Take, Key, Rule, Again, Takeover, Pick as PickStep, Stop}
use Rattle.mk_model.specs.ColumnState.{ColumnState, Work, entries_at}
use Rattle.mk_model.specs.ColumnState.Work.{Idle, Validating}
use Rattle.mk_model.specs.Conditions.{conditions, is_idle}
use Rattle.mk_model.specs.Sending.{Sent, msg_of}
use Rattle.mk_model.specs.Steps.{answered, validated, voted_msg}
use Rattle.mk_model.proofs.Frames.{AllTrue, enabled}
use Rattle.mk_column_laws.specs.Moments.{Moment, PastEntry, Taught, StaysTaught, Event, CanHappen, after_event, step_done, remembered}
use Rattle.mk_column_laws.specs.Moments.Event.{NewRound, Doing}
use Rattle.mk_column_laws.specs.Moves.{Moves, EntryMove, ServesAttempt, past_opened, past_or_opened}
use Rattle.mk_column_laws.specs.Moves.EntryMove.{EntryStays, EntryOpens, EntryVotes, EntryPromises, EntryAccepts, EntryFinishes}
use Rattle.mk_column_laws.specs.Facts.{Facts}
use Rattle.mk_column_laws.specs.Identity.{Identity}
use Rattle.mk_column_laws.proofs.ActMoves.ActMove.{NoAct, ActFetched, ActChecked, ActVoted, ActFinished}
use Rattle.mk_column_laws.proofs.SortedEntries.{validated_entry}
use Rattle.mk_column_laws.proofs.SortedSteps.{idle_from}
use Rattle.mk_column_laws.proofs.ActMoves.{ActMove, act_moves}
use Rattle.mk_column_laws.proofs.Rounds.{event_moves}
use Rattle.mk_record_laws.proofs.Always.{always}
use Rattle.mk_quiet_laws.specs.Taking.{VotesAreSent, EntriesVote, IsUnderValidation, IsOvertaken}

no_vote : (entry : PastEntry) (x : Vote × ℕ) → entry.vote ≡ Some x → entry.vote ≡ None → ⊥
no_vote entry x some none = cc (some, none)

not_both : (w : Work) (txn : Transaction) (r ep : ℕ) (state : ValidationState) → w ≡ Idle → w ≡ Validating txn r ep state → ⊥
not_both w txn r ep state i v = cc (i, v)

-- ---- a vote that is set is sent

module _ (taught : Taught) (m : Moment) (h : Facts taught m) (txn : Transaction) (r ep : ℕ) (state : ValidationState) (work : m.column.work ≡ Validating txn r ep state)
    (entry : PastEntry) (vote : Vote) (round : ℕ) (voted : entry.vote ≡ Some (vote, round)) where
  abbrev IsSent : Step → Type 0
  IsSent step = (step_done step m).column.work ≡ Idle → (step_done step m).past.entries r txn.id ≡ Some entry → Sent (step_done step m).column.link txn.id r 0 (Voted vote)

  module _ (call : KeyCall) (answer : Answer) where
    by_answer : (o : Option KeyAct) → next_act (after_answer state answer) ≡ o → IsSent (Key call answer)
    by_answer (Some act) o idle found =
        let goes : (answered answer m.column.work m.column).work ≡ Validating txn r ep (after_answer state answer) =
        ap (λ (w : Work). (answered answer w m.column).work) work ∙ ap (λ (x : Option KeyAct). (validated txn r ep (after_answer state answer) x m.column).work) o in
        absurd (not_both (answered answer m.column.work m.column).work txn r ep (after_answer state answer) idle goes)
    by_answer None o idle found =
        let given : Vote = vote_of (after_answer state answer) in
        let opened_one = past_opened txn in
        let path : answered answer m.column.work m.column ≡ validated txn r ep (after_answer state answer) None m.column =
        ap (λ (x : Work). answered answer x m.column) work ∙ ap (λ (x : Option KeyAct). validated txn r ep (after_answer state answer) x m.column) o in
        let there : (step_done (Key call answer) m).past.entries r txn.id ≡ Some (record opened_one { vote = Some (vote_of (after_answer state answer), m.past.now) }) =
        subst (λ (c : ColumnState). remembered m.past.now (m.past.entries r txn.id) (entry_of txn.id (entries_at c r)) ≡ Some (record opened_one { vote = Some (vote_of (after_answer state answer), m.past.now) })) (sym path)
        (validated_entry taught m h (Key call answer) txn r ep state answer work) in
        let same : (record opened_one { vote = Some (vote_of (after_answer state answer), m.past.now) }) ≡ entry = same_Some (record opened_one { vote = Some (vote_of (after_answer state answer), m.past.now) }) entry (sym there ∙ found) in
        let both : (vote_of (after_answer state answer), m.past.now) ≡ (vote, round) = same_Some (vote_of (after_answer state answer), m.past.now) (vote, round) (ap (λ (x : PastEntry). x.vote) same ∙ voted) in
        let is : vote_of (after_answer state answer) ≡ vote = ap (λ (x : Vote × ℕ). x.0) both in
        let last = voted_msg txn r ep (vote_of (after_answer state answer)) in
        let among : Among last (m.column.link ++ last ∷ []) = Among-append_right last m.column.link (last ∷ []) (inl refl) in (
          ep,
          subst (λ (c : ColumnState). Among (msg_of ep txn.id r 0 (Voted vote)) c.link) (sym path)
              (subst (λ (v : Vote). Among (msg_of ep txn.id r 0 (Voted v)) (m.column.link ++ last ∷ [])) is among),
        )

  not_idle : (step : Step) → is_idle m.column.work ≡ true → IsSent step
  not_idle step i idle found = absurd (not_both m.column.work txn r ep state (idle_from m.column.work i) work)

  vote_sent : (step : Step) → AllTrue (conditions m.round m.column step) → IsSent step
  vote_sent (Key call answer) c = by_answer call answer (next_act (after_answer state answer)) refl
  vote_sent (Begin client replica) c = not_idle (Begin client replica) c.0
  vote_sent (Unread client) c = not_idle (Unread client) c.0
  vote_sent (Read id key) c = not_idle (Read id key) c.0
  vote_sent (Stamp id clock writes) c = not_idle (Stamp id clock writes) c.0
  vote_sent (Validate id) c = not_idle (Validate id) c.0
  vote_sent (Take number) c = not_idle (Take number) c.0
  vote_sent (Rule id) c = not_idle (Rule id) c.0
  vote_sent (Again id) c = not_idle (Again id) c.0
  vote_sent (Takeover id view) c = not_idle (Takeover id view) c.0
  vote_sent (PickStep id view) c = not_idle (PickStep id view) c.0
  vote_sent (Stop id) c = not_idle (Stop id) c.0

-- ---- every vote

abbrev AllSent : Moment → Type 0
AllSent m = (r : ℕ) (id : TxnId) (entry : PastEntry) (vote : Vote) (round : ℕ) → m.past.entries r id ≡ Some entry → entry.vote ≡ Some (vote, round) → Sent m.column.link id r 0 (Voted vote)

module _ (taught : Taught) (stays : StaysTaught taught) (m : Moment) (h : Facts taught m) (event : Event) (can : CanHappen taught event m) where
  moved : Moves m (after_event event m)
  moved = event_moves taught stays m h event can

  stays_sent : (id : TxnId) (r view : ℕ) (body : Body) → Sent m.column.link id r view body → Sent (after_event event m).column.link id r view body
  stays_sent id r view body s = (s.0, (event_moves taught stays m h event can).stays_sent (msg_of s.0 id r view body) s.1)

now_voted : (taught : Taught) → StaysTaught taught → (m : Moment) → Facts taught m → (event : Event) → CanHappen taught event m →
    (txn : Transaction) (r ep : ℕ) (state : ValidationState) → m.column.work ≡ Validating txn r ep state → (entry : PastEntry) (vote : Vote) (round : ℕ) → entry.vote ≡ Some (vote, round) →
    (after_event event m).column.work ≡ Idle → (after_event event m).past.entries r txn.id ≡ Some entry → Sent (after_event event m).column.link txn.id r 0 (Voted vote)
now_voted taught stays m h (NewRound views resets) can txn r ep state work entry vote round voted idle found = absurd (not_both m.column.work txn r ep state can.idle work)
now_voted taught stays m h (Doing step) can txn r ep state work entry vote round voted idle found =
    vote_sent taught m h txn r ep state work entry vote round voted step (enabled m.round m.column step can) idle found

event_sent : (taught : Taught) → StaysTaught taught → (m : Moment) → Facts taught m → Identity m.column.clients m.column.attempts → (event : Event) → CanHappen taught event m → AllSent m → AllSent (after_event event m)
event_sent taught stays m h ids event can known r id entry vote round found voted = by (m.past.entries r id) refl ((event_moves taught stays m h event can).entries r id)
  where
    new_is : (e : PastEntry) → (after_event event m).past.entries r id ≡ Some e → e ≡ entry
    new_is e is = same_Some e entry (sym is ∙ found)

    before : (old : Option PastEntry) → m.past.entries r id ≡ old → (txn : Transaction) → (past_or_opened txn old).vote ≡ Some (vote, round) → Sent (after_event event m).column.link id r 0 (Voted vote)
    before None is txn e = absurd (no_vote (past_opened txn) (vote, round) e refl)
    before (Some past) is txn e = stays_sent taught stays m h event can id r 0 (Voted vote) (known r id past vote round is e)

    by : (old : Option PastEntry) → m.past.entries r id ≡ old → EntryMove m (after_event event m) r id (m.past.entries r id) ((after_event event m).past.entries r id) → Sent (after_event event m).column.link id r 0 (Voted vote)
    by old is (EntryStays same) = stays_sent taught stays m h event can id r 0 (Voted vote) (known r id entry vote round (sym same ∙ found) voted)
    by old is (EntryOpens txn ep s none new w1 w2) = absurd (no_vote entry (vote, round) voted (ap (λ (e : PastEntry). e.vote) (sym (new_is (past_opened txn) new))))
    by old is (EntryVotes txn ep state s was w1 own w2 v answer vis over new) =
        subst (λ (x : TxnId). Sent (after_event event m).column.link x r 0 (Voted vote)) own
        (now_voted taught stays m h event can txn r ep state w1 entry vote round voted w2 (ap (λ (x : TxnId). (after_event event m).past.entries r x) own ∙ found))
    by old is (EntryPromises txn view s sent none le new w1 w2) =
        let there = past_or_opened txn (m.past.entries r id) in
        before (m.past.entries r id) refl txn (ap (λ (e : PastEntry). e.vote) (new_is (record there { view = view }) new) ∙ voted)
    by old is (EntryAccepts txn view o s sent none le new w1 w2) =
        let there = past_or_opened txn (m.past.entries r id) in
        before (m.past.entries r id) refl txn (ap (λ (e : PastEntry). e.vote) (new_is (record there { view = view; accepted = Some (record { view = view; outcome = o }) }) new) ∙ voted)
    by old is (EntryFinishes txn view o s sent none new w1) =
        let there = past_or_opened txn (m.past.entries r id) in
        before (m.past.entries r id) refl txn (ap (λ (e : PastEntry). e.vote) (new_is (record there { last = Some (o, m.past.now) }) new) ∙ voted)

pub votes_are_sent : VotesAreSent
votes_are_sent = always (λ _ n. AllSent n) (λ taught version f keys clients r id entry vote round found. absurd (cc found)) event_sent

-- ---- entries without a vote

abbrev AllVote : Moment → Type 0
AllVote m = (r : ℕ) (id : TxnId) (entry : PastEntry) → m.past.entries r id ≡ Some entry → entry.vote ≡ None → IsUnderValidation m r id ⊎ IsOvertaken m r id

overtaken_still : (taught : Taught) → StaysTaught taught → (m : Moment) → Facts taught m → (event : Event) → CanHappen taught event m → (r : ℕ) (id : TxnId) → IsOvertaken m r id → IsOvertaken (after_event event m) r id
overtaken_still taught stays m h event can r id (view, inl s) = (view, inl (stays_sent taught stays m h event can id r view Ask s))
overtaken_still taught stays m h event can r id (view, inr (o, inl s)) = (view, inr (o, inl (stays_sent taught stays m h event can id r view (Accept o) s)))
overtaken_still taught stays m h event can r id (view, inr (o, inr s)) = (view, inr (o, inr (stays_sent taught stays m h event can id r view (Decide o) s)))

-- a validation goes on, or the entry has its vote
goes_on : (taught : Taught) → StaysTaught taught → (m : Moment) → Facts taught m → (event : Event) → CanHappen taught event m → (r : ℕ) (id : TxnId) (entry : PastEntry) →
    (after_event event m).past.entries r id ≡ Some entry → entry.vote ≡ None → IsUnderValidation m r id → IsUnderValidation (after_event event m) r id
goes_on taught stays m h (NewRound views resets) can r id entry found none (txn, ep, state, work, same) = absurd (not_both m.column.work txn r ep state can.idle work)
goes_on taught stays m h (Doing step) can r id entry found none (txn, ep, state, work, same) = by (act_moves taught m h step (enabled m.round m.column step can))
  where
    by : ActMove m (step_done step m) → IsUnderValidation (step_done step m) r id
    by (NoAct acts idle) = absurd (not_both m.column.work txn r ep state idle work)
    by (ActFetched x q key answer w f acts next) = absurd (cc (w, work))
    by (ActChecked t q e st x answer now w wanted acts next) =
        let one : Validating t q e st ≡ Validating txn r ep state = sym w ∙ work in
        let place : q ≡ r = cc one in
        let txn_is : t ≡ txn = cc one in
        (t, e, after_answer st answer, next ∙ (λ i. Validating t (place i) e (after_answer st answer)), ap (λ (y : Transaction). y.id) txn_is ∙ same)
    by (ActVoted t q e st x answer now w wanted acts over next new) =
        let one : Validating t q e st ≡ Validating txn r ep state = sym w ∙ work in
        let place : q ≡ r = cc one in
        let txn_is : t ≡ txn = cc one in
        let opened_one = past_opened t in
        let voted = record opened_one { vote = Some (vote_of (after_answer st answer), m.past.now) } in
        let at : (step_done step m).past.entries q t.id ≡ Some entry = (λ i. (step_done step m).past.entries (place i) ((ap (λ (y : Transaction). y.id) txn_is ∙ same) i)) ∙ found in
        let is : voted ≡ entry = same_Some voted entry (sym new ∙ at) in
        absurd (no_vote voted (vote_of (after_answer st answer), m.past.now) refl (ap (λ (y : PastEntry). y.vote) is ∙ none))
    by (ActFinished q x left answer now round w acts next) = absurd (cc (w, work))

event_vote : (taught : Taught) → StaysTaught taught → (m : Moment) → Facts taught m → Identity m.column.clients m.column.attempts → (event : Event) → CanHappen taught event m → AllVote m → AllVote (after_event event m)
event_vote taught stays m h ids event can known r id entry found none = by ((event_moves taught stays m h event can).entries r id)
  where
    own_id : (txn : Transaction) → ServesAttempt m r id txn → txn.id ≡ id
    own_id txn s = (h.attempts id s.attempt s.found).txn_id txn s.stamped

    sent_still : (view : ℕ) (body : Body) → Sent m.column.link id r view body → Sent (after_event event m).column.link id r view body
    sent_still view body s = stays_sent taught stays m h event can id r view body s

    by : EntryMove m (after_event event m) r id (m.past.entries r id) ((after_event event m).past.entries r id) → IsUnderValidation (after_event event m) r id ⊎ IsOvertaken (after_event event m) r id
    by (EntryStays same) = elim (known r id entry (sym same ∙ found) none) [
      | inl k ↦ inl (goes_on taught stays m h event can r id entry found none k)
      | inr k ↦ inr (overtaken_still taught stays m h event can r id k)
    ]
    by (EntryOpens txn ep s old new w1 w2) = inl (txn, ep, validation_of txn, w2, own_id txn s)
    by (EntryVotes txn ep state s was w1 own w2 v answer vis over new) =
        let opened_one = past_opened txn in
        let voted = record opened_one { vote = Some (v, m.past.now) } in
        absurd (no_vote voted (v, m.past.now) refl (ap (λ (y : PastEntry). y.vote) (same_Some voted entry (sym new ∙ found)) ∙ none))
    by (EntryPromises txn view s sent last le new w1 w2) = inr (view, inl (sent_still view Ask sent))
    by (EntryAccepts txn view o s sent last le new w1 w2) = inr (view, inr (o, inl (sent_still view (Accept o) sent)))
    by (EntryFinishes txn view o s sent last new w1) = inr (view, inr (o, inr (sent_still view (Decide o) sent)))

pub entries_vote : EntriesVote
entries_vote = always (λ _ n. AllVote n) (λ taught version f keys clients r id entry found. absurd (cc found)) event_vote
