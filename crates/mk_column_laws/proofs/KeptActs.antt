-- Every event keeps what holds of key acts.
use Rattle.std.proofs.Common.{◌≡◌, ◌⊎◌, ◌≤◌, ◌∙◌, ℕ, Bool, true, false, refl, arith, inl, inr, sym, ap, subst, List, [], ◌∷◌, ◌++◌, Option, Some, None, map}
use Rattle.std.specs.Prelude.{slice_get}
use Rattle.std.proofs.lemmas.Bool.Decides.{nat_tests}
use Rattle.std.proofs.lemmas.Option.{none-some, same_Some}
use Rattle.mk_lists.specs.Among.{Among, Among-append, Among-append_left, Among-append_right}
use Rattle.mk_txn.specs.declared.TxnId.{TxnId}
use Rattle.mk_txn.specs.declared.ReadItem.{ReadItem}
use Rattle.mk_txn.specs.declared.WriteItem.{WriteItem}
use Rattle.mk_txn.specs.declared.Conflict.{Conflict}
use Rattle.mk_txn.specs.declared.Vote.{Vote}
use Rattle.mk_txn.specs.declared.Vote.TheVariants.{Ok as VoteOk, Abort as VoteAbort}
use Rattle.mk_txn.specs.declared.Outcome.{Outcome}
use Rattle.mk_txn.specs.declared.Outcome.TheVariants.{Commit, Abort}
use Rattle.mk_txn.specs.Outcomes.{is_ok_vote}
use Rattle.mk_txn.specs.Transactions.{Transaction}
use Rattle.mk_words.specs.declared.Act.TheVariants.{Get, CheckRead, CheckWrite, ReleaseRead, ReleaseWrite}
use Rattle.mk_words.specs.declared.Answer.{Answer}
use Rattle.mk_words.specs.declared.Answer.TheVariants.{Version, Okay, Refused, Done}
use Rattle.mk_quorum.specs.Slots.{passes}
use Rattle.mk_words.specs.Checks.{KeyAct, checks, commits_of, releases_of, release_of, finish_acts}
use Rattle.mk_words.specs.Validations.{ValidationState, validation_of, first_of, rest_of, next_by, next_act, after_check, after_left, after_by, after_answer, vote_of, vote_by}
use Rattle.mk_trim.specs.declared.ReplicaView.{ReplicaView}
use Rattle.mk_model.specs.ColumnState.{AttemptState, Work, attempt_of}
use Rattle.mk_model.specs.ColumnState.Work.{Idle, Validating, Finishing}
use Rattle.mk_model.specs.Replicas.{serves, finishing}
use Rattle.mk_model.specs.Steps.{epoch_of}
use Rattle.mk_column_laws.specs.Moments.{Moment, PastAct, PastEntry, Taught}
use Rattle.mk_column_laws.specs.Moves.{Moves, EntryMove, WorkMove, past_opened, undated}
use Rattle.mk_column_laws.specs.Moves.EntryMove.{EntryStays, EntryOpens, EntryVotes, EntryPromises, EntryAccepts, EntryFinishes}
use Rattle.mk_column_laws.specs.Moves.WorkMove.{WorkRests, WorkFetches, WorkValidates, WorkGoesOn, WorkEnds, WorkFinishes}
use Rattle.mk_column_laws.specs.Facts.{Facts, WorkFacts}
use Rattle.mk_column_laws.specs.KeyActs.{ActFacts, ActOrigin, VoteActs, ValidationActs, FinishActs, WorkActs, WasDone, IsInEpoch, ReleaseReason, act_at}
use Rattle.mk_column_laws.proofs.ActMoves.{ActMove, act_now}
use Rattle.mk_column_laws.proofs.ActMoves.ActMove.{NoAct, ActFetched, ActChecked, ActVoted, ActFinished}
use Rattle.mk_column_laws.specs.KeyActs.ActOrigin.{OfRead, OfCheck, OfRelease, OfCommit}
use Rattle.mk_column_laws.proofs.Growing.{grows}

-- ---- releases and checks

-- what gives a check up is among the releases
release_among : (txn : Transaction) (check : KeyAct) → Among check (checks txn) → Among (release_of check) (releases_of txn)
release_among txn check a = elim (Among-append check (map (λ item. (item.key, CheckRead txn.stamp item.version)) txn.reads) (map (λ item. (item.key, CheckWrite txn.stamp)) txn.writes) a) [
  | inl r ↦ Among-append_left (release_of check) (map (λ item. (item.key, ReleaseRead txn.stamp)) txn.reads) (map (λ item. (item.key, ReleaseWrite txn.stamp)) txn.writes) (of_reads txn.reads r)
  | inr w ↦ Among-append_right (release_of check) (map (λ item. (item.key, ReleaseRead txn.stamp)) txn.reads) (map (λ item. (item.key, ReleaseWrite txn.stamp)) txn.writes) (of_writes txn.writes w)
]
  where
    of_reads : (items : List ReadItem) → Among check (map (λ item. (item.key, CheckRead txn.stamp item.version)) items) → Among (release_of check) (map (λ item. (item.key, ReleaseRead txn.stamp)) items)
    of_reads [] k = absurd k
    of_reads (item ∷ items) (inl e) = inl (ap release_of e)
    of_reads (item ∷ items) (inr k) = inr (of_reads items k)

    of_writes : (items : List WriteItem) → Among check (map (λ item. (item.key, CheckWrite txn.stamp)) items) → Among (release_of check) (map (λ item. (item.key, ReleaseWrite txn.stamp)) items)
    of_writes [] k = absurd k
    of_writes (item ∷ items) (inl e) = inl (ap release_of e)
    of_writes (item ∷ items) (inr k) = inr (of_writes items k)

releases_among : (txn : Transaction) (passed : List KeyAct) → ((c : KeyAct) → Among c passed → Among c (checks txn)) → (r : KeyAct) → Among r (map release_of passed) → Among r (releases_of txn)
releases_among txn [] k r a = absurd a
releases_among txn (c ∷ passed) k r (inl e) = subst (λ (x : KeyAct). Among x (releases_of txn)) e (release_among txn c (k c (inl refl)))
releases_among txn (c ∷ passed) k r (inr a) = releases_among txn passed (λ d b. k d (inr b)) r a

pub first_among : (acts : List KeyAct) (act : KeyAct) → first_of acts ≡ Some act → Among act acts
first_among [] act e = absurd (cc e)
first_among (x ∷ acts) act e = inl (same_Some x act e)

rest_among : (acts : List KeyAct) (act : KeyAct) → Among act (rest_of acts) → Among act acts
rest_among [] act a = absurd a
rest_among (x ∷ acts) act a = inr a

pub serves-epoch : (epoch : ℕ) (view : Option ReplicaView) → serves epoch view ≡ true → epoch_of view ≡ epoch
serves-epoch epoch None e = absurd (cc e)
serves-epoch epoch (Some v) e = grind (arith, nat_tests, e)

-- ---- a validation goes on

module _ (m next : Moment) (txn : Transaction) (r epoch : ℕ) (same_now : next.past.now ≡ m.past.now)
    (older : (act : PastAct) → Among act m.past.acts → Among act next.past.acts) where
  done_still : (i q e : ℕ) (act : KeyAct) (answer : Answer) → WasDone m i q e act answer → WasDone next i q e act answer
  done_still i q e act answer d = older (act_at i q e act answer) d

  done_now : (act : KeyAct) (answer : Answer) → WasDone m m.past.now r epoch act answer → WasDone next next.past.now r epoch act answer
  done_now act answer d = subst (λ (i : ℕ). WasDone next i r epoch act answer) (sym same_now) (done_still m.past.now r epoch act answer d)

  same_state : (state : ValidationState) → ValidationActs m txn r epoch state → ValidationActs next txn r epoch state
  same_state state k =
      record {
        passed = λ c a. let x = k.passed c a in (done_now c Okay x.0, x.1);
        left = k.left;
        whole = k.whole;
        refused = λ c e. let x = k.refused c e in (x.0, x.1, x.2, done_now x.0 (Refused c.reason c.stamp) x.3);
        releases = k.releases;
      }

  module _ (state : ValidationState) (k : ValidationActs m txn r epoch state) where
    checked : (check : KeyAct) (rest : List KeyAct) (answer : Answer) → state.refusal ≡ None → state.left ≡ check ∷ rest → WasDone next next.past.now r epoch check answer →
        ValidationActs next txn r epoch (after_check state check rest answer)
    checked check rest Okay none left done =
        record {
          passed = λ c a. elim (Among-append c state.passed (check ∷ []) a) [
            | inl old ↦ (let x = k.passed c old in (done_now c Okay x.0, x.1))
            | inr new ↦ by c new
          ];
          left = λ c a. k.left c (subst (λ (l : List KeyAct). Among c l) (sym left) (inr a));
          whole = λ n c a. elim (k.whole none c a) [
            | inl old ↦ inl (Among-append_left c state.passed (check ∷ []) old)
            | inr there ↦ elim (subst (λ (l : List KeyAct). Among c l) left there) [
              | inl e ↦ inl (Among-append_right c state.passed (check ∷ []) (inl e))
              | inr later ↦ inr later
            ]
          ];
          refused = λ c e. absurd (none-some c (sym none ∙ e));
          releases = k.releases;
        }
      where
        by : (c : KeyAct) → Among c (check ∷ []) → WasDone next next.past.now r epoch c Okay × Among c (checks txn)
        by c (inl e) = subst (λ (x : KeyAct). WasDone next next.past.now r epoch x Okay × Among x (checks txn)) e (done, k.left check (subst (λ (l : List KeyAct). Among check l) (sym left) (inl refl)))
        by c (inr no_more) = absurd no_more
    checked check rest (Refused reason stamp) none left done =
        record {
          passed = λ c a. let x = k.passed c a in (done_now c Okay x.0, x.1);
          left = λ c a. k.left c (subst (λ (l : List KeyAct). Among c l) (sym left) (inr a));
          whole = λ n c a. absurd (cc n);
          refused = λ c e.
              let same = same_Some (record { key = check.0; reason = reason; stamp = stamp }) c e in
              subst (λ (x : Conflict). (d : KeyAct) × Among d (checks txn) × (d.0 ≡ x.key) × WasDone next next.past.now r epoch d (Refused x.reason x.stamp)) same
              (check, k.left check (subst (λ (l : List KeyAct). Among check l) (sym left) (inl refl)), refl, done);
          releases = λ x a. releases_among txn state.passed (λ c b. (k.passed c b).1) x a;
        }
    checked check rest (Version version value) none left done = same_state state k
    checked check rest Done none left done = same_state state k

    by_left : (left : List KeyAct) (answer : Answer) → state.refusal ≡ None → state.left ≡ left → ((act : KeyAct) → first_of left ≡ Some act → WasDone next next.past.now r epoch act answer) →
        ValidationActs next txn r epoch (after_left state left answer)
    by_left [] answer none is done = same_state state k
    by_left (check ∷ rest) answer none is done = checked check rest answer none is (done check refl)

    by_refusal : (refusal : Option Conflict) (answer : Answer) → state.refusal ≡ refusal → ((act : KeyAct) → next_by state refusal ≡ Some act → WasDone next next.past.now r epoch act answer) →
        ValidationActs next txn r epoch (after_by state answer refusal)
    by_refusal None answer is done = by_left state.left answer is refl done
    by_refusal (Some conflict) answer is done =
        let s = same_state state k in
        record { passed = s.passed; left = s.left; whole = s.whole; refused = s.refused; releases = λ x a. k.releases x (rest_among state.releases x a) }

    pub validation_acts : (answer : Answer) → ((act : KeyAct) → next_act state ≡ Some act → WasDone next next.past.now r epoch act answer) → ValidationActs next txn r epoch (after_answer state answer)
    validation_acts answer done = by_refusal state.refusal answer refl done

-- the refusal of a validation stays
refusal_stays : (state : ValidationState) (answer : Answer) (conflict : Conflict) → state.refusal ≡ Some conflict → (after_answer state answer).refusal ≡ Some conflict
refusal_stays state answer conflict e = by state.refusal e
  where
    by : (refusal : Option Conflict) → refusal ≡ Some conflict → (after_by state answer refusal).refusal ≡ Some conflict
    by None k = absurd (cc k)
    by (Some c) k = e

-- ---- votes

abbrev VoteKept : PastEntry → Option PastEntry → Type 0
VoteKept new old = (e : PastEntry) × (old ≡ Some e) × (e.vote ≡ new.vote) × (e.txn ≡ new.txn)

vote_before : (m next : Moment) (r : ℕ) (id : TxnId) (old new : Option PastEntry) → EntryMove m next r id old new → (e : PastEntry) → new ≡ Some e → (v : Vote × ℕ) → e.vote ≡ Some v →
    VoteKept e old ⊎ ((txn : Transaction) × ((epoch : ℕ) × ((state : ValidationState) × ((answer : Answer) ×
    ((m.column.work ≡ Validating txn r epoch state) × (txn.id ≡ id) × (next.column.work ≡ Idle) × (e.txn ≡ txn))))))
vote_before m next r id old new (EntryStays same) e n v is = inl (e, sym same ∙ n, refl, refl)
vote_before m next r id old new (EntryOpens txn epoch s none k w1 w2) e n v is = absurd (let x = same_Some (past_opened txn) e (sym k ∙ n) in none-some v (sym (ap (λ (y : PastEntry). y.vote) (sym x)) ∙ is))
vote_before m next r id old new (EntryVotes txn epoch state s was w1 own w2 vote answer x q k) e n v is =
    inr (txn, (epoch, (state, (answer, (w1, own, w2, ap (λ (y : PastEntry). y.txn) (same_Some e _ (sym n ∙ k)))))))
vote_before m next r id None new (EntryPromises txn view s sent last le k w1 w2) e n v is = absurd (none-some v (sym (ap (λ (y : PastEntry). y.vote) (same_Some e _ (sym n ∙ k))) ∙ is))
vote_before m next r id (Some x) new (EntryPromises txn view s sent last le k w1 w2) e n v is =
    let same = same_Some _ e (sym k ∙ n) in inl (x, refl, ap (λ (y : PastEntry). y.vote) same, ap (λ (y : PastEntry). y.txn) same)
vote_before m next r id None new (EntryAccepts txn view o s sent last le k w1 w2) e n v is = absurd (none-some v (sym (ap (λ (y : PastEntry). y.vote) (same_Some e _ (sym n ∙ k))) ∙ is))
vote_before m next r id (Some x) new (EntryAccepts txn view o s sent last le k w1 w2) e n v is =
    let same = same_Some _ e (sym k ∙ n) in inl (x, refl, ap (λ (y : PastEntry). y.vote) same, ap (λ (y : PastEntry). y.txn) same)
vote_before m next r id None new (EntryFinishes txn view o s sent last k w1) e n v is = absurd (none-some v (sym (ap (λ (y : PastEntry). y.vote) (same_Some e _ (sym n ∙ k))) ∙ is))
vote_before m next r id (Some x) new (EntryFinishes txn view o s sent last k w1) e n v is =
    let same = same_Some _ e (sym k ∙ n) in inl (x, refl, ap (λ (y : PastEntry). y.vote) same, ap (λ (y : PastEntry). y.txn) same)

-- ---- all

module _ (taught : Taught) (m next : Moment) (h : Facts taught m) (moves : Moves m next) (move : ActMove m next) (k : ActFacts m)
    (served_stays : (i r epoch : ℕ) → i ≤ m.past.now → m.past.served_in i r epoch ≡ true → next.past.served_in i r epoch ≡ true) where
  pub acts_older : (act : PastAct) → Among act m.past.acts → Among act next.past.acts
  acts_older act a = by move
    where
      more : (new : PastAct) → next.past.acts ≡ m.past.acts ++ new ∷ [] → Among act next.past.acts
      more new e = subst (λ (l : List PastAct). Among act l) (sym e) (Among-append_left act m.past.acts (new ∷ []) a)

      by : ActMove m next → Among act next.past.acts
      by (NoAct e idle) = subst (λ (l : List PastAct). Among act l) (sym e) a
      by (ActFetched id r key answer w read e w2) = more (act_now m r (key, Get) answer) e
      by (ActChecked txn r ep state x answer now w is e w2) = more (act_now m r x answer) e
      by (ActVoted txn r ep state x answer now w is e none w2 entry) = more (act_now m r x answer) e
      by (ActFinished r x left answer now round w e w2) = more (act_now m r x answer) e

  epoch_later : (id : TxnId) (epoch : ℕ) → IsInEpoch m id epoch → IsInEpoch next id epoch
  epoch_later id epoch a = let b = (grows taught m next h moves).attempts id a.0 a.1 in (b.0, b.1, b.2.same_epoch ∙ a.2)

  -- the epoch of an attempt that was there
  epoch_before : (id : TxnId) (epoch : ℕ) (a : AttemptState) → attempt_of m.column id ≡ Some a → IsInEpoch next id epoch → a.epoch ≡ epoch
  epoch_before id epoch a found e =
      let b = (grows taught m next h moves).attempts id a found in
      sym b.2.same_epoch ∙ ap (λ (x : AttemptState). x.epoch) (same_Some b.0 e.0 (sym b.1 ∙ e.1)) ∙ e.2

  -- ---- the validation that goes on now

  module _ (txn : Transaction) (r ep : ℕ) (state : ValidationState) (act : KeyAct) (answer : Answer) (now : next.past.now ≡ m.past.now)
      (w : m.column.work ≡ Validating txn r ep state) (is : next_act state ≡ Some act) (acts : next.past.acts ≡ m.past.acts ++ act_now m r act answer ∷ []) where
    under_way : WorkFacts m (Validating txn r ep state)
    under_way = subst (WorkFacts m) w h.work

    progress : ValidationActs m txn r ep state
    progress = subst (WorkActs m) w k.work

    its_epoch : epoch_of (slice_get m.round.views r) ≡ ep
    its_epoch = let s = under_way.1 in serves-epoch s.0.attempt.epoch (slice_get m.round.views r) s.0.served ∙ s.1

    this_done : (x : KeyAct) → next_act state ≡ Some x → WasDone next next.past.now r ep x answer
    this_done x e =
        subst (λ (y : KeyAct). WasDone next next.past.now r ep y answer) (same_Some act x (sym is ∙ e))
        (subst (λ (i : ℕ). Among (act_at i r ep act answer) next.past.acts) (sym now)
        (subst (λ (n : ℕ). Among (act_at m.past.now r n act answer) next.past.acts) its_epoch
        (subst (λ (l : List PastAct). Among (act_now m r act answer) l) (sym acts) (Among-append_right (act_now m r act answer) m.past.acts (act_now m r act answer ∷ []) (inl refl)))))

    pub went_on : ValidationActs next txn r ep (after_answer state answer)
    went_on = validation_acts m next txn r ep now acts_older state progress answer this_done

    -- the vote of a validation to which nothing is left
    all_passed : next_act (after_answer state answer) ≡ None → (after_answer state answer).refusal ≡ None → (c : KeyAct) → Among c (checks txn) → WasDone next next.past.now r ep c Okay
    all_passed none ok c a = elim (went_on.whole ok c a) [
      | inl passed ↦ (went_on.passed c passed).0
      | inr left ↦ absurd (empty (after_answer state answer).left (by (after_answer state answer).refusal ok none) c left)
    ]
      where
        by : (o : Option Conflict) → o ≡ None → next_by (after_answer state answer) o ≡ None → first_of (after_answer state answer).left ≡ None
        by None e n = n
        by (Some x) e n = absurd (cc e)

        empty : (l : List KeyAct) → first_of l ≡ None → (c : KeyAct) → Among c l → ⊥
        empty [] e c a = a
        empty (x ∷ l) e c a = cc e

    no_refusal : (o : Option Conflict) → vote_by o ≡ VoteOk → o ≡ None
    no_refusal None e = refl
    no_refusal (Some c) e = absurd (cc e)

    the_refusal : (o : Option Conflict) (c : Conflict) → vote_by o ≡ VoteAbort c → o ≡ Some c
    the_refusal None c e = absurd (cc e)
    the_refusal (Some x) c e = let same : x ≡ c = cc e in ap Some same

    same_date : (v x : Vote) (i j : ℕ) → ◌≡◌ {A = Option (Vote × ℕ)} (Some (v, i)) (Some (x, j)) → (v ≡ x) × (i ≡ j)
    same_date v x i j e = let q : (v, i) ≡ (x, j) = same_Some (v, i) (x, j) e in (ap (λ (z : Vote × ℕ). z.0) q, ap (λ (z : Vote × ℕ). z.1) q)

    at_round : (i epoch : ℕ) (c : KeyAct) (x : Answer) → m.past.now ≡ i → IsInEpoch next txn.id epoch → WasDone next next.past.now r ep c x → WasDone next i r epoch c x
    at_round i epoch c x e in_epoch d =
        let same : ep ≡ epoch = sym under_way.1.1 ∙ epoch_before txn.id epoch under_way.1.0.attempt under_way.1.0.found in_epoch in
        subst (λ (j : ℕ). WasDone next j r epoch c x) (now ∙ e) (subst (λ (n : ℕ). WasDone next next.past.now r n c x) same d)

    pub new_vote : next_act (after_answer state answer) ≡ None →
        (let opened_one = past_opened txn in VoteActs next r txn.id (record opened_one { vote = Some (vote_of (after_answer state answer), m.past.now) }))
    new_vote none =
        record {
          ok = λ i epoch e in_epoch c a.
              let q = same_date (vote_of (after_answer state answer)) VoteOk m.past.now i e in
              at_round i epoch c Okay q.1 in_epoch (all_passed none (no_refusal (after_answer state answer).refusal q.0) c a);
          refused = λ conflict i epoch e in_epoch.
              let q = same_date (vote_of (after_answer state answer)) (VoteAbort conflict) m.past.now i e in
              let x = went_on.refused conflict (the_refusal (after_answer state answer).refusal conflict q.0) in
              (x.0, x.1, x.2, at_round i epoch x.0 (Refused conflict.reason conflict.stamp) q.1 in_epoch x.3);
        }

    -- what the act was
    check_or_release : (o : Option Conflict) → state.refusal ≡ o → next_by state o ≡ Some act →
        ((o ≡ None) × Among act (checks txn)) ⊎ ((c : Conflict) × (o ≡ Some c) × Among act (releases_of txn))
    check_or_release None e n = inl (refl, progress.left act (first_among state.left act n))
    check_or_release (Some c) e n = inr (c, refl, progress.releases act (first_among state.releases act n))

  -- ---- votes

  vote_facts : (r : ℕ) (id : TxnId) (e : PastEntry) → next.past.entries r id ≡ Some e → VoteActs next r id e
  vote_facts r id e found =
      record {
        ok = λ i epoch v in_epoch c a. elim (vote_before m next r id (m.past.entries r id) (next.past.entries r id) (moves.entries r id) e found (VoteOk, i) v) [
          | inl old ↦ (let f = h.entries r id old.0 old.1 in
              acts_older (act_at i r epoch c Okay) ((k.votes r id old.0 old.1).ok i epoch (old.2 ∙ v) (f.attempt, f.found, epoch_before id epoch f.attempt f.found in_epoch) c (subst (λ (t : Transaction). Among c (checks t)) (sym old.3) a)))
          | inr new ↦ (voted_now new.0 new.1.0 new.1.1.0 new.1.1.1.1.0 new.1.1.1.1.1 new.1.1.1.1.2).ok i epoch v in_epoch c a
        ];
        refused = λ conflict i epoch v in_epoch. elim (vote_before m next r id (m.past.entries r id) (next.past.entries r id) (moves.entries r id) e found (VoteAbort conflict, i) v) [
          | inl old ↦ (let f = h.entries r id old.0 old.1 in
              let x = (k.votes r id old.0 old.1).refused conflict i epoch (old.2 ∙ v) (f.attempt, f.found, epoch_before id epoch f.attempt f.found in_epoch) in
              (x.0, subst (λ (t : Transaction). Among x.0 (checks t)) old.3 x.1, x.2, acts_older (act_at i r epoch x.0 (Refused conflict.reason conflict.stamp)) x.3))
          | inr new ↦ (voted_now new.0 new.1.0 new.1.1.0 new.1.1.1.1.0 new.1.1.1.1.1 new.1.1.1.1.2).refused conflict i epoch v in_epoch
        ];
      }
    where
      voted_now : (txn : Transaction) (ep : ℕ) (state : ValidationState) → m.column.work ≡ Validating txn r ep state → txn.id ≡ id → next.column.work ≡ Idle → VoteActs next r id e
      voted_now txn ep state w own w2 = by move
        where
          by : ActMove m next → VoteActs next r id e
          by (NoAct acts idle) = absurd (cc (idle, w))
          by (ActFetched x q key answer w3 read acts w4) = absurd (cc (w3, w))
          by (ActFinished q x left answer now round w3 acts w4) = absurd (cc (w3, w))
          by (ActChecked t q n s x answer now w3 is acts w4) = absurd (cc (w4, w2))
          by (ActVoted t q n s x answer now w3 is acts none w4 entry) =
              let one : Validating t q n s ≡ Validating txn r ep state = sym w3 ∙ w in
              let same_txn : t ≡ txn = cc one in
              let same_r : q ≡ r = cc one in
              let names : t.id ≡ id = ap (λ (y : Transaction). y.id) same_txn ∙ own in
              let opened_one = past_opened t in
              let same : record opened_one { vote = Some (vote_of (after_answer s answer), m.past.now) } ≡ e =
              same_Some _ e (sym entry ∙ (λ i. next.past.entries (same_r i) (names i)) ∙ found) in
              subst (λ (y : PastEntry). VoteActs next r id y) same
              (subst (λ (y : TxnId). VoteActs next r y (record opened_one { vote = Some (vote_of (after_answer s answer), m.past.now) })) names
              (subst (λ (y : ℕ). VoteActs next y t.id (record opened_one { vote = Some (vote_of (after_answer s answer), m.past.now) })) same_r
              (new_vote t q n s x answer now w3 is acts none)))

  -- ---- where acts come from

  reason_later : (r : ℕ) (id : TxnId) (a b : PastEntry) (i : ℕ) → m.past.entries r id ≡ Some a → next.past.entries r id ≡ Some b → ((v : Vote × ℕ) → a.vote ≡ Some v → b.vote ≡ Some v) → ((l : Outcome × ℕ) → a.last ≡ Some l → b ≡ a) →
      ReleaseReason m r id a i → ReleaseReason next r id b i
  reason_later r id a b i found there vote final (inl v) = inl (v.0, (v.1.0, vote (VoteAbort v.0, v.1.0) v.1.1))
  reason_later r id a b i found there vote final (inr (inr l)) =
      inr (inr (l.0, (l.1.0, (ap (λ (x : PastEntry). x.last) (final (Abort l.0, l.1.0) l.1.1.0) ∙ l.1.1.0, l.1.1.1))))
  reason_later r id a b i found there vote final (inr (inl z)) = by move
    where
      w : m.column.work ≡ Validating z.0 r z.1.0 z.1.1.0
      w = z.1.1.1.1.0

      by : ActMove m next → ReleaseReason next r id b i
      by (NoAct acts idle) = absurd (let q = w in cc (idle, q))
      by (ActFetched x q key answer w3 read acts w4) = absurd (let p = w in cc (w3, p))
      by (ActFinished q x left answer now round w3 acts w4) = absurd (let p = w in cc (w3, p))
      by (ActChecked t q n s x answer now w3 is acts w4) =
          let one : Validating t q n s ≡ Validating z.0 r z.1.0 z.1.1.0 = sym w3 ∙ w in
          let same_txn : t ≡ z.0 = cc one in
          let same_r : q ≡ r = cc one in
          let same_s : s ≡ z.1.1.0 = cc one in
          let refused : s.refusal ≡ Some z.1.1.1.0 = ap (λ (y : ValidationState). y.refusal) same_s ∙ z.1.1.1.1.2 in
          inr (inl (
            t,
            (
              n,
              (
                after_answer s answer,
                (
                  z.1.1.1.0,
                  (w4 ∙ (λ j. Validating t (same_r j) n (after_answer s answer)), ap (λ (y : Transaction). y.id) same_txn ∙ z.1.1.1.1.1, refusal_stays s answer z.1.1.1.0 refused),
                ),
              ),
            ),
          ))
      by (ActVoted t q n s x answer now w3 is acts none w4 entry) =
          let one : Validating t q n s ≡ Validating z.0 r z.1.0 z.1.1.0 = sym w3 ∙ w in
          let same_txn : t ≡ z.0 = cc one in
          let same_r : q ≡ r = cc one in
          let same_s : s ≡ z.1.1.0 = cc one in
          let refused : s.refusal ≡ Some z.1.1.1.0 = ap (λ (y : ValidationState). y.refusal) same_s ∙ z.1.1.1.1.2 in
          let names : t.id ≡ id = ap (λ (y : Transaction). y.id) same_txn ∙ z.1.1.1.1.1 in
          let same : _ ≡ b = same_Some _ b (sym entry ∙ (λ j. next.past.entries (same_r j) (names j)) ∙ there) in
          inl (z.1.1.1.0, (m.past.now, ap (λ (y : PastEntry). y.vote) (sym same) ∙ ap (λ (o : Option Conflict). Some (vote_by o, m.past.now)) (refusal_stays s answer z.1.1.1.0 refused)))

  origin_later : (act : PastAct) → act.round ≤ m.past.now → ActOrigin m act → ActOrigin next act
  origin_later act le (OfRead get) = OfRead get
  origin_later act le (OfCheck id entry found in_epoch served among) =
      let b = (grows taught m next h moves).entries act.replica id entry found in
      OfCheck id b.0 b.1 (epoch_later id act.epoch in_epoch) (served_stays act.round act.replica act.epoch le served)
      (subst (λ (t : Transaction). Among (act.key, act.act) (checks t)) (sym b.2.same_txn) among)
  origin_later act le (OfRelease id entry found in_epoch served among reason) =
      let b = (grows taught m next h moves).entries act.replica id entry found in
      OfRelease id b.0 b.1 (epoch_later id act.epoch in_epoch) (served_stays act.round act.replica act.epoch le served)
      (subst (λ (t : Transaction). Among (act.key, act.act) (releases_of t)) (sym b.2.same_txn) among)
      (reason_later act.replica id entry b.0 act.round found b.1 b.2.vote b.2.final reason)
  origin_later act le (OfCommit id entry i found in_epoch served among last early) =
      let b = (grows taught m next h moves).entries act.replica id entry found in
      OfCommit id b.0 i b.1 (epoch_later id act.epoch in_epoch) (served_stays act.round act.replica act.epoch le served)
      (subst (λ (t : Transaction). Among (act.key, act.act) (commits_of t)) (sym b.2.same_txn) among)
      (ap (λ (x : PastEntry). x.last) (b.2.final (Commit, i) last) ∙ last) early

  -- an act of a validation; the entry as it stands next
  validation_origin : (txn : Transaction) (r ep : ℕ) (state : ValidationState) (act : KeyAct) (answer : Answer) → next.past.now ≡ m.past.now → m.column.work ≡ Validating txn r ep state →
      next_act state ≡ Some act → next.past.acts ≡ m.past.acts ++ act_now m r act answer ∷ [] →
      ((e : PastEntry) (c : Conflict) → next.past.entries r txn.id ≡ Some e → state.refusal ≡ Some c → ReleaseReason next r txn.id e m.past.now) → ActOrigin next (act_now m r act answer)
  validation_origin txn r ep state act answer now w is acts reason =
      let f = under_way txn r ep state act answer now w is acts in
      let b = (grows taught m next h moves).entries r txn.id (past_opened txn) f.0 in
      let s = f.1.0 in
      let at : IsInEpoch next txn.id (epoch_of (slice_get m.round.views r)) =
      epoch_later txn.id (epoch_of (slice_get m.round.views r)) (s.attempt, s.found, sym (serves-epoch s.attempt.epoch (slice_get m.round.views r) s.served)) in
      let serves_now : serves (epoch_of (slice_get m.round.views r)) (slice_get m.round.views r) ≡ true =
      subst (λ (n : ℕ). serves n (slice_get m.round.views r) ≡ true) (sym (serves-epoch s.attempt.epoch (slice_get m.round.views r) s.served)) s.served in
      let served = served_stays m.past.now r (epoch_of (slice_get m.round.views r)) (omega arith) (k.serving r (epoch_of (slice_get m.round.views r)) serves_now) in
      elim (check_or_release txn r ep state act answer now w is acts state.refusal refl is) [
        | inl c ↦ OfCheck txn.id b.0 b.1 at served (subst (λ (t : Transaction). Among act (checks t)) (sym b.2.same_txn) c.1)
        | inr c ↦ OfRelease txn.id b.0 b.1 at served (subst (λ (t : Transaction). Among act (releases_of t)) (sym b.2.same_txn) c.2) (reason b.0 c.0 b.1 c.1)
      ]

  finish_origin : (r : ℕ) (act : KeyAct) (left : List KeyAct) (answer : Answer) → m.column.work ≡ Finishing r (act ∷ left) → ActOrigin next (act_now m r act answer)
  finish_origin r act left answer w =
      let f : FinishActs m r (act ∷ left) = subst (WorkActs m) w k.work in
      let b = (grows taught m next h moves).entries r f.id f.entry f.there in
      let epoch : epoch_of (slice_get m.round.views r) ≡ f.attempt.epoch = serves-epoch f.attempt.epoch (slice_get m.round.views r) f.served in
      let at : IsInEpoch next f.id (epoch_of (slice_get m.round.views r)) = epoch_later f.id (epoch_of (slice_get m.round.views r)) (f.attempt, f.found, sym epoch) in
      let serves_now : serves (epoch_of (slice_get m.round.views r)) (slice_get m.round.views r) ≡ true = subst (λ (n : ℕ). serves n (slice_get m.round.views r) ≡ true) (sym epoch) f.served in
      let served = served_stays m.past.now r (epoch_of (slice_get m.round.views r)) (omega arith) (k.serving r (epoch_of (slice_get m.round.views r)) serves_now) in
      let last : b.0.last ≡ Some (f.outcome, m.past.now) = ap (λ (x : PastEntry). x.last) (b.2.final (f.outcome, m.past.now) f.final) ∙ f.final in
      by b.0 f.outcome (passes is_ok_vote (undated f.entry.vote)) b.1 at served last (subst (λ (t : Transaction). Among act (finish_acts t f.outcome (passes is_ok_vote (undated f.entry.vote)))) (sym b.2.same_txn) (f.acts act (inl refl)))
    where
      by : {id : TxnId} (e : PastEntry) (o : Outcome) (ok : Bool) → next.past.entries r id ≡ Some e → IsInEpoch next id (epoch_of (slice_get m.round.views r)) →
          next.past.served_in m.past.now r (epoch_of (slice_get m.round.views r)) ≡ true → e.last ≡ Some (o, m.past.now) → Among act (finish_acts e.txn o ok) → ActOrigin next (act_now m r act answer)
      by {id} e Commit ok there at served last a = OfCommit id e m.past.now there at served a last (omega arith)
      by {id} e (Abort c) true there at served last a = OfRelease id e there at served a (inr (inr (c, (m.past.now, (last, omega arith)))))
      by {id} e (Abort c) false there at served last a = absurd a

  origin_facts : (act : PastAct) → Among act next.past.acts → (act.round ≤ next.past.now) × ActOrigin next act
  origin_facts act a = by move
    where
      old : Among act m.past.acts → (act.round ≤ next.past.now) × ActOrigin next act
      old q = let x = k.origins act q in (omega (arith, x.0, moves.rises), origin_later act x.0 x.1)

      with_new : (r : ℕ) (x : KeyAct) (answer : Answer) → next.past.acts ≡ m.past.acts ++ act_now m r x answer ∷ [] → ActOrigin next (act_now m r x answer) → (act.round ≤ next.past.now) × ActOrigin next act
      with_new r x answer e origin = elim (Among-append act m.past.acts (act_now m r x answer ∷ []) (subst (λ (l : List PastAct). Among act l) e a)) [
        | inl q ↦ old q
        | inr q ↦ one q
      ]
        where
          one : Among act (act_now m r x answer ∷ []) → (act.round ≤ next.past.now) × ActOrigin next act
          one (inl same) = subst (λ (y : PastAct). (y.round ≤ next.past.now) × ActOrigin next y) same (moves.rises, origin)
          one (inr no_more) = absurd no_more

      by : ActMove m next → (act.round ≤ next.past.now) × ActOrigin next act
      by (NoAct e idle) = old (subst (λ (l : List PastAct). Among act l) e a)
      by (ActFetched id r key answer w read e w2) = with_new r (key, Get) answer e (OfRead refl)
      by (ActChecked txn r ep state x answer now w is e w2) =
          with_new r x answer e (validation_origin txn r ep state x answer now w is e
          (λ entry c there refused. inr (inl (txn, (ep, (after_answer state answer, (c, (w2, refl, refusal_stays state answer c refused))))))))
      by (ActVoted txn r ep state x answer now w is e none w2 entry) =
          with_new r x answer e (validation_origin txn r ep state x answer now w is e
          (λ found c there refused. inl (
            c,
            (
              m.past.now,
              ap (λ (y : PastEntry). y.vote) (same_Some found _ (sym there ∙ entry)) ∙ ap (λ (o : Option Conflict). Some (vote_by o, m.past.now)) (refusal_stays state answer c refused),
            ),
          )))
      by (ActFinished r x left answer now round w e w2) = with_new r x answer e (finish_origin r x left answer w)

  -- ---- key calls under way

  begun_acts : (txn : Transaction) (r epoch : ℕ) → ValidationActs next txn r epoch (validation_of txn)
  begun_acts txn r epoch =
      record {
        passed = λ c a. absurd a;
        left = λ c a. a;
        whole = λ n c a. inr a;
        refused = λ c e. absurd (cc e);
        releases = λ c a. absurd a;
      }

  from_idle : (old new : Work) → old ≡ Idle → WorkMove m next old new → WorkActs next new
  from_idle old new idle (WorkRests e) = subst (WorkActs next) (sym e) tt
  from_idle old new idle (WorkFetches id r key a found still reads there_key may home e n) = subst (WorkActs next) (sym n) tt
  from_idle old new idle (WorkValidates txn r epoch served same round lt e none there n) = subst (WorkActs next) (sym n) (begun_acts txn r epoch)
  from_idle old new idle (WorkGoesOn txn r epoch state answer round e n stay) = absurd (cc (idle, e))
  from_idle old new idle (WorkFinishes r act left round e n stay) = absurd (cc (idle, e))
  from_idle old new idle (WorkEnds txn r id entry o left s round now e there last acts n) =
      let b = (grows taught m next h moves).attempts id s.attempt s.found in
      subst (WorkActs next) (sym n)
      (record {
        id = id;
        entry = entry;
        outcome = o;
        attempt = b.0;
        there = there;
        final = last ∙ ap (λ (i : ℕ). Some (o, i)) (sym now);
        found = b.1;
        served = (λ i. serves (b.2.same_epoch i) (slice_get (round i).views r)) ∙ s.served;
        acts = λ act a. subst (λ (l : List KeyAct). Among act l) acts a;
      })

  finish_on : (r : ℕ) (act : KeyAct) (left : List KeyAct) → next.past.now ≡ m.past.now → next.round ≡ m.round → m.column.work ≡ Finishing r (act ∷ left) → WorkActs next (finishing r left)
  finish_on r act [] now round w = tt
  finish_on r act (x ∷ left) now round w =
      let f : FinishActs m r (act ∷ (x ∷ left)) = subst (WorkActs m) w k.work in
      let b = (grows taught m next h moves).entries r f.id f.entry f.there in
      let same = b.2.final (f.outcome, m.past.now) f.final in
      let a = (grows taught m next h moves).attempts f.id f.attempt f.found in
      record {
        id = f.id;
        entry = f.entry;
        outcome = f.outcome;
        attempt = a.0;
        there = b.1 ∙ ap Some same;
        final = f.final ∙ ap (λ (i : ℕ). Some (f.outcome, i)) (sym now);
        found = a.1;
        served = (λ i. serves (a.2.same_epoch i) (slice_get (round i).views r)) ∙ f.served;
        acts = λ y q. f.acts y (inr q);
      }

  work_acts : WorkActs next next.column.work
  work_acts = by move
    where
      by : ActMove m next → WorkActs next next.column.work
      by (NoAct e idle) = from_idle m.column.work next.column.work idle moves.work
      by (ActFetched id r key answer w read e w2) = subst (WorkActs next) (sym w2) tt
      by (ActVoted txn r ep state x answer now w is e none w2 entry) = subst (WorkActs next) (sym w2) tt
      by (ActChecked txn r ep state x answer now w is e w2) = subst (WorkActs next) (sym w2) (went_on txn r ep state x answer now w is e)
      by (ActFinished r x left answer now round w e w2) = subst (WorkActs next) (sym w2) (finish_on r x left now round w)

  pub acts_kept : ((r epoch : ℕ) → serves epoch (slice_get next.round.views r) ≡ true → next.past.served_in next.past.now r epoch ≡ true) → ActFacts next
  acts_kept serving = record { votes = vote_facts; origins = origin_facts; work = work_acts; serving = serving }
