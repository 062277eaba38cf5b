-- Every event keeps what holds of entries, messages, learnings and key calls, and so all of it.
use Rattle.std.proofs.Common.{◌≡◌, ◌⊎◌, ◌<◌, ◌≤◌, ◌∙◌, ℕ, true, refl, arith, inl, inr, sym, ap, subst, Option, Some, None}
use Rattle.std.specs.Prelude.{length, slice_get}
use Rattle.std.proofs.lemmas.Option.{none-some, same_Some}
use Rattle.mk_lists.specs.Among.{Among}
use Rattle.mk_txn.specs.declared.TxnId.{TxnId}
use Rattle.mk_txn.specs.declared.Vote.{Vote}
use Rattle.mk_txn.specs.declared.Accepted.{Accepted}
use Rattle.mk_txn.specs.declared.Outcome.{Outcome}
use Rattle.mk_txn.specs.Transactions.{Transaction}
use Rattle.mk_words.specs.declared.Msg.{Msg}
use Rattle.mk_words.specs.declared.Body.TheVariants.{Accept, Accepted as AcceptedBody, Decide, Ask}
use Rattle.mk_quorum.specs.Sizes.{members}
use Rattle.mk_words.specs.declared.Ruling.TheVariants.{Fast}
use Rattle.mk_words.specs.Rulings.{by_votes}
use Rattle.mk_model.specs.ColumnState.{AttemptState, TakeoverOf, Work, Learning, attempt_of, takeover_of}
use Rattle.mk_model.specs.ColumnState.Work.{Idle, Validating}
use Rattle.mk_model.specs.ColumnState.Way.{ByVotes}
use Rattle.mk_model.specs.Replicas.{told_of, serves}
use Rattle.mk_model.specs.Learnings.{learning}
use Rattle.mk_model.specs.Steps.{taught as having_learned}
use Rattle.mk_column_laws.specs.Moments.{Moment, PastEntry, Taught, StaysTaught}
use Rattle.mk_model.specs.Sending.{Sent, Proposed, msg_of}
use Rattle.mk_column_laws.specs.Moves.{Moves, EntryMove, WorkMove, Newborn, NewLearning, ServesAttempt, IsMatched, past_opened, past_or_opened, undated, entry_of_past}
use Rattle.mk_column_laws.specs.Moves.EntryMove.{EntryStays, EntryOpens, EntryVotes, EntryPromises, EntryAccepts, EntryFinishes}
use Rattle.mk_column_laws.specs.Moves.WorkMove.{WorkRests, WorkFetches, WorkValidates, WorkGoesOn, WorkEnds, WorkFinishes}
use Rattle.mk_column_laws.specs.Moves.Newborn.{ValidateSent, AskSent, ProposalSent, FastSent, LearnedSent, KnownSent, PickSent, VoteSent, AcceptedSent, FinalToldSent, PromiseSent, MovedSent}
use Rattle.mk_column_laws.specs.Moves.NewLearning.{LearnsFast, LearnsByAccepts, LearnsKnown, LearnsByPick, LearnsTold, LearnsMoved, LearnsFinishing}
use Rattle.mk_column_laws.specs.Facts.{Facts, EntryFacts, FastFacts, RoundFacts, WorkFacts, ToldFacts, Says, IsBacked}
use Rattle.mk_column_laws.proofs.Histories.{undated-none, undated-some}
use Rattle.mk_column_laws.proofs.Decisions.{ruling-fast}
use Rattle.mk_column_laws.proofs.Growing.{grows}
use Rattle.mk_column_laws.proofs.Stable.{Sent-grows, Proposed-grows, VotesIn-grows, IsBacked-grows, IsStampedIn-grows, Says-grows, EntryFacts-grows, FastFacts-grows}
use Rattle.mk_column_laws.proofs.Kept.{attempt_facts, takeover_facts, backed_later, learned_backed, fast_backed, known_backed, picked_backed, told_backed, moved_backed, decide_backed, or_right}

module _ (taught : Taught) (stays : StaysTaught taught) (m next : Moment) (h : Facts taught m) (moves : Moves m next) where
  -- ---- entries

  entry_for : (r : ℕ) (id : TxnId) (txn : Transaction) (s : ServesAttempt m r id txn) (e : PastEntry) → e.txn ≡ txn →
      ((a : Accepted) → e.accepted ≡ Some a → (a.view ≤ e.view) × Proposed next.column.link id a.view a.outcome) →
      ((w : Vote) (i : ℕ) → e.vote ≡ Some (w, i) → i ≤ next.past.now) →
      ((o : Outcome) (i : ℕ) → e.last ≡ Some (o, i) → (i ≤ next.past.now) × IsBacked taught next id o i × ((q v : ℕ) × Sent next.column.link id q v (Decide o))) →
      EntryFacts taught next r id e
  entry_for r id txn s e same accepted voted last =
      let b = (grows taught m next h moves).attempts id s.attempt s.found in
      record {
        attempt = b.0;
        found = b.1;
        stamped = b.2.txn txn s.stamped ∙ ap Some (sym same);
        served = subst (λ (n : ℕ). next.past.ever_served r n ≡ true) (sym b.2.same_epoch) (moves.stays_ever r s.attempt.epoch (h.round.ever r s.attempt.epoch s.served));
        accepted = accepted;
        voted = voted;
        last = last;
      }

  same_date : {X : Type 0} (x y : X) (i j : ℕ) → ◌≡◌ {A = Option (X × ℕ)} (Some (x, i)) (Some (y, j)) → (x ≡ y) × (i ≡ j)
  same_date {X} x y i j e = let k : (x, i) ≡ (y, j) = same_Some (x, i) (y, j) e in (ap (λ (z : X × ℕ). z.0) k, ap (λ (z : X × ℕ). z.1) k)

  -- the entry that is there or opened, as it was
  module _ (r : ℕ) (id : TxnId) (txn : Transaction) (s : ServesAttempt m r id txn) where
    there_txn : (old : Option PastEntry) → m.past.entries r id ≡ old → (past_or_opened txn old).txn ≡ txn
    there_txn None is = refl
    there_txn (Some e) is =
        let f = h.entries r id e is in
        same_Some e.txn txn (sym f.stamped ∙ ap (λ (x : AttemptState). x.txn) (same_Some f.attempt s.attempt (sym f.found ∙ s.found)) ∙ s.stamped)

    there_accepted : (old : Option PastEntry) → m.past.entries r id ≡ old → (a : Accepted) → (past_or_opened txn old).accepted ≡ Some a →
        (a.view ≤ (past_or_opened txn old).view) × Proposed next.column.link id a.view a.outcome
    there_accepted None is a e = absurd (cc e)
    there_accepted (Some x) is a e =
        let k = (h.entries r id x is).accepted a e in
        (k.0, Proposed-grows taught stays m next (grows taught m next h moves) id a.view a.outcome k.1)

    there_voted : (old : Option PastEntry) → m.past.entries r id ≡ old → (w : Vote) (i : ℕ) → (past_or_opened txn old).vote ≡ Some (w, i) → i ≤ next.past.now
    there_voted None is w i e = absurd (cc e)
    there_voted (Some x) is w i e = omega (arith, (h.entries r id x is).voted w i e, moves.rises)

    no_last : (l : Option (Outcome × ℕ)) → l ≡ None → (o : Outcome) (i : ℕ) → l ≡ Some (o, i) →
        (i ≤ next.past.now) × IsBacked taught next id o i × ((q v : ℕ) × Sent next.column.link id q v (Decide o))
    no_last l none o i is = absurd (none-some (o, i) (sym none ∙ is))

  entry_facts : (r : ℕ) (id : TxnId) (old new : Option PastEntry) → m.past.entries r id ≡ old → EntryMove m next r id old new → (e : PastEntry) → new ≡ Some e → EntryFacts taught next r id e
  entry_facts r id old new is (EntryStays same) e n = EntryFacts-grows taught stays m next (grows taught m next h moves) r id e (h.entries r id e (is ∙ sym same ∙ n))
  entry_facts r id old new is (EntryOpens txn epoch s none k w1 w2) e n =
      subst (EntryFacts taught next r id) (same_Some (past_opened txn) e (sym k ∙ n))
      (entry_for r id txn s (past_opened txn) refl (λ a q. absurd (cc q)) (λ w i q. absurd (cc q)) (λ o i q. absurd (cc q)))
  entry_facts r id old new is (EntryVotes txn epoch state s was w1 own w2 vote answer v q k) e n =
      subst (EntryFacts taught next r id) (same_Some _ e (sym k ∙ n))
      (entry_for r id txn s _ refl (λ a z. absurd (cc z)) (λ w i z. let d = (same_date vote w m.past.now i z).1 in omega (arith, d, moves.rises)) (λ o i z. absurd (cc z)))
  entry_facts r id old new is (EntryPromises txn view s sent last le k w1 w2) e n =
      subst (EntryFacts taught next r id) (same_Some _ e (sym k ∙ n))
      (entry_for r id txn s _ (there_txn r id txn s old is)
      (λ a z. let x = there_accepted r id txn s old is a z in (omega (arith, x.0, le), x.1))
      (there_voted r id txn s old is) (no_last r id txn s (past_or_opened txn old).last last))
  entry_facts r id old new is (EntryAccepts txn view outcome s sent last le k w1 w2) e n =
      subst (EntryFacts taught next r id) (same_Some _ e (sym k ∙ n))
      (entry_for r id txn s _ (there_txn r id txn s old is)
      (λ a z. let same = same_Some (record { view = view; outcome = outcome }) a z in (
        let v : view ≡ a.view = ap (λ (x : Accepted). x.view) same in omega (arith, v),
        subst (λ (x : Accepted). Proposed next.column.link id x.view x.outcome) same (r, Sent-grows taught stays m next (grows taught m next h moves) id r view (Accept outcome) sent),
      ))
      (there_voted r id txn s old is) (no_last r id txn s (past_or_opened txn old).last last))
  entry_facts r id old new is (EntryFinishes txn view outcome s sent last k w1) e n =
      subst (EntryFacts taught next r id) (same_Some _ e (sym k ∙ n))
      (entry_for r id txn s _ (there_txn r id txn s old is) (there_accepted r id txn s old is) (there_voted r id txn s old is)
      (λ o i z. let d = same_date outcome o m.past.now i z in (
        (let t = d.1 in omega (arith, t, moves.rises)),
        subst (λ (x : Outcome). IsBacked taught next id x i) d.0 (subst (IsBacked taught next id outcome) d.1
            (IsBacked-grows taught stays m next (grows taught m next h moves) id outcome m.past.now m.past.now (omega arith) (decide_backed taught stays m next h moves id r view outcome sent))),
        subst (λ (x : Outcome). (q v : ℕ) × Sent next.column.link id q v (Decide x)) d.0 (r, view, Sent-grows taught stays m next (grows taught m next h moves) id r view (Decide outcome) sent),
      )))

  -- ---- messages

  -- a promise that is sent now
  promise_told : (id : TxnId) (r v ep : ℕ) (txn : Transaction) (old : Option PastEntry) → m.past.entries r id ≡ old → Sent m.column.link id r v Ask →
      (past_or_opened txn old).last ≡ None → (past_or_opened txn old).view ≤ v →
      (let there = past_or_opened txn old in next.past.entries r id ≡ Some (record there { view = v })) → next.column.work ≡ Idle →
      ((u : ℕ) → Sent next.column.link id r u AcceptedBody → Sent m.column.link id r u AcceptedBody ⊎ (v ≤ u)) →
      ToldFacts next r id v (told_of (entry_of_past (past_or_opened txn old)))
  promise_told id r v ep txn old is asked none le new idle accepts =
      record {
        entry = _;
        found = new;
        accepted = λ a e. (there_said old is a e).1;
        final = λ o e. absurd (none-some o (sym (ap undated none) ∙ e));
        promise = λ _. record {
          from_one = ask.0;
          promised = omega arith;
          voted = λ w e. undated-some (past_or_opened txn old).vote w e;
          sealed = λ e. record { entry = _; found = new; no_vote = undated-none (past_or_opened txn old).vote e; at_rest = λ t q s w own. cc (idle, w) };
          not_above = λ a e. let x = (there_said old is a e).0 in omega (arith, x, le);
          earlier = λ u lt s. elim (accepts u s) [
            | inl before ↦ earlier_told old is u before
            | inr later ↦ absurd (omega (arith, later, lt))
          ];
        };
      }
    where
      ask : (1 ≤ v) × ((t : TakeoverOf) × (takeover_of m.column id v ≡ Some t))
      ask = (h.messages (msg_of asked.0 id r v Ask) asked.1).1

      there_said : (o : Option PastEntry) → m.past.entries r id ≡ o → (a : Accepted) → (past_or_opened txn o).accepted ≡ Some a →
          (a.view ≤ (past_or_opened txn o).view) × Proposed next.column.link id a.view a.outcome
      there_said None q a e = absurd (cc e)
      there_said (Some x) q a e =
          let k = (h.entries r id x q).accepted a e in
          (k.0, Proposed-grows taught stays m next (grows taught m next h moves) id a.view a.outcome k.1)

      earlier_told : (o : Option PastEntry) → m.past.entries r id ≡ o → (u : ℕ) → Sent m.column.link id r u AcceptedBody → (a : Accepted) × ((past_or_opened txn o).accepted ≡ Some a) × (u ≤ a.view)
      earlier_told o q u s =
          let f = (h.messages (msg_of s.0 id r u AcceptedBody) s.1).1 in
          by o (sym q ∙ f.found) f.accepted f.has_accepted f.from_view
        where
          by : {e : PastEntry} (o : Option PastEntry) → o ≡ Some e → (a : Accepted) → e.accepted ≡ Some a → u ≤ a.view → (x : Accepted) × ((past_or_opened txn o).accepted ≡ Some x) × (u ≤ x.view)
          by None q a e le = absurd (cc q)
          by {e} (Some y) q a k le = (a, ap (λ (z : PastEntry). z.accepted) (same_Some y e q) ∙ k, le)

  -- an accept that is sent now is in the view that the entry then has
  accepts_at : (id : TxnId) (r u : ℕ) (e : PastEntry) → next.past.entries r id ≡ Some e → Sent next.column.link id r u AcceptedBody → Sent m.column.link id r u AcceptedBody ⊎ (e.view ≤ u)
  accepts_at id r u e found s = elim (moves.messages (msg_of s.0 id r u AcceptedBody) s.1) [
    | inl old ↦ inl (s.0, old)
    | inr new ↦ inr (by new.1)
  ]
    where
      by : Newborn m next (msg_of s.0 id r u AcceptedBody) → e.view ≤ u
      by (AcceptedSent entry o b there view acc below sent) = let k : e.view ≡ u = ap (λ (x : PastEntry). x.view) (same_Some e entry (sym found ∙ there)) ∙ view in omega (arith, k)
      by (ValidateSent mark b) = absurd (cc b)
      by (AskSent t b pos there) = absurd (cc b)
      by (ProposalSent o b p) = absurd (cc b)
      by (FastSent o a b there none is l) = absurd (cc b)
      by (LearnedSent o a b there none is) = absurd (cc b)
      by (KnownSent o t b there is) = absurd (cc b)
      by (PickSent o t b there is) = absurd (cc b)
      by (VoteSent entry vote i b there is) = absurd (cc b)
      by (FinalToldSent entry o i b there is) = absurd (cc b)
      by (PromiseSent txn sent b last le new w) = absurd (cc b)
      by (MovedSent view b v served lt) = absurd (cc b)

  final_told : (id : TxnId) (r v : ℕ) (entry : PastEntry) (o : Outcome) (i : ℕ) → next.past.entries r id ≡ Some entry → entry.last ≡ Some (o, i) → ToldFacts next r id v (told_of (entry_of_past entry))
  final_told id r v entry o i found last =
      record {
        entry = entry;
        found = found;
        accepted = λ a e. ((entry_facts r id (m.past.entries r id) (next.past.entries r id) refl (moves.entries r id) entry found).accepted a e).1;
        final = λ x e. undated-some entry.last x e;
        promise = λ e. absurd (none-some o (sym e ∙ (ap undated last)));
      }

  says_newborn : (msg : Msg) → Newborn m next msg → Says taught next msg msg.body
  says_newborn msg (ValidateSent mark b) = subst (Says taught next msg) (sym b) tt
  says_newborn msg (AskSent t b pos found) = subst (Says taught next msg) (sym b) (pos, (t, found))
  says_newborn msg (ProposalSent o b p) = subst (Says taught next msg) (sym b) p
  says_newborn msg (FastSent o a b found none is l) = subst (Says taught next msg) (sym b) (fast_backed taught stays m next h moves msg.id a o found is l)
  says_newborn msg (LearnedSent o a b found none is) = subst (Says taught next msg) (sym b) (learned_backed taught stays m next h moves msg.id a o found none is)
  says_newborn msg (KnownSent o t b found is) = subst (Says taught next msg) (sym b) (known_backed taught stays m next h moves msg.id msg.view t o found is)
  says_newborn msg (PickSent o t b found is) = subst (Says taught next msg) (sym b) (picked_backed taught stays m next h moves msg.id msg.view t o found is)
  says_newborn msg (VoteSent entry vote i b found is) = subst (Says taught next msg) (sym b) (entry, found, (i, is))
  says_newborn msg (AcceptedSent entry o b found view acc below sent) = subst (Says taught next msg) (sym b)
      (record {
        entry = entry;
        found = found;
        not_below = omega (arith, view);
        accepted = record { view = msg.view; outcome = o };
        has_accepted = acc;
        from_view = omega arith;
        proposal = (o, (msg.replica, Sent-grows taught stays m next (grows taught m next h moves) msg.id msg.replica msg.view (Accept o) sent));
      })
  says_newborn msg (FinalToldSent entry o i b found last) = subst (Says taught next msg) (sym b) (final_told msg.id msg.replica msg.view entry o i found last)
  says_newborn msg (PromiseSent txn sent b last le new w) = subst (Says taught next msg) (sym b)
      (promise_told msg.id msg.replica msg.view msg.epoch txn (m.past.entries msg.replica msg.id) refl sent last le new w (λ u s. accepts_at msg.id msg.replica u _ new s))
  says_newborn msg (MovedSent view b v served lt) = subst (Says taught next msg) (sym b)
      (lt, λ o e. stays msg.id msg.epoch o m.past.now next.past.now moves.rises (h.round.teaches msg.replica view msg.id msg.epoch o v served lt e))

  -- ---- what is learned

  fast_facts : (id : TxnId) (o : Outcome) → NewLearning m next (learning id ByVotes o) → FastFacts next id o
  fast_facts id o (LearnsFast a way found none is after) =
      let k = ruling-fast m.round.faults a.coord o a.coord.learned a.coord.proposed refl refl is in
      let votes = (h.attempts id a found).votes in
      record {
        votes = a.coord.votes;
        voted = VotesIn-grows taught stays m next (grows taught m next h moves) id a.coord.votes votes;
        ruled = subst (λ (f : ℕ). by_votes f a.coord.votes ≡ Fast o) (sym moves.same_faults) k.1;
        attempt = having_learned o a;
        found = after;
        unproposed = k.0;
        has_learned = or_right a.coord.learned o;
      }
  fast_facts id o (LearnsByAccepts a way found none is) = absurd (cc way)
  fast_facts id o (LearnsKnown view t way found is) = absurd (cc way)
  fast_facts id o (LearnsByPick view t way found is) = absurd (cc way)
  fast_facts id o (LearnsTold r view told way s e) = absurd (cc way)
  fast_facts id o (LearnsMoved r view moved way s e) = absurd (cc way)
  fast_facts id o (LearnsFinishing r view way s) = absurd (cc way)

  learning_backed : (l : Learning) → Among l next.column.learned → NewLearning m next l → IsBacked taught next l.id l.outcome next.past.now
  learning_backed l among (LearnsFast a way found none is after) =
      let same : l ≡ learning l.id ByVotes l.outcome = λ i. record { id = l.id; outcome = l.outcome; way = way i } in
      fast_backed taught stays m next h moves l.id a l.outcome found is (subst (λ (x : Learning). Among x next.column.learned) same among)
  learning_backed l among (LearnsByAccepts a way found none is) = learned_backed taught stays m next h moves l.id a l.outcome found none is
  learning_backed l among (LearnsKnown view t way found is) = known_backed taught stays m next h moves l.id view t l.outcome found is
  learning_backed l among (LearnsByPick view t way found is) = picked_backed taught stays m next h moves l.id view t l.outcome found is
  learning_backed l among (LearnsTold r view told way s e) = told_backed taught stays m next h moves l.id r view told l.outcome s e
  learning_backed l among (LearnsMoved r view moved way s e) = moved_backed taught stays m next h moves l.id r view moved l.outcome s e
  learning_backed l among (LearnsFinishing r view way s) = backed_later taught stays m next h moves l.id l.outcome (decide_backed taught stays m next h moves l.id r view l.outcome s)

  -- ---- key calls

  serves_next : (r : ℕ) (id : TxnId) (txn : Transaction) (s : ServesAttempt m r id txn) → next.round ≡ m.round → (n : ServesAttempt next r id txn) × (n.attempt.epoch ≡ s.attempt.epoch)
  serves_next r id txn s round =
      let b = (grows taught m next h moves).attempts id s.attempt s.found in (
        record {
          attempt = b.0;
          found = b.1;
          stamped = b.2.txn txn s.stamped;
          served = (λ i. serves (b.2.same_epoch i) (slice_get (round i).views r)) ∙ s.served;
        },
        b.2.same_epoch,
      )

  work_facts : (old new : Work) → m.column.work ≡ old → WorkMove m next old new → WorkFacts next new
  work_facts old new is (WorkRests e) = subst (WorkFacts next) (sym e) tt
  work_facts old new is (WorkFetches id replica key a found still reads there_key may home e k) = subst (WorkFacts next) (sym k) tt
  work_facts old new is (WorkFinishes r act left round e k entries) = subst (WorkFacts next) (sym k) tt
  work_facts old new is (WorkEnds txn r id entry o left s round now e there last acts k) = subst (WorkFacts next) (sym k) tt
  work_facts old new is (WorkValidates txn r epoch served same round lt e none there k) =
      let n = serves_next r txn.id txn served round in
      subst (WorkFacts next) (sym k) (there, (n.0, n.1 ∙ same), subst (λ (f : ℕ). r < members f) (sym moves.same_faults) lt)
  work_facts old new is (WorkGoesOn txn r epoch state answer round e k entries) =
      let w : WorkFacts m (Validating txn r epoch state) = subst (WorkFacts m) (is ∙ e) h.work in
      let n = serves_next r txn.id txn w.1.0 round in
      subst (WorkFacts next) (sym k) (entries r txn.id ∙ w.0, (n.0, n.1 ∙ w.1.1), subst (λ (f : ℕ). r < members f) (sym moves.same_faults) w.2)

  -- ---- all

  pub kept : ((r : ℕ) (id : TxnId) → IsMatched next r id) → RoundFacts taught next → length next.column.records ≡ members next.round.faults →
      ((msg : Msg) → Among msg next.column.link → msg.replica < members next.round.faults) → Facts taught next
  kept matched round sized ranged =
      record {
        attempts = λ id b e. attempt_facts taught stays m next h moves id (attempt_of next.column id) (moves.attempts id) b e;
        takeovers = λ id v b e. takeover_facts taught stays m next h moves id v (takeover_of next.column id v) (moves.takeovers id v) b e;
        entries = λ r id e k. entry_facts r id (m.past.entries r id) (next.past.entries r id) refl (moves.entries r id) e k;
        messages = λ msg a. elim (moves.messages msg a) [
          | inl old ↦ (
            IsStampedIn-grows taught stays m next (grows taught m next h moves) msg.id msg.epoch (h.messages msg old).0,
            Says-grows taught stays m next (grows taught m next h moves) msg msg.body (h.messages msg old).1,
          )
          | inr new ↦ (new.0, says_newborn msg new.1)
        ];
        fast = λ id o a. elim (moves.learnings (learning id ByVotes o) a) [
          | inl old ↦ FastFacts-grows taught stays m next (grows taught m next h moves) id o (h.fast id o old)
          | inr new ↦ fast_facts id o new
        ];
        learnings = λ l a. elim (moves.learnings l a) [
          | inl old ↦ backed_later taught stays m next h moves l.id l.outcome (h.learnings l old)
          | inr new ↦ learning_backed l a new
        ];
        work = work_facts m.column.work next.column.work refl moves.work;
        matched = matched;
        round = round;
        sized = sized;
        ranged = ranged;
      }
