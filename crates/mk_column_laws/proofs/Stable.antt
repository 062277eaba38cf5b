-- What a column's facts rest on only grows, so the facts stay.
use Rattle.std.proofs.Common.{◌≡◌, ◌≤◌, ◌∙◌, ℕ, true, refl, arith, inl, inr, sym, ap, subst, List, Option, Some, None}
use Rattle.std.specs.Prelude.{is_some}
use Rattle.std.proofs.lemmas.Bool.Decides.{nat_tests}
use Rattle.mk_txn.specs.declared.TxnId.{TxnId}
use Rattle.mk_txn.specs.declared.Vote.{Vote}
use Rattle.mk_txn.specs.declared.Outcome.{Outcome}
use Rattle.mk_txn.specs.Transactions.{Transaction}
use Rattle.mk_words.specs.declared.Told.{Told}
use Rattle.mk_words.specs.declared.Msg.{Msg}
use Rattle.mk_words.specs.declared.Body.{Body}
use Rattle.mk_words.specs.declared.Body.TheVariants.{Validate as ValidateBody, Voted, Accept, Accepted as AcceptedBody, Decide, Ask, Told as ToldBody, Moved as MovedBody}
use Rattle.mk_quorum.specs.Counts.{count_below}
use Rattle.mk_quorum.specs.Sizes.{members, majority_of}
use Rattle.mk_quorum.proofs.Counting.{count_below-weaker}
use Rattle.mk_words.specs.declared.Ruling.TheVariants.{Fast, Propose}
use Rattle.mk_words.specs.Rulings.{by_votes}
use Rattle.mk_words.specs.declared.Pick.TheVariants.{Propose as PickPropose}
use Rattle.mk_words.specs.Picks.{by_promises}
use Rattle.mk_model.specs.ColumnState.{AttemptState, TakeoverOf, attempt_of}
use Rattle.mk_column_laws.specs.Moments.{Moment, PastEntry, Taught, StaysTaught, past_vote}
use Rattle.mk_model.specs.Sending.{Sent, Proposed, msg_of}
use Rattle.mk_column_laws.specs.Messages.{VotesIn, RepliesIn, taking_over}
use Rattle.mk_model.specs.Deciding.{IsDecided, IsChosen, has_accepted}
use Rattle.mk_column_laws.specs.Moves.{HasProposed, IsStampedIn}
use Rattle.mk_column_laws.specs.Facts.{Grows, IsBacked, IsSupported, IsTaught, IsPromise, ToldFacts, AcceptFacts, Says, AttemptFacts, TakeoverFacts, EntryFacts, FastFacts, is_ok_by}
use Rattle.mk_column_laws.proofs.Choices.{accept_sent}
use Rattle.mk_column_laws.proofs.Growing.{none_there}
use Rattle.mk_column_laws.proofs.Decisions.{accept_counted}

module _ (taught : Taught) (stays : StaysTaught taught) (m next : Moment) (g : Grows m next) where
  pub Sent-grows : (id : TxnId) (r v : ℕ) (b : Body) → Sent m.column.link id r v b → Sent next.column.link id r v b
  Sent-grows id r v b s = (s.0, g.sent (msg_of s.0 id r v b) s.1)

  pub Proposed-grows : (id : TxnId) (v : ℕ) (o : Outcome) → Proposed m.column.link id v o → Proposed next.column.link id v o
  Proposed-grows id v o p = (p.0, Sent-grows id p.0 v (Accept o) p.1)

  pub VotesIn-grows : (id : TxnId) (votes : List (Option Vote)) → VotesIn m.column.link id votes → VotesIn next.column.link id votes
  VotesIn-grows id votes h r v e = Sent-grows id r 0 (Voted v) (h r v e)

  pub RepliesIn-grows : (id : TxnId) (v : ℕ) (replies : List (Option Told)) → RepliesIn m.column.link id v replies → RepliesIn next.column.link id v replies
  RepliesIn-grows id v replies h r t e = let k = h r t e in record { sent = Sent-grows id r v (ToldBody t) k.sent; not_final = k.not_final; earlier = k.earlier }

  has_accepted-grows : (id : TxnId) (v r : ℕ) → has_accepted m.column.link id v r ≡ true → has_accepted next.column.link id v r ≡ true
  has_accepted-grows id v r e = accept_counted next.column.link id v r (Sent-grows id r v AcceptedBody (accept_sent m.column.link id v r e))

  pub IsChosen-grows : (f : ℕ) (id : TxnId) (v : ℕ) (o : Outcome) → IsChosen f m.column.link id v o → IsChosen f next.column.link id v o
  IsChosen-grows f id v o c = (
    Proposed-grows id v o c.0,
    omega (arith, c.1, count_below-weaker (members f) (has_accepted m.column.link id v) (has_accepted next.column.link id v) (λ r lt e. has_accepted-grows id v r e)),
  )

  pub IsDecided-grows : (id : TxnId) (o : Outcome) → IsDecided m.round.faults m.column id o → IsDecided next.round.faults next.column id o
  IsDecided-grows id o d = subst (λ (f : ℕ). IsDecided f next.column id o) (sym g.same_faults) (by d)
    where
      by : IsDecided m.round.faults m.column id o → IsDecided m.round.faults next.column id o
      by (inl a) = inl (g.learned _ a)
      by (inr c) = inr (c.0, IsChosen-grows m.round.faults id c.0 o c.1)

  still_ok : (i j : ℕ) → i ≤ j → (v : Vote × ℕ) → is_ok_by i (Some v) ≡ true → is_ok_by j (Some v) ≡ true
  still_ok i j le v e = grind (arith, nat_tests, e, le)

  ok_by-grows : (id : TxnId) (i j r : ℕ) → i ≤ j → is_ok_by i (past_vote (m.past.entries r id)) ≡ true → is_ok_by j (past_vote (next.past.entries r id)) ≡ true
  ok_by-grows id i j r le e = by (m.past.entries r id) refl e
    where
      at : (a : PastEntry) → m.past.entries r id ≡ Some a → (v : Option (Vote × ℕ)) → a.vote ≡ v → is_ok_by i v ≡ true → is_ok_by j (past_vote (next.past.entries r id)) ≡ true
      at a found None is k = absurd (cc k)
      at a found (Some v) is k =
          let b = g.entries r id a found in
          let there : past_vote (next.past.entries r id) ≡ Some v = ap past_vote b.1 ∙ b.2.vote v is in
          subst (λ (o : Option (Vote × ℕ)). is_ok_by j o ≡ true) (sym there) (still_ok i j le v k)

      by : (o : Option PastEntry) → m.past.entries r id ≡ o → is_ok_by i (past_vote o) ≡ true → is_ok_by j (past_vote (next.past.entries r id)) ≡ true
      by None found k = absurd (cc k)
      by (Some a) found k = at a found a.vote refl k

  pub IsSupported-grows : (id : TxnId) (i j : ℕ) → i ≤ j → IsSupported m id i → IsSupported next id j
  IsSupported-grows id i j le s =
      subst (λ (f : ℕ). majority_of f ≤ count_below (members f) (λ r. is_ok_by j (past_vote (next.past.entries r id)))) (sym g.same_faults)
      (omega (
        arith,
        s,
        count_below-weaker (members m.round.faults) (λ r. is_ok_by i (past_vote (m.past.entries r id))) (λ r. is_ok_by j (past_vote (next.past.entries r id)))
            (λ r lt e. ok_by-grows id i j r le e),
      ))

  pub IsTaught-grows : (id : TxnId) (o : Outcome) (i j : ℕ) → i ≤ j → IsTaught taught m id o i → IsTaught taught next id o j
  IsTaught-grows id o i j le t =
      let b = g.attempts id t.0 t.1 in
      (b.0, b.1, subst (λ (n : ℕ). taught id n o j ≡ true) (sym b.2.same_epoch) (stays id t.0.epoch o i j le t.2))

  pub IsBacked-grows : (id : TxnId) (o : Outcome) (i j : ℕ) → i ≤ j → IsBacked taught m id o i → IsBacked taught next id o j
  IsBacked-grows id o i j le (inl d) = inl (IsDecided-grows id o d.0, λ c. IsSupported-grows id i j le (d.1 c))
  IsBacked-grows id o i j le (inr t) = inr (IsTaught-grows id o i j le t)

  pub IsStampedIn-grows : (id : TxnId) (epoch : ℕ) → IsStampedIn m id epoch → IsStampedIn next id epoch
  IsStampedIn-grows id epoch s =
      let b = g.attempts id s.attempt s.found in
      record { attempt = b.0; found = b.1; stamped = by b.0 s.attempt.txn refl s.stamped b.2.txn; same_epoch = b.2.same_epoch ∙ s.same_epoch }
    where
      by : (b : AttemptState) (o : Option Transaction) {x : Option Transaction} → x ≡ o → is_some x ≡ true → ((t : Transaction) → x ≡ Some t → b.txn ≡ Some t) → is_some b.txn ≡ true
      by b None e s k = absurd (none_there _ e s)
      by b (Some t) e s k = ap is_some (k t e)

  pub HasProposed-grows : (id : TxnId) (v : ℕ) (o : Outcome) → HasProposed m id v o → HasProposed next id v o
  HasProposed-grows id v o (inl p) = let b = g.attempts id p.1.0 p.1.1 in inl (p.0, (b.0, b.1, b.2.proposed o p.1.2))
  HasProposed-grows id v o (inr p) = let b = g.takeovers id v p.1.0 p.1.1 in inr (p.0, (b.0, b.1, b.2.proposed o p.1.2))

  -- ---- what messages say

  promise_grows : (id : TxnId) (r v : ℕ) (t : Told) (a b : PastEntry) → m.past.entries r id ≡ Some a → a.view ≤ b.view → ((w : Vote × ℕ) → a.vote ≡ Some w → b.vote ≡ Some w) →
      IsPromise m r id v t a → IsPromise next r id v t b
  promise_grows id r v t a b found view vote k =
      record {
        from_one = k.from_one;
        promised = omega (arith, k.promised, view);
        voted = λ w e. let x = k.voted w e in (x.0, vote (w, x.0) x.1);
        sealed = λ e. g.sealed r id (k.sealed e);
        not_above = k.not_above;
        earlier = λ u lt s. elim (g.accepts r id u s) [
          | inl old ↦ k.earlier u lt old
          | inr later ↦ absurd (let le = later a found in omega (arith, le, lt, k.promised))
        ];
      }

  ToldFacts-grows : (id : TxnId) (r v : ℕ) (t : Told) → ToldFacts m r id v t → ToldFacts next r id v t
  ToldFacts-grows id r v t f =
      let b = g.entries r id f.entry f.found in
      record {
        entry = b.0;
        found = b.1;
        accepted = λ a e. Proposed-grows id a.view a.outcome (f.accepted a e);
        final = λ o e. let x = f.final o e in (x.0, ap (λ (y : PastEntry). y.last) (b.2.final (o, x.0) x.1) ∙ x.1);
        promise = λ e. promise_grows id r v t f.entry b.0 f.found b.2.view b.2.vote (f.promise e);
      }

  AcceptFacts-grows : (id : TxnId) (r v : ℕ) → AcceptFacts m r id v → AcceptFacts next r id v
  AcceptFacts-grows id r v f =
      let b = g.entries r id f.entry f.found in
      let y = b.2.accepted f.accepted f.has_accepted in
      record {
        entry = b.0;
        found = b.1;
        not_below = omega (arith, f.not_below, b.2.view);
        accepted = y.0;
        has_accepted = y.1;
        from_view = omega (arith, f.from_view, y.2);
        proposal = (f.proposal.0, Proposed-grows id v f.proposal.0 f.proposal.1);
      }

  pub Says-grows : (msg : Msg) (b : Body) → Says taught m msg b → Says taught next msg b
  Says-grows msg (ValidateBody mark) k = tt
  Says-grows msg Ask k = let b = g.takeovers msg.id msg.view k.1.0 k.1.1 in (k.0, (b.0, b.1))
  Says-grows msg (Accept o) k = HasProposed-grows msg.id msg.view o k
  Says-grows msg (Decide o) k = IsBacked-grows msg.id o m.past.now next.past.now g.now k
  Says-grows msg (Voted w) k = let b = g.entries msg.replica msg.id k.0 k.1 in (b.0, b.1, (k.2.0, b.2.vote (w, k.2.0) k.2.1))
  Says-grows msg AcceptedBody k = AcceptFacts-grows msg.id msg.replica msg.view k
  Says-grows msg (ToldBody t) k = ToldFacts-grows msg.id msg.replica msg.view t k
  Says-grows msg (MovedBody moved) k = (k.0, λ o e. stays msg.id msg.epoch o m.past.now next.past.now g.now (k.1 o e))

  -- ---- coordinators and entries that stay as they are

  pub AttemptFacts-grows : (id : TxnId) (a : AttemptState) → AttemptFacts taught m id a → AttemptFacts taught next id a
  AttemptFacts-grows id a k =
      record {
        own_id = k.own_id;
        unstamped = k.unstamped;
        txn_id = k.txn_id;
        votes = VotesIn-grows id a.coord.votes k.votes;
        accepts = λ r b e. Sent-grows id r 0 AcceptedBody (k.accepts r b e);
        proposed = λ o e. let p = k.proposed o e in
            (Proposed-grows id 0 o p.0, (p.1.0, VotesIn-grows id p.1.0 p.1.1, subst (λ (f : ℕ). by_votes f p.1.0 ≡ Propose o) (sym g.same_faults) p.1.2));
        learned = λ o e. IsBacked-grows id o m.past.now next.past.now g.now (k.learned o e);
      }

  pub begun-grows : (id : TxnId) → ((a : AttemptState) × (attempt_of m.column id ≡ Some a) × (is_some a.txn ≡ true)) → (a : AttemptState) × (attempt_of next.column id ≡ Some a) × (is_some a.txn ≡ true)
  begun-grows id k =
      let s = IsStampedIn-grows id k.0.epoch (record { attempt = k.0; found = k.1; stamped = k.2; same_epoch = refl }) in (s.attempt, s.found, s.stamped)

  pub TakeoverFacts-grows : (id : TxnId) (v : ℕ) (t : TakeoverOf) → TakeoverFacts taught m id v t → TakeoverFacts taught next id v t
  TakeoverFacts-grows id v t k =
      record {
        own_view = k.own_view;
        from_one = k.from_one;
        begun = begun-grows id k.begun;
        told = λ r told e. let x = k.told r told e in (Sent-grows id r v (ToldBody told) x.0, x.1);
        accepts = λ r b e. Sent-grows id r v AcceptedBody (k.accepts r b e);
        proposed = λ o e. let p = k.proposed o e in
            (Proposed-grows id v o p.0, (p.1.0, RepliesIn-grows id v p.1.0 p.1.1, subst (λ (f : ℕ). by_promises f (taking_over v p.1.0) ≡ PickPropose o) (sym g.same_faults) p.1.2));
        learned = λ o e. IsBacked-grows id o m.past.now next.past.now g.now (k.learned o e);
      }

  pub EntryFacts-grows : (r : ℕ) (id : TxnId) (e : PastEntry) → EntryFacts taught m r id e → EntryFacts taught next r id e
  EntryFacts-grows r id e k =
      let b = g.attempts id k.attempt k.found in
      record {
        attempt = b.0;
        found = b.1;
        stamped = b.2.txn e.txn k.stamped;
        served = subst (λ (n : ℕ). next.past.ever_served r n ≡ true) (sym b.2.same_epoch) (g.ever r k.attempt.epoch k.served);
        accepted = λ a q. let x = k.accepted a q in (x.0, Proposed-grows id a.view a.outcome x.1);
        voted = λ w i q. omega (arith, k.voted w i q, g.now);
        last = λ o i q. let x = k.last o i q in
            (omega (arith, x.0, g.now), IsBacked-grows id o i i (omega arith) x.1, (x.2.0, x.2.1, Sent-grows id x.2.0 x.2.1 (Decide o) x.2.2));
      }

  pub FastFacts-grows : (id : TxnId) (o : Outcome) → FastFacts m id o → FastFacts next id o
  FastFacts-grows id o k =
      let b = g.attempts id k.attempt k.found in
      record {
        votes = k.votes;
        voted = VotesIn-grows id k.votes k.voted;
        ruled = subst (λ (f : ℕ). by_votes f k.votes ≡ Fast o) (sym g.same_faults) k.ruled;
        attempt = b.0;
        found = b.1;
        unproposed = b.2.no_more k.has_learned ∙ k.unproposed;
        has_learned = by k.attempt.coord.learned refl k.has_learned b.0.coord.learned b.2.learned;
      }
    where
      by : (l : Option Outcome) {x : Option Outcome} → x ≡ l → is_some x ≡ true → (y : Option Outcome) → ((p : Outcome) → x ≡ Some p → y ≡ Some p) → is_some y ≡ true
      by None e s y k = absurd (none_there _ e s)
      by (Some p) e s y k = ap is_some (k p e)
