-- What an event does to a column only adds to what is there.
use Rattle.std.proofs.Common.{◌≡◌, ◌≤◌, ◌∙◌, ℕ, true, false, refl, arith, inl, inr, sym, ap, subst, Option, Some, None}
use Rattle.std.specs.Prelude.{is_some}
use Rattle.std.specs.Option.{option_or}
use Rattle.std.proofs.lemmas.Bool.{cond_both}
use Rattle.std.proofs.lemmas.Option.{none-some, same_Some}
use Rattle.mk_txn.specs.declared.TxnId.{TxnId}
use Rattle.mk_txn.specs.declared.Vote.{Vote}
use Rattle.mk_txn.specs.declared.Accepted.{Accepted}
use Rattle.mk_txn.specs.declared.Outcome.{Outcome}
use Rattle.mk_txn.specs.Transactions.{Transaction}
use Rattle.mk_words.specs.declared.Body.{Body}
use Rattle.mk_words.specs.declared.Body.TheVariants.{Voted, Accepted as AcceptedBody, Told as ToldBody, Moved as MovedBody}
use Rattle.mk_quorum.specs.Slots.{slot}
use Rattle.mk_quorum.proofs.Slots.{filled-keeps}
use Rattle.mk_words.specs.Validations.{ValidationState}
use Rattle.mk_words.specs.Rulings.{CoordState}
use Rattle.mk_words.specs.Picks.{TakeoverState}
use Rattle.mk_model.specs.ColumnState.{ColumnState, AttemptState, TakeoverOf, attempt_of, takeover_of}
use Rattle.mk_model.specs.ColumnState.Work.{Validating}
use Rattle.mk_model.specs.Answers.{coord_answered, state_answered, moved_outcome}
use Rattle.mk_column_laws.specs.Moments.{Moment, PastEntry, Taught}
use Rattle.mk_model.specs.Sending.{msg_of}
use Rattle.mk_column_laws.specs.Moves.{Moves, AttemptMove, AttemptChange, TakeoverMove, TakeoverChange, EntryMove, WorkMove, Newborn, past_opened}
use Rattle.mk_column_laws.specs.Moves.AttemptMove.{AttemptStays, AttemptBegins, AttemptChanges}
use Rattle.mk_column_laws.specs.Moves.AttemptChange.{EndsReading, Reads, Stamps, RulesFast, RulesLearned, Proposes, Hears, Stops}
use Rattle.mk_column_laws.specs.Moves.TakeoverMove.{TakeoverStays, TakeoverBegins, TakeoverChanges}
use Rattle.mk_column_laws.specs.Moves.TakeoverChange.{Picks, Closes, TakeoverHears}
use Rattle.mk_column_laws.specs.Moves.EntryMove.{EntryStays, EntryOpens, EntryVotes, EntryPromises, EntryAccepts, EntryFinishes}
use Rattle.mk_column_laws.specs.Moves.WorkMove.{WorkRests, WorkFetches, WorkValidates, WorkGoesOn, WorkEnds, WorkFinishes}
use Rattle.mk_column_laws.specs.Moves.Newborn.{ValidateSent, AskSent, ProposalSent, FastSent, LearnedSent, KnownSent, PickSent, VoteSent, AcceptedSent, FinalToldSent, PromiseSent, MovedSent}
use Rattle.mk_column_laws.specs.Facts.{Facts, AttemptFacts, Grows, AttemptGrows, TakeoverGrows, EntryGrows}
use Rattle.mk_column_laws.proofs.Decisions.{ruling-propose, pick-propose}

-- ---- attempts

pub AttemptGrows-same : (a : AttemptState) → AttemptGrows a a
AttemptGrows-same a =
    record {
      same_id = refl;
      same_epoch = refl;
      same_replica = refl;
      same_unread = refl;
      txn = λ t e. e;
      stopped = λ e. e;
      proposed = λ o e. e;
      learned = λ o e. e;
      no_more = λ _. refl;
      votes = λ r v e. e;
    }

pub none_there : {X : Type 0} (o : Option X) → o ≡ None → is_some o ≡ true → ⊥
none_there o n s = let k : is_some o ≡ false = ap is_some n in cc (k, s)

answered_votes : (r : ℕ) (b : Body) (c : CoordState) (q : ℕ) (v : Vote) → slot c.votes q ≡ Some v → slot (coord_answered r b c).votes q ≡ Some v
answered_votes r (Voted vote) c q v e = filled-keeps c.votes r q vote v e
answered_votes r AcceptedBody c q v e = e
answered_votes r (ToldBody told) c q v e = e
answered_votes r (MovedBody moved) c q v e = e
answered_votes r _ c q v e = e

pub answered_proposed : (r : ℕ) (b : Body) (c : CoordState) → (coord_answered r b c).proposed ≡ c.proposed
answered_proposed r (Voted vote) c = refl
answered_proposed r AcceptedBody c = refl
answered_proposed r (ToldBody told) c = refl
answered_proposed r (MovedBody moved) c = refl
answered_proposed r _ c = refl

change_grows : (taught : Taught) (m : Moment) (next : ColumnState) (id : TxnId) (a b : AttemptState) → AttemptFacts taught m id a → AttemptChange m next id a b → AttemptGrows a b
change_grows taught m next id a b f (EndsReading e) = subst (AttemptGrows a) (sym e) (record { same_id = refl; same_epoch = refl; same_replica = refl; same_unread = refl; txn = λ t k. k; stopped = λ k. k; proposed = λ o k. k; learned = λ o k. k; no_more = λ _. refl; votes = λ r v k. k })
change_grows taught m next id a b f (Reads replica key answer w e) = subst (AttemptGrows a) (sym e) (record { same_id = refl; same_epoch = refl; same_replica = refl; same_unread = refl; txn = λ t k. k; stopped = λ k. k; proposed = λ o k. k; learned = λ o k. k; no_more = λ _. refl; votes = λ r v k. k })
change_grows taught m next id a b f (Stamps client clock stamp writes reading fit some c n e) = subst (AttemptGrows a) (sym e)
    (record { same_id = refl; same_epoch = refl; same_replica = refl; same_unread = refl; txn = λ t k. absurd (none-some t (sym (f.unstamped reading) ∙ k)); stopped = λ k. k; proposed = λ o k. k; learned = λ o k. k; no_more = λ _. refl; votes = λ r v k. k })
change_grows taught m next id a b f (RulesFast o none is e l) = subst (AttemptGrows a) (sym e)
    (record { same_id = refl; same_epoch = refl; same_replica = refl; same_unread = refl; txn = λ t k. k; stopped = λ k. k; proposed = λ x k. k; learned = λ x k. absurd (none-some x (sym none ∙ k)); no_more = λ _. refl; votes = λ r v k. k })
change_grows taught m next id a b f (RulesLearned o none is e) = subst (AttemptGrows a) (sym e)
    (record { same_id = refl; same_epoch = refl; same_replica = refl; same_unread = refl; txn = λ t k. k; stopped = λ k. k; proposed = λ x k. k; learned = λ x k. absurd (none-some x (sym none ∙ k)); no_more = λ _. refl; votes = λ r v k. k })
change_grows taught m next id a b f (Proposes o none is e p) =
    let unproposed = (ruling-propose m.round.faults a.coord o a.coord.learned a.coord.proposed refl refl is).0 in
    subst (AttemptGrows a) (sym e)
    (record { same_id = refl; same_epoch = refl; same_replica = refl; same_unread = refl; txn = λ t k. k; stopped = λ k. k; proposed = λ x k. absurd (none-some x (sym unproposed ∙ k)); learned = λ x k. k; no_more = λ k. absurd (none_there a.coord.learned none k); votes = λ r v k. k })
change_grows taught m next id a b f (Hears msg among same view none e) = subst (AttemptGrows a) (sym e)
    (record {
      same_id = refl;
      same_epoch = refl;
      same_replica = refl;
      same_unread = refl;
      txn = λ t k. k;
      stopped = λ k. k;
      proposed = λ x k. answered_proposed msg.replica msg.body a.coord ∙ k;
      learned = λ x k. absurd (none-some x (sym none ∙ k));
      no_more = λ _. answered_proposed msg.replica msg.body a.coord;
      votes = λ r v k. answered_votes msg.replica msg.body a.coord r v k;
    })
change_grows taught m next id a b f (Stops e) = subst (AttemptGrows a) (sym e) (record { same_id = refl; same_epoch = refl; same_replica = refl; same_unread = refl; txn = λ t k. k; stopped = λ _. refl; proposed = λ o k. k; learned = λ o k. k; no_more = λ _. refl; votes = λ r v k. k })

-- ---- takeovers

pub TakeoverGrows-same : (t : TakeoverOf) → TakeoverGrows t t
TakeoverGrows-same t = record { closed = λ e. e; proposed = λ o e. e; learned = λ o e. e }

or_kept : (a b : Option Outcome) (o : Outcome) → a ≡ Some o → option_or a b ≡ Some o
or_kept (Some x) b o e = e
or_kept None b o e = absurd (cc e)

answered_state : (r : ℕ) (b : Body) (t : TakeoverState) (o : Outcome) →
    ((t.proposed ≡ Some o → (state_answered r b t).proposed ≡ Some o) × (t.learned ≡ Some o → (state_answered r b t).learned ≡ Some o))
answered_state r AcceptedBody t o = (λ e. e, λ e. e)
answered_state r (ToldBody told) t o = (λ e. e, or_kept t.learned told.last o)
answered_state r (MovedBody moved) t o = (λ e. e, or_kept t.learned (moved_outcome moved) o)
answered_state r _ t o = (λ e. e, λ e. e)

takeover_grows : (m : Moment) (next : ColumnState) (id : TxnId) (view : ℕ) (a b : TakeoverOf) → TakeoverChange m next id view a b → TakeoverGrows a b
takeover_grows m next id view a b (Picks o is e p) =
    let unproposed = (pick-propose m.round.faults a.state o a.state.learned a.state.proposed refl refl is).0 in
    subst (TakeoverGrows a) (sym e) (record { closed = λ k. k; proposed = λ x k. absurd (none-some x (sym unproposed ∙ k)); learned = λ x k. k })
takeover_grows m next id view a b (Closes e) = subst (TakeoverGrows a) (sym e) (record { closed = λ _. refl; proposed = λ x k. k; learned = λ x k. k })
takeover_grows m next id view a b (TakeoverHears msg among same v e) =
    subst (TakeoverGrows a) (sym e)
    (cond_both a.closed a (record a { state = state_answered msg.replica msg.body a.state }) (TakeoverGrows a) (λ _. TakeoverGrows-same a) (λ _. record { closed = λ k. k; proposed = λ x k. (answered_state msg.replica msg.body a.state x).0 k; learned = λ x k. (answered_state msg.replica msg.body a.state x).1 k }))

-- ---- entries

pub EntryGrows-same : (a : PastEntry) → EntryGrows a a
EntryGrows-same a = record { same_txn = refl; view = omega arith; vote = λ v e. e; accepted = λ x e. (x, e, omega arith); final = λ l e. refl }

module _ (taught : Taught) (m next : Moment) (h : Facts taught m) (moves : Moves m next) where
  -- what an accepted outcome is at most
  accepted_below : (r : ℕ) (id : TxnId) (a : PastEntry) → m.past.entries r id ≡ Some a → (x : Accepted) → a.accepted ≡ Some x → x.view ≤ a.view
  accepted_below r id a e x k = ((h.entries r id a e).accepted x k).0

  entry_grows : (r : ℕ) (id : TxnId) (old new : Option PastEntry) → EntryMove m next r id old new → (a : PastEntry) → ((x : Accepted) → a.accepted ≡ Some x → x.view ≤ a.view) → old ≡ Some a →
      (b : PastEntry) × (new ≡ Some b) × EntryGrows a b
  entry_grows r id old new (EntryStays same) a low e = (a, same ∙ e, EntryGrows-same a)
  entry_grows r id old new (EntryOpens txn epoch s none k w1 w2) a low e = absurd (none-some a (sym none ∙ e))
  entry_grows r id old new (EntryVotes txn epoch state s was w1 own w2 vote answer v n k) a low e =
      let same = same_Some (past_opened txn) a (sym was ∙ e) in
      subst (λ (x : PastEntry). (b : PastEntry) × (new ≡ Some b) × EntryGrows x b) same
      (_, k, record { same_txn = refl; view = omega arith; vote = λ x q. absurd (cc q); accepted = λ x q. absurd (cc q); final = λ l q. absurd (cc q) })
  entry_grows r id None new (EntryPromises txn view s sent last le k w1 w2) a low e = absurd (cc e)
  entry_grows r id (Some was) new (EntryPromises txn view s sent last le k w1 w2) a low e =
      subst (λ (x : PastEntry). (b : PastEntry) × (new ≡ Some b) × EntryGrows x b) (same_Some was a e)
      (_, k, record { same_txn = refl; view = le; vote = λ x q. q; accepted = λ x q. (x, q, omega arith); final = λ l q. absurd (none-some l (sym last ∙ q)) })
  entry_grows r id None new (EntryAccepts txn view o s sent last le k w1 w2) a low e = absurd (cc e)
  entry_grows r id (Some was) new (EntryAccepts txn view o s sent last le k w1 w2) a low e =
      let same = same_Some was a e in
      let below : (x : Accepted) → was.accepted ≡ Some x → x.view ≤ was.view = subst (λ (y : PastEntry). (x : Accepted) → y.accepted ≡ Some x → x.view ≤ y.view) (sym same) low in
      subst (λ (x : PastEntry). (b : PastEntry) × (new ≡ Some b) × EntryGrows x b) same
      (_, k, record { same_txn = refl; view = le; vote = λ x q. q; accepted = λ x q. (record { view = view; outcome = o }, refl, omega (arith, below x q, le)); final = λ l q. absurd (none-some l (sym last ∙ q)) })
  entry_grows r id None new (EntryFinishes txn view o s sent last k w1) a low e = absurd (cc e)
  entry_grows r id (Some was) new (EntryFinishes txn view o s sent last k w1) a low e =
      subst (λ (x : PastEntry). (b : PastEntry) × (new ≡ Some b) × EntryGrows x b) (same_Some was a e)
      (_, k, record { same_txn = refl; view = omega arith; vote = λ x q. q; accepted = λ x q. (x, q, omega arith); final = λ l q. absurd (none-some l (sym last ∙ q)) })

  -- ---- sealed entries

  no_vote_move : (r : ℕ) (id : TxnId) (old new : Option PastEntry) → EntryMove m next r id old new → (a : PastEntry) → old ≡ Some a → a.vote ≡ None →
      ((txn : Transaction) (epoch : ℕ) (state : ValidationState) → m.column.work ≡ Validating txn r epoch state → txn.id ≡ id → ⊥) →
      (b : PastEntry) × (new ≡ Some b) × (b.vote ≡ None)
  no_vote_move r id old new (EntryStays same) a e n rest = (a, same ∙ e, n)
  no_vote_move r id old new (EntryOpens txn epoch s none k w1 w2) a e n rest = absurd (none-some a (sym none ∙ e))
  no_vote_move r id old new (EntryVotes txn epoch state s was w1 own w2 vote answer v q k) a e n rest = absurd (rest txn epoch state w1 own)
  no_vote_move r id None new (EntryPromises txn view s sent last le k w1 w2) a e n rest = absurd (cc e)
  no_vote_move r id (Some was) new (EntryPromises txn view s sent last le k w1 w2) a e n rest = (_, k, ap (λ (x : PastEntry). x.vote) (same_Some was a e) ∙ n)
  no_vote_move r id None new (EntryAccepts txn view o s sent last le k w1 w2) a e n rest = absurd (cc e)
  no_vote_move r id (Some was) new (EntryAccepts txn view o s sent last le k w1 w2) a e n rest = (_, k, ap (λ (x : PastEntry). x.vote) (same_Some was a e) ∙ n)
  no_vote_move r id None new (EntryFinishes txn view o s sent last k w1) a e n rest = absurd (cc e)
  no_vote_move r id (Some was) new (EntryFinishes txn view o s sent last k w1) a e n rest = (_, k, ap (λ (x : PastEntry). x.vote) (same_Some was a e) ∙ n)

  same_validation : (t u : Transaction) (q r a b : ℕ) (s z : ValidationState) → Validating t q a s ≡ Validating u r b z → (t ≡ u) × (q ≡ r)
  same_validation t u q r a b s z e = (cc e, cc e)

  still_rests : (r : ℕ) (id : TxnId) (e : PastEntry) → m.past.entries r id ≡ Some e →
      ((txn : Transaction) (epoch : ℕ) (state : ValidationState) → m.column.work ≡ Validating txn r epoch state → txn.id ≡ id → ⊥) →
      WorkMove m next m.column.work next.column.work → (txn : Transaction) (epoch : ℕ) (state : ValidationState) → next.column.work ≡ Validating txn r epoch state → txn.id ≡ id → ⊥
  still_rests r id e found rest (WorkRests idle) txn epoch state w own = cc (idle, w)
  still_rests r id e found rest (WorkFetches x q key a there still reads there_key may home old new) txn epoch state w own = cc (new, w)
  still_rests r id e found rest (WorkFinishes q act left round old new stays) txn epoch state w own = cc (new, w)
  still_rests r id e found rest (WorkEnds t q x entry o left s round now old there last acts new) txn epoch state w own = cc (new, w)
  still_rests r id e found rest (WorkGoesOn t q ep s answer round old new stays) txn epoch state w own =
      let k = same_validation t txn q r ep epoch _ state (sym new ∙ w) in
      rest t ep s (old ∙ (λ i. Validating t (k.1 i) ep s)) (ap (λ (x : Transaction). x.id) k.0 ∙ own)
  still_rests r id e found rest (WorkValidates t q ep served epq round lt old none there new) txn epoch state w own =
      let k = same_validation t txn q r ep epoch _ state (sym new ∙ w) in
      let names : t.id ≡ id = ap (λ (x : Transaction). x.id) k.0 ∙ own in
      let place : m.past.entries q t.id ≡ m.past.entries r id = λ i. m.past.entries (k.1 i) (names i) in
      none-some e (sym (sym place ∙ none) ∙ found)

  -- ---- accepts

  accepts_new : (r : ℕ) (id : TxnId) (u ep : ℕ) → Newborn m next (msg_of ep id r u AcceptedBody) → (entry : PastEntry) → m.past.entries r id ≡ Some entry → entry.view ≤ u
  accepts_new r id u ep (AcceptedSent entry o b found view acc below sent) = below
  accepts_new r id u ep (ValidateSent mark b) = absurd (cc b)
  accepts_new r id u ep (AskSent t b pos found) = absurd (cc b)
  accepts_new r id u ep (ProposalSent o b p) = absurd (cc b)
  accepts_new r id u ep (FastSent o a b found none is l) = absurd (cc b)
  accepts_new r id u ep (LearnedSent o a b found none is) = absurd (cc b)
  accepts_new r id u ep (KnownSent o t b found is) = absurd (cc b)
  accepts_new r id u ep (PickSent o t b found is) = absurd (cc b)
  accepts_new r id u ep (VoteSent entry vote i b found is) = absurd (cc b)
  accepts_new r id u ep (FinalToldSent entry o i b found is) = absurd (cc b)
  accepts_new r id u ep (PromiseSent txn sent b last le new w) = absurd (cc b)
  accepts_new r id u ep (MovedSent view b v s lt) = absurd (cc b)

  -- ---- all

  attempt_grows : (id : TxnId) (old new : Option AttemptState) → AttemptMove m next.column id old new → (a : AttemptState) → AttemptFacts taught m id a → old ≡ Some a → (b : AttemptState) × (new ≡ Some b) × AttemptGrows a b
  attempt_grows id old new (AttemptStays same) a f e = (a, same ∙ e, AttemptGrows-same a)
  attempt_grows id old new (AttemptBegins x none n own coord txn reads home) a f e = absurd (none-some a (sym none ∙ e))
  attempt_grows id old new (AttemptChanges x y is n change) a f e =
      let same = same_Some x a (sym is ∙ e) in
      (y, n, change_grows taught m next.column id a y f (subst (λ (z : AttemptState). AttemptChange m next.column id z y) same change))

  takeover_move_grows : (id : TxnId) (view : ℕ) (old new : Option TakeoverOf) → TakeoverMove m next.column id view old new → (a : TakeoverOf) → old ≡ Some a → (b : TakeoverOf) × (new ≡ Some b) × TakeoverGrows a b
  takeover_move_grows id view old new (TakeoverStays same) a e = (a, same ∙ e, TakeoverGrows-same a)
  takeover_move_grows id view old new (TakeoverBegins x none found stamped pos n) a e = absurd (none-some a (sym none ∙ e))
  takeover_move_grows id view old new (TakeoverChanges x y is n change) a e =
      (y, n, subst (λ (z : TakeoverOf). TakeoverGrows z y) (same_Some x a (sym is ∙ e)) (takeover_grows m next.column id view x y change))

  pub grows : Grows m next
  grows =
      record {
        same_faults = moves.same_faults;
        now = moves.rises;
        sent = moves.stays_sent;
        learned = moves.stays_learned;
        ever = moves.stays_ever;
        attempts = λ id a e. attempt_grows id (attempt_of m.column id) (attempt_of next.column id) (moves.attempts id) a (h.attempts id a e) e;
        takeovers = λ id view a e. takeover_move_grows id view (takeover_of m.column id view) (takeover_of next.column id view) (moves.takeovers id view) a e;
        entries = λ r id a e. entry_grows r id (m.past.entries r id) (next.past.entries r id) (moves.entries r id) a (accepted_below r id a e) e;
        sealed = λ r id s.
            let k = no_vote_move r id (m.past.entries r id) (next.past.entries r id) (moves.entries r id) s.entry s.found s.no_vote s.at_rest in
            record { entry = k.0; found = k.1; no_vote = k.2; at_rest = still_rests r id s.entry s.found s.at_rest moves.work };
        accepts = λ r id u s. elim (moves.messages (msg_of s.0 id r u AcceptedBody) s.1) [
          | inl old ↦ inl (s.0, old)
          | inr new ↦ inr (accepts_new r id u s.0 new.1)
        ];
      }
