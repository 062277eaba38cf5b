-- The laws, from what holds at every moment.
use Rattle.std.proofs.Common.{refl, ◌≡◌, ◌⊎◌, ◌∙◌, ℕ, suc, true, arith, inl, inr, sym, ap, subst, Option, Some, ◌<◌, None}
use Rattle.std.specs.Prelude.{option_map, slice_get}
use Rattle.std.proofs.lemmas.Option.{none-some, same_Some}
use Rattle.mk_txn.specs.declared.TxnId.{TxnId}
use Rattle.mk_txn.specs.declared.Outcome.{Outcome}
use Rattle.mk_txn.specs.Outcomes.{agrees}
use Rattle.mk_words.specs.Entries.{entry_of}
use Rattle.mk_words.specs.declared.Body.TheVariants.{Voted, Accepted as AcceptedBody, Decide, Moved as MovedBody}
use Rattle.mk_model.specs.ColumnState.{AttemptState, attempt_of, entries_at}
use Rattle.mk_model.specs.Replicas.{serves}
use Rattle.mk_column_laws.specs.Moments.{Moment, PastEntry, Taught, after_event, moment_through}
use Rattle.mk_model.specs.Sending.{msg_of}
use Rattle.mk_model.specs.Deciding.{IsDecided}
use Rattle.mk_column_laws.specs.Moves.{EntryMove, ServesAttempt, HasProposed, IsMatched, entry_of_past}
use Rattle.mk_column_laws.specs.Moves.EntryMove.{EntryStays, EntryOpens, EntryVotes, EntryPromises, EntryAccepts, EntryFinishes}
use Rattle.mk_column_laws.specs.Facts.{Facts, FastFacts, IsBacked}
use Rattle.mk_column_laws.specs.Laws.{MovedIsLater, RecordsKept, RecordIsPast, CountsBacked, EventsMove, ColumnsGrow, FactsHold, EntriesChangeWhereServed, RecordsMatch, MessagesAreOf, AcceptIsProposal, OneProposal, VotedTrue, AcceptedTrue, ToldTrue, MovedTrue, AcceptedWasProposed, FinalWasSent, OwnGrounds, FastGrounds, TakeoverGrounds, ViewsAgree, FastForbids, OneDecision, CommitSupport, LearnedBacked, BackingStays}
use Rattle.mk_column_laws.proofs.Choices.{chosen_kept, fast_kept, by_votes-fast}
use Rattle.mk_column_laws.proofs.Agreed.{Decided, IsFast, decided_agree}
use Rattle.mk_column_laws.proofs.Views.{orderly, proposed_says, told_says, proposal_supported, decided_supported}
use Rattle.mk_column_laws.proofs.Stable.{IsBacked-grows}
use Rattle.mk_column_laws.proofs.Rounds.{reached_facts, event_moves}
use Rattle.mk_column_laws.proofs.Growth.{grows_through}

pub events_move : EventsMove
events_move taught stays m r event can = event_moves taught stays m (reached_facts taught stays m r) event can

pub columns_grow : ColumnsGrow
columns_grow taught stays m r events happens = grows_through taught stays m (reached_facts taught stays m r) events happens

pub facts_hold : FactsHold
facts_hold taught stays m r = reached_facts taught stays m r

pub entries_change_where_served : EntriesChangeWhereServed
entries_change_where_served taught stays m reached event can r id =
    by (m.past.entries r id) ((after_event event m).past.entries r id) ((event_moves taught stays m (reached_facts taught stays m reached) event can).entries r id)
  where
    where_served : {txn : _} → ServesAttempt m r id txn → (a : AttemptState) × (attempt_of m.column id ≡ Some a) × (serves a.epoch (slice_get m.round.views r) ≡ true)
    where_served s = (s.attempt, s.found, s.served)

    by : (old new : Option PastEntry) → EntryMove m (after_event event m) r id old new →
        (new ≡ old) ⊎ ((a : AttemptState) × (attempt_of m.column id ≡ Some a) × (serves a.epoch (slice_get m.round.views r) ≡ true))
    by old new (EntryStays same) = inl same
    by old new (EntryOpens txn epoch s none k w1 w2) = inr (s.attempt, s.found, s.served)
    by old new (EntryVotes txn epoch state s was w1 own w2 vote answer v q k) = inr (s.attempt, s.found, s.served)
    by old new (EntryPromises txn view s sent last le k w1 w2) = inr (s.attempt, s.found, s.served)
    by old new (EntryAccepts txn view o s sent last le k w1 w2) = inr (s.attempt, s.found, s.served)
    by old new (EntryFinishes txn view o s sent last k w1) = inr (s.attempt, s.found, s.served)

pub records_match : RecordsMatch
records_match taught stays m reached r id a found served = by ((reached_facts taught stays m reached).matched r id)
  where
    by : IsMatched m r id → entry_of id (entries_at m.column r) ≡ option_map entry_of_past (m.past.entries r id)
    by (inl e) = e
    by (inr k) =
        let stayed = (reached_facts taught stays m reached).round.tenure r a.epoch served in
        let left = subst (λ (x : AttemptState). m.past.has_left r x.epoch ≡ true) (same_Some k.1.0 a (sym k.1.1 ∙ found)) k.1.2 in
        absurd (cc (stayed, left))

pub messages_are_of : MessagesAreOf
messages_are_of taught stays m r msg a = ((reached_facts taught stays m r).messages msg a).0

pub accept_is_proposal : AcceptIsProposal
accept_is_proposal taught stays m r id v o p = proposed_says taught m (reached_facts taught stays m r) id v o p

pub one_proposal : OneProposal
one_proposal taught stays m r id v a b p q = (orderly taught m (reached_facts taught stays m r)).one_proposal id v a b p q

pub voted_true : VotedTrue
voted_true taught stays m reached id r v vote s = ((reached_facts taught stays m reached).messages (msg_of s.0 id r v (Voted vote)) s.1).1

pub accepted_true : AcceptedTrue
accepted_true taught stays m reached id r v s = ((reached_facts taught stays m reached).messages (msg_of s.0 id r v AcceptedBody) s.1).1

pub told_true : ToldTrue
told_true taught stays m reached id r v told s = told_says taught m (reached_facts taught stays m reached) id r v told s

pub moved_true : MovedTrue
moved_true taught stays m reached id r v moved o s e =
    let k = (reached_facts taught stays m reached).messages (msg_of s.0 id r v (MovedBody moved)) s.1 in
    (k.0.attempt, k.0.found, subst (λ (n : ℕ). taught id n o m.past.now ≡ true) (sym k.0.same_epoch) (k.1.1 o e))

pub accepted_was_proposed : AcceptedWasProposed
accepted_was_proposed taught stays m reached r id entry a found e = ((reached_facts taught stays m reached).entries r id entry found).accepted a e

pub final_was_sent : FinalWasSent
final_was_sent taught stays m reached r id entry o i found e = (((reached_facts taught stays m reached).entries r id entry found).last o i e).2

pub own_grounds : OwnGrounds
own_grounds taught stays m r id o p = (orderly taught m (reached_facts taught stays m r)).first_proposal id o p

-- nothing is proposed beside a fast decision
unproposed : (taught : Taught) (m : Moment) → Facts taught m → (id : TxnId) (o other : Outcome) → FastFacts m id o → HasProposed m id 0 other → ⊥
unproposed taught m h id o other f (inl p) =
    none-some other (sym f.unproposed ∙ (ap (λ (x : AttemptState). x.coord.proposed) (same_Some f.attempt p.1.0 (sym f.found ∙ p.1.1)) ∙ p.1.2))
unproposed taught m h id o other f (inr p) = omega (arith, p.0)

pub fast_grounds : FastGrounds
fast_grounds taught stays m r id o a =
    let h = reached_facts taught stays m r in
    let f = h.fast id o a in
    ((f.votes, f.voted, f.ruled), λ other p. unproposed taught m h id o other f (proposed_says taught m h id 0 other p))

pub takeover_grounds : TakeoverGrounds
takeover_grounds taught stays m r id v o pos p = (orderly taught m (reached_facts taught stays m r)).later_proposal id v o (omega (arith, pos)) p

pub views_agree : ViewsAgree
views_agree taught stays m r id v w o p chosen lt q =
    chosen_kept m.round.faults m.column.link (orderly taught m (reached_facts taught stays m r)) id (suc w) v w o p (omega arith) lt chosen q

is_fast : (taught : Taught) (m : Moment) → Facts taught m → (id : TxnId) (o : Outcome) → FastFacts m id o → IsFast m.round.faults m.column.link id o
is_fast taught m h id o f =
    record {
      votes = f.votes;
      voted = f.voted;
      counts = by_votes-fast m.round.faults f.votes o f.ruled;
      first = λ q p. absurd (unproposed taught m h id o q f (proposed_says taught m h id 0 q p));
    }

pub fast_forbids : FastForbids
fast_forbids taught stays m r id v o p a q =
    let h = reached_facts taught stays m r in
    let k = is_fast taught m h id o (h.fast id o a) in
    fast_kept m.round.faults m.column.link (orderly taught m h) id (suc v) v o p k.votes (omega arith) k.voted k.counts k.first q

as_decided : (taught : Taught) (m : Moment) → Facts taught m → (id : TxnId) (o : Outcome) → IsDecided m.round.faults m.column id o → Decided m.round.faults m.column.link id o
as_decided taught m h id o (inl a) = inr (is_fast taught m h id o (h.fast id o a))
as_decided taught m h id o (inr c) = inl c

pub decisions_agree : (taught : Taught) (m : Moment) → Facts taught m → (id : TxnId) (o p : Outcome) → IsDecided m.round.faults m.column id o → IsDecided m.round.faults m.column id p → agrees o p ≡ true
decisions_agree taught m h id o p d e = decided_agree m.round.faults m.column.link (orderly taught m h) id o p (as_decided taught m h id o d) (as_decided taught m h id p e)

pub one_decision : OneDecision
one_decision taught stays m r id o p d e = decisions_agree taught m (reached_facts taught stays m r) id o p d e

pub commit_support : CommitSupport
commit_support taught stays m reached id =
    let h = reached_facts taught stays m reached in
    record {
      decided = λ o d c. decided_supported taught m h id o d c;
      proposed = λ v o p c. proposal_supported taught m h (suc v) v id o (omega arith) p c;
      accepted = λ r entry a found e c. proposal_supported taught m h (suc a.view) a.view id a.outcome (omega arith) ((h.entries r id entry found).accepted a e).1 c;
    }

pub learned_backed : LearnedBacked
learned_backed taught stays m reached id =
    let h = reached_facts taught stays m reached in
    record {
      sent = λ r v o s. (h.messages (msg_of s.0 id r v (Decide o)) s.1).1;
      own = λ a o found e. (h.attempts id a found).learned o e;
      takeover = λ v t o found e. (h.takeovers id v t found).learned o e;
      final = λ r entry o i found e. let k = (h.entries r id entry found).last o i e in (k.0, k.1);
      learned = λ l a same. subst (λ (x : TxnId). IsBacked taught m x l.outcome m.past.now) same (h.learnings l a);
    }

pub backing_stays : BackingStays
backing_stays taught stays m reached events happens id o i j le b =
    IsBacked-grows taught stays m (moment_through m events) (grows_through taught stays m (reached_facts taught stays m reached) events happens) id o i j le b

pub moved_is_later : MovedIsLater
moved_is_later taught stays m reached id r v moved s =
    let k = (reached_facts taught stays m reached).messages (msg_of s.0 id r v (MovedBody moved)) s.1 in
    (k.0.attempt, k.0.found, subst (λ (n : ℕ). n < moved.to) (sym k.0.same_epoch) k.1.0)

pub records_kept : RecordsKept
records_kept taught stays m reached r id a found here = by ((reached_facts taught stays m reached).matched r id)
  where
    by : IsMatched m r id → entry_of id (entries_at m.column r) ≡ option_map entry_of_past (m.past.entries r id)
    by (inl e) = e
    by (inr k) =
        let left = subst (λ (x : AttemptState). m.past.has_left r x.epoch ≡ true) (same_Some k.1.0 a (sym k.1.1 ∙ found)) k.1.2 in
        absurd (cc (here, left))

pub record_is_past : RecordIsPast
record_is_past taught stays m reached r id entry found = by ((reached_facts taught stays m reached).matched r id) (m.past.entries r id) refl
  where
    by : IsMatched m r id → (o : Option PastEntry) → m.past.entries r id ≡ o → (past : PastEntry) × (m.past.entries r id ≡ Some past) × (entry ≡ entry_of_past past)
    by (inl e) None is = absurd (let k : entry_of id (entries_at m.column r) ≡ None = e ∙ ap (option_map entry_of_past) is in cc (k, found))
    by (inl e) (Some past) is = (past, is, same_Some entry (entry_of_past past) (sym found ∙ e ∙ ap (option_map entry_of_past) is))
    by (inr k) o is = absurd (let none = k.0 in cc (none, found))

pub counts_backed : CountsBacked
counts_backed taught stays m reached id =
    let h = reached_facts taught stays m reached in
    record {
      votes = λ a r vote found e. (h.attempts id a found).votes r vote e;
      accepts = λ a r b found e. (h.attempts id a found).accepts r b e;
      told = λ v t r told found e. ((h.takeovers id v t found).told r told e).0;
      takeover_accepts = λ v t r b found e. (h.takeovers id v t found).accepts r b e;
    }
