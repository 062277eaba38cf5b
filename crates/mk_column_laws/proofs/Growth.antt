-- Growing over any number of events.
use Rattle.std.proofs.Common.{◌≡◌, ◌∙◌, true, false, refl, arith, inl, inr, ap, List, [], ◌∷◌, Option, Some, None}
use Rattle.std.specs.Prelude.{is_some}
use Rattle.mk_txn.specs.declared.Outcome.{Outcome}
use Rattle.mk_model.specs.ColumnState.{AttemptState, TakeoverOf}
use Rattle.mk_column_laws.specs.Moments.{Moment, PastEntry, Taught, StaysTaught, Event, EachHappens, moment_through, after_event}
use Rattle.mk_column_laws.specs.Facts.{Facts, Grows, AttemptGrows, TakeoverGrows, EntryGrows}
use Rattle.mk_column_laws.proofs.Growing.{grows, AttemptGrows-same, TakeoverGrows-same, EntryGrows-same}
use Rattle.mk_column_laws.proofs.Rounds.{event_facts, event_moves}

AttemptGrows-through : (a b c : AttemptState) → AttemptGrows a b → AttemptGrows b c → AttemptGrows a c
AttemptGrows-through a b c p q =
    record {
      same_id = q.same_id ∙ p.same_id;
      same_epoch = q.same_epoch ∙ p.same_epoch;
      same_replica = q.same_replica ∙ p.same_replica;
      same_unread = q.same_unread ∙ p.same_unread;
      txn = λ t e. q.txn t (p.txn t e);
      stopped = λ e. q.stopped (p.stopped e);
      proposed = λ o e. q.proposed o (p.proposed o e);
      learned = λ o e. q.learned o (p.learned o e);
      no_more = λ e. q.no_more (by a.coord.learned refl e) ∙ p.no_more e;
      votes = λ r v e. q.votes r v (p.votes r v e);
    }
  where
    by : (o : Option Outcome) → a.coord.learned ≡ o → is_some a.coord.learned ≡ true → is_some b.coord.learned ≡ true
    by None e s = absurd (let k : is_some a.coord.learned ≡ false = ap is_some e in cc (k, s))
    by (Some x) e s = ap is_some (p.learned x e)

TakeoverGrows-through : (a b c : TakeoverOf) → TakeoverGrows a b → TakeoverGrows b c → TakeoverGrows a c
TakeoverGrows-through a b c p q = record { closed = λ e. q.closed (p.closed e); proposed = λ o e. q.proposed o (p.proposed o e); learned = λ o e. q.learned o (p.learned o e) }

EntryGrows-through : (a b c : PastEntry) → EntryGrows a b → EntryGrows b c → EntryGrows a c
EntryGrows-through a b c p q =
    record {
      same_txn = q.same_txn ∙ p.same_txn;
      view = omega (arith, p.view, q.view);
      vote = λ v e. q.vote v (p.vote v e);
      accepted = λ x e. let y = p.accepted x e in let z = q.accepted y.0 y.1 in (z.0, z.1, omega (arith, y.2, z.2));
      final = λ l e. let same = p.final l e in q.final l (ap (λ (x : PastEntry). x.last) same ∙ e) ∙ same;
    }

pub Grows-same : (m : Moment) → Grows m m
Grows-same m =
    record {
      same_faults = refl;
      now = omega arith;
      sent = λ msg a. a;
      learned = λ l a. a;
      ever = λ r epoch e. e;
      attempts = λ id a e. (a, e, AttemptGrows-same a);
      takeovers = λ id v a e. (a, e, TakeoverGrows-same a);
      entries = λ r id a e. (a, e, EntryGrows-same a);
      sealed = λ r id s. s;
      accepts = λ r id u s. inl s;
    }

pub Grows-through : (m n k : Moment) → Grows m n → Grows n k → Grows m k
Grows-through m n k p q =
    record {
      same_faults = q.same_faults ∙ p.same_faults;
      now = omega (arith, p.now, q.now);
      sent = λ msg a. q.sent msg (p.sent msg a);
      learned = λ l a. q.learned l (p.learned l a);
      ever = λ r epoch e. q.ever r epoch (p.ever r epoch e);
      attempts = λ id a e. let b = p.attempts id a e in let c = q.attempts id b.0 b.1 in (c.0, c.1, AttemptGrows-through a b.0 c.0 b.2 c.2);
      takeovers = λ id v a e. let b = p.takeovers id v a e in let c = q.takeovers id v b.0 b.1 in (c.0, c.1, TakeoverGrows-through a b.0 c.0 b.2 c.2);
      entries = λ r id a e. let b = p.entries r id a e in let c = q.entries r id b.0 b.1 in (c.0, c.1, EntryGrows-through a b.0 c.0 b.2 c.2);
      sealed = λ r id s. q.sealed r id (p.sealed r id s);
      accepts = λ r id u s. elim (q.accepts r id u s) [
        | inl there ↦ p.accepts r id u there
        | inr later ↦ inr (λ entry e. let b = p.entries r id entry e in let le = later b.0 b.1 in omega (arith, le, b.2.view))
      ];
    }

pub grows_through : (taught : Taught) → StaysTaught taught → (m : Moment) → Facts taught m → (events : List Event) → EachHappens taught m events → Grows m (moment_through m events)
grows_through taught stays m h [] happens = Grows-same m
grows_through taught stays m h (event ∷ events) happens =
    Grows-through m (after_event event m) (moment_through (after_event event m) events)
    (grows taught m (after_event event m) h (event_moves taught stays m h event happens.0))
    (grows_through taught stays (after_event event m) (event_facts taught stays m h event happens.0) events happens.1)
