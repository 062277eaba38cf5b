-- What holds of key acts holds at every moment.
use Rattle.std.proofs.Common.{◌≡◌, ◌≤◌, ◌∙◌, ℕ, ◌+◌, Bool, true, false, refl, arith, inl, inr, sym, ap, subst, List, [], ◌∷◌, Option, Some, None}
use Rattle.std.specs.Prelude.{◌==◌, slice_get, if◌then◌else◌}
use Rattle.std.proofs.lemmas.Bool.Decides.{nat_tests}
use Rattle.std.proofs.lemmas.Option.{none-some, same_Some}
use Rattle.mk_txn.specs.declared.Conflict.{Conflict}
use Rattle.mk_txn.specs.declared.Vote.{Vote}
use Rattle.mk_txn.specs.declared.Vote.TheVariants.{Ok as VoteOk, Abort as VoteAbort}
use Rattle.mk_txn.specs.declared.Cause.{Cause}
use Rattle.mk_txn.specs.declared.Outcome.TheVariants.{Abort}
use Rattle.mk_trim.specs.declared.ReplicaView.{ReplicaView}
use Rattle.mk_model.specs.ColumnState.Work.{Validating}
use Rattle.mk_model.specs.Replicas.{serves}
use Rattle.mk_model.proofs.Frames.{enabled}
use Rattle.mk_column_laws.specs.Moments.{Moment, PastEntry, Taught, StaysTaught, IsReached, Event, CanHappen, EachHappens, moment_through, after_event, step_done, round_begun, first_moment}
use Rattle.mk_column_laws.specs.Moments.Event.{NewRound, Doing}
use Rattle.mk_column_laws.specs.Facts.{Facts, WorkFacts}
use Rattle.mk_column_laws.specs.KeyActs.{ActFacts, IsReleasing, ReleaseReason}
use Rattle.mk_column_laws.proofs.ActMoves.ActMove.{NoAct}
use Rattle.mk_column_laws.specs.ActLaws.{ActsHold, ActsHaveOrigin, ChecksOfOk, RefusalOfAbort, ReleasesOfOk}
use Rattle.mk_column_laws.proofs.ActMoves.{act_moves}
use Rattle.mk_column_laws.proofs.KeptActs.{acts_kept}
use Rattle.mk_column_laws.proofs.Rounds.{event_facts, event_moves, reached_facts, start_facts}

pub served_before : (views : List ReplicaView) (now i r epoch : ℕ) (before : Bool) → i ≤ now → before ≡ true → (if i == now + 1 then serves epoch (slice_get views r) else before) ≡ true
served_before views now i r epoch before le e = by (i == now + 1) refl
  where
    by : (b : Bool) → (i == now + 1) ≡ b → (if b then serves epoch (slice_get views r) else before) ≡ true
    by true q = absurd (let k : i ≡ now + 1 = grind (arith, nat_tests, q) in omega (arith, k, le))
    by false q = e

serving_now : (now : ℕ) (served before : Bool) → served ≡ true → (if now + 1 == now + 1 then served else before) ≡ true
serving_now now served before e = by (now + 1 == now + 1) refl
  where
    by : (b : Bool) → (now + 1 == now + 1) ≡ b → (if b then served else before) ≡ true
    by true q = e
    by false q = absurd (grind (arith, nat_tests, q))

pub start_acts : (version f keys : ℕ) (clients : List ℕ) → ActFacts (first_moment version f keys clients)
start_acts version f keys clients =
    record {
      votes = λ r id e k. absurd (cc k);
      origins = λ act a. absurd a;
      work = tt;
      serving = λ r epoch e. absurd (cc e);
    }

module _ (taught : Taught) (stays : StaysTaught taught) where
  pub event_acts : (m : Moment) → Facts taught m → ActFacts m → (event : Event) → CanHappen taught event m → ActFacts (after_event event m)
  event_acts m h k (NewRound views resets) can =
      acts_kept taught m (round_begun views resets m) h (event_moves taught stays m h (NewRound views resets) can) (NoAct refl can.idle) k
      (λ i r epoch le e. served_before views m.past.now i r epoch (m.past.served_in i r epoch) le e)
      (λ r epoch e. serving_now m.past.now (serves epoch (slice_get views r)) (m.past.served_in (m.past.now + 1) r epoch) e)
  event_acts m h k (Doing step) can =
      acts_kept taught m (step_done step m) h (event_moves taught stays m h (Doing step) can) (act_moves taught m h step (enabled m.round m.column step can)) k
      (λ i r epoch le e. e) k.serving

  acts_through : (m : Moment) → Facts taught m → ActFacts m → (events : List Event) → EachHappens taught m events → ActFacts (moment_through m events)
  acts_through m h k [] happens = k
  acts_through m h k (event ∷ events) happens = acts_through (after_event event m) (event_facts taught stays m h event happens.0) (event_acts m h k event happens.0) events happens.1

  pub reached_acts : (m : Moment) → IsReached taught m → ActFacts m
  reached_acts m r =
      subst ActFacts r.leads (acts_through (first_moment r.version r.faults r.keys r.clients) (start_facts taught r.version r.faults r.keys r.clients)
      (start_acts r.version r.faults r.keys r.clients) r.events r.happens)

ok_or_abort : (i j : ℕ) (c : Conflict) → ◌≡◌ {A = Option (Vote × ℕ)} (Some (VoteOk, i)) (Some (VoteAbort c, j)) → ⊥
ok_or_abort i j c e =
    let pair : (VoteOk, i) ≡ (VoteAbort c, j) = same_Some (VoteOk, i) (VoteAbort c, j) e in
    let vote : VoteOk ≡ VoteAbort c = ap (λ (z : Vote × ℕ). z.0) pair in
    cc vote

pub acts_hold : ActsHold
acts_hold taught stays m r = reached_acts taught stays m r

pub acts_have_origin : ActsHaveOrigin
acts_have_origin taught stays m r act a = (reached_acts taught stays m r).origins act a

pub checks_of_ok : ChecksOfOk
checks_of_ok taught stays m reached r id entry i epoch found vote at c a = ((reached_acts taught stays m reached).votes r id entry found).ok i epoch vote at c a

pub refusal_of_abort : RefusalOfAbort
refusal_of_abort taught stays m reached r id entry conflict i epoch found vote at = ((reached_acts taught stays m reached).votes r id entry found).refused conflict i epoch vote at

pub releases_of_ok : ReleasesOfOk
releases_of_ok taught stays m reached r id entry i j found vote reason = by reason
  where
    -- a validation under way has no vote yet
    not_releasing : IsReleasing m r id → ⊥
    not_releasing z =
        let f : WorkFacts m (Validating z.0 r z.1.0 z.1.1.0) = subst (WorkFacts m) z.1.1.1.1.0 (reached_facts taught stays m reached).work in
        let same = same_Some _ entry (sym f.0 ∙ (λ k. m.past.entries r (z.1.1.1.1.1 k)) ∙ found) in
        let none : entry.vote ≡ None = ap (λ (x : PastEntry). x.vote) (sym same) in
        none-some (VoteOk, i) (sym none ∙ vote)

    by : ReleaseReason m r id entry j → (cause : Cause) × ((k : ℕ) × ((entry.last ≡ Some (Abort cause, k)) × (k ≤ j)))
    by (inl v) = absurd (ok_or_abort i v.1.0 v.0 (sym vote ∙ v.1.1))
    by (inr (inl z)) = absurd (not_releasing z)
    by (inr (inr l)) = l
