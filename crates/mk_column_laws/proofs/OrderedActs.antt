-- No check of an attempt stands after a commit of it at the same replica.
use Rattle.std.proofs.Common.{◌≡◌, ◌⊎◌, ◌∙◌, ℕ, Bool, true, false, refl, inl, inr, sym, ap, subst, List, [], ◌∷◌, ◌++◌, Option, Some, None}
use Rattle.std.proofs.lemmas.Option.{none-some, same_Some}
use Rattle.mk_lists.specs.Among.{Among}
use Rattle.mk_txn.specs.declared.Stamp.{Stamp}
use Rattle.mk_txn.specs.declared.Conflict.{Conflict}
use Rattle.mk_txn.specs.declared.Outcome.{Outcome}
use Rattle.mk_txn.specs.declared.Outcome.TheVariants.{Commit, Abort}
use Rattle.mk_txn.specs.Outcomes.{is_ok_vote}
use Rattle.mk_txn.specs.Transactions.{Transaction}
use Rattle.mk_words.specs.declared.Act.TheVariants.{Get}
use Rattle.mk_words.specs.declared.Answer.{Answer}
use Rattle.mk_quorum.specs.Slots.{passes}
use Rattle.mk_words.specs.Checks.{KeyAct, checks, releases_of, finish_acts}
use Rattle.mk_words.specs.Validations.{ValidationState, next_act, next_by}
use Rattle.mk_model.specs.ColumnState.Work.{Validating, Finishing}
use Rattle.mk_model.proofs.Frames.{enabled}
use Rattle.mk_column_laws.specs.Moments.{Moment, PastAct, PastEntry, Taught, StaysTaught, Event, CanHappen, EachHappens, moment_through, after_event, first_moment}
use Rattle.mk_column_laws.specs.Moments.Event.{NewRound, Doing}
use Rattle.mk_column_laws.specs.Moves.{past_opened, undated}
use Rattle.mk_column_laws.specs.Facts.{Facts, WorkFacts}
use Rattle.mk_column_laws.specs.KeyActs.{ActFacts, ActOrigin, ValidationActs, FinishActs, WorkActs}
use Rattle.mk_column_laws.proofs.ActMoves.ActMove.{NoAct, ActFetched, ActChecked, ActVoted, ActFinished}
use Rattle.mk_column_laws.specs.KeyActs.ActOrigin.{OfRead, OfCheck, OfRelease, OfCommit}
use Rattle.mk_column_laws.specs.Identity.{Identity}
use Rattle.mk_column_laws.specs.ActLaws.{CommitsFor, IsNoCheckAfter, NoCheckFollows, NoCheckAfterCommit}
use Rattle.mk_column_laws.proofs.Rounds.{event_facts, start_facts}
use Rattle.mk_column_laws.proofs.ActMoves.{ActMove, act_now, act_moves}
use Rattle.mk_column_laws.proofs.KeptActs.{first_among}
use Rattle.mk_column_laws.proofs.RoundActs.{event_acts, start_acts}
use Rattle.mk_column_laws.proofs.IdentitySteps.{named_by_stamp, event_fine, start_fine}
use Rattle.mk_column_laws.proofs.ActStamps.{checks_shape, releases_shape, commits_shape, same_check, same_commit, read_is_none, release_is_no_check, release_is_no_commit, commit_is_no_check}

follows-push : (acts : List PastAct) (new : PastAct) → NoCheckFollows acts → ((act : PastAct) → Among act acts → IsNoCheckAfter act new) → NoCheckFollows (acts ++ new ∷ [])
follows-push [] new h k = ((λ later a. absurd a), tt)
follows-push (act ∷ acts) new h k = (λ later a. by later (split later acts a), follows-push acts new h.1 (λ x a. k x (inr a)))
  where
    split : (later : PastAct) (l : List PastAct) → Among later (l ++ new ∷ []) → Among later l ⊎ (new ≡ later)
    split later [] (inl e) = inr e
    split later [] (inr none) = absurd none
    split later (x ∷ l) (inl e) = inl (inl e)
    split later (x ∷ l) (inr a) = elim (split later l a) [ inl b ↦ inl (inr b) | inr b ↦ inr b ]

    by : (later : PastAct) → Among later acts ⊎ (new ≡ later) → IsNoCheckAfter act later
    by later (inl a) = h.0 later a
    by later (inr e) = subst (IsNoCheckAfter act) e (k act (inl refl))

module _ (taught : Taught) (m : Moment) (h : Facts taught m) (k : ActFacts m) (own : Identity m.column.clients m.column.attempts) where
  -- what is committed at a replica is not being checked there
  not_both : (txn : Transaction) (r ep : ℕ) (state : ValidationState) → m.column.work ≡ Validating txn r ep state → (act : PastAct) → Among act m.past.acts → act.replica ≡ r → CommitsFor txn.stamp act.act → ⊥
  not_both txn r ep state w act a at commits = by (k.origins act a).1
    where
      f : WorkFacts m (Validating txn r ep state)
      f = subst (WorkFacts m) w h.work

      by : ActOrigin m act → ⊥
      by (OfRead g) = (read_is_none act.act g).1 txn.stamp commits
      by (OfCheck id e there here served among) = commit_is_no_check txn.stamp e.txn.stamp act.act commits (checks_shape e.txn (act.key, act.act) among)
      by (OfRelease id e there here served among reason) = release_is_no_commit e.txn.stamp txn.stamp act.act (releases_shape e.txn (act.key, act.act) among) commits
      by (OfCommit id e i there here served among last early) =
          let w2 : WorkFacts m (Validating txn r ep state) = subst (WorkFacts m) w h.work in
          let same = same_commit e.txn.stamp txn.stamp act.act (commits_shape e.txn (act.key, act.act) among) commits in
          let x = h.entries act.replica id e there in
          let s = w2.1.0 in
          let names = named_by_stamp m.column.clients m.column.attempts own id txn.id x.attempt s.attempt e.txn txn x.found s.found x.stamped s.stamped same in
          let one : e ≡ past_opened txn = same_Some e (past_opened txn) (sym there ∙ (λ j. m.past.entries (at j) (names j)) ∙ w2.0) in
          none-some (Commit, i) (sym (ap (λ (y : PastEntry). y.last) one) ∙ last)

  kind_of_act : (txn : Transaction) (r ep : ℕ) (state : ValidationState) (act : KeyAct) → ValidationActs m txn r ep state → (o : Option Conflict) → next_by state o ≡ Some act →
      Among act (checks txn) ⊎ Among act (releases_of txn)
  kind_of_act txn r ep state act p None e = inl (p.left act (first_among state.left act e))
  kind_of_act txn r ep state act p (Some c) e = inr (p.releases act (first_among state.releases act e))

  validation_new : (txn : Transaction) (r ep : ℕ) (state : ValidationState) (x : KeyAct) (answer : Answer) → m.column.work ≡ Validating txn r ep state → next_act state ≡ Some x →
      (act : PastAct) → Among act m.past.acts → IsNoCheckAfter act (act_now m r x answer)
  validation_new txn r ep state x answer w is act a stamp at commits chk = elim (kind_of_act txn r ep state x (subst (WorkActs m) w k.work) state.refusal is) [
    | inl c ↦ (let same = same_check stamp txn.stamp x.1 chk (checks_shape txn x c) in
        not_both txn r ep state w act a (sym at) (subst (λ (s : Stamp). CommitsFor s act.act) same commits))
    | inr c ↦ release_is_no_check txn.stamp stamp x.1 (releases_shape txn x c) chk
  ]

  finish_new : (r : ℕ) (x : KeyAct) (left : List KeyAct) (answer : Answer) → m.column.work ≡ Finishing r (x ∷ left) → (act : PastAct) → IsNoCheckAfter act (act_now m r x answer)
  finish_new r x left answer w act stamp at commits chk =
      let f : FinishActs m r (x ∷ left) = subst (WorkActs m) w k.work in
      by f.entry.txn f.outcome (passes is_ok_vote (undated f.entry.vote)) (f.acts x (inl refl))
    where
      by : (txn : Transaction) (o : Outcome) (ok : Bool) → Among x (finish_acts txn o ok) → ⊥
      by txn Commit ok a = commit_is_no_check txn.stamp stamp x.1 (commits_shape txn x a) chk
      by txn (Abort c) true a = release_is_no_check txn.stamp stamp x.1 (releases_shape txn x a) chk
      by txn (Abort c) false a = a

  order_kept : (next : Moment) → ActMove m next → NoCheckFollows m.past.acts → NoCheckFollows next.past.acts
  order_kept next (NoAct e idle) o = subst NoCheckFollows (sym e) o
  order_kept next (ActFetched id r key answer w read e w2) o =
      subst NoCheckFollows (sym e) (follows-push m.past.acts (act_now m r (key, Get) answer) o (λ act a stamp at commits chk. (read_is_none Get refl).0.1 stamp chk))
  order_kept next (ActChecked txn r ep state x answer now w is e w2) o =
      subst NoCheckFollows (sym e) (follows-push m.past.acts (act_now m r x answer) o (λ act a. validation_new txn r ep state x answer w is act a))
  order_kept next (ActVoted txn r ep state x answer now w is e none w2 entry) o =
      subst NoCheckFollows (sym e) (follows-push m.past.acts (act_now m r x answer) o (λ act a. validation_new txn r ep state x answer w is act a))
  order_kept next (ActFinished r x left answer now round w e w2) o =
      subst NoCheckFollows (sym e) (follows-push m.past.acts (act_now m r x answer) o (λ act a. finish_new r x left answer w act))

module _ (taught : Taught) (stays : StaysTaught taught) where
  event_order : (m : Moment) → Facts taught m → ActFacts m → Identity m.column.clients m.column.attempts → (event : Event) → CanHappen taught event m → NoCheckFollows m.past.acts → NoCheckFollows (after_event event m).past.acts
  event_order m h k own (NewRound views resets) can o = o
  event_order m h k own (Doing step) can o =
      order_kept taught m h k own (after_event (Doing step) m) (act_moves taught m h step (enabled m.round m.column step can)) o

  order_through : (m : Moment) → Facts taught m → ActFacts m → Identity m.column.clients m.column.attempts → (events : List Event) → EachHappens taught m events → NoCheckFollows m.past.acts →
      NoCheckFollows (moment_through m events).past.acts
  order_through m h k own [] happens o = o
  order_through m h k own (event ∷ events) happens o =
      order_through (after_event event m) (event_facts taught stays m h event happens.0) (event_acts taught stays m h k event happens.0) (event_fine taught m event happens.0 own) events happens.1
      (event_order m h k own event happens.0 o)

pub no_check_after_commit : NoCheckAfterCommit
no_check_after_commit taught stays m r =
    subst (λ (x : Moment). NoCheckFollows x.past.acts) r.leads
    (order_through taught stays (first_moment r.version r.faults r.keys r.clients) (start_facts taught r.version r.faults r.keys r.clients) (start_acts r.version r.faults r.keys r.clients)
    (start_fine r.clients) r.events r.happens tt)
