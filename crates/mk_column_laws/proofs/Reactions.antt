-- What a replica does with a message, sorted.
use Rattle.std.proofs.Common.{◌≡◌, ◌<◌, ◌≤◌, ◌∙◌, ℕ, true, false, refl, arith, sym, ap, subst, [], ◌∷◌, ◌++◌, Option, Some, None, not}
use Rattle.std.specs.Prelude.{option_map, nat_lt}
use Rattle.std.proofs.lemmas.Bool.Decides.{nat_tests}
use Rattle.std.proofs.lemmas.Bool.{cond_both}
use Rattle.mk_words.proofs.EntryLaws.{entry_of-change, entry_of-change_other, entry_of-opened_as, entry_of-opened_other}
use Rattle.mk_txn.specs.declared.TxnId.{TxnId}
use Rattle.mk_txn.specs.declared.Vote.{Vote}
use Rattle.mk_txn.specs.declared.Outcome.{Outcome}
use Rattle.mk_txn.specs.Outcomes.{is_ok_vote}
use Rattle.mk_txn.specs.Transactions.{Transaction, same_id}
use Rattle.mk_words.specs.declared.Entry.{Entry}
use Rattle.mk_words.specs.Entries.{opened, entry_of, change_entry, with_promise, with_accepted, with_last}
use Rattle.mk_words.specs.declared.Msg.{Msg}
use Rattle.mk_words.specs.declared.Body.{Body}
use Rattle.mk_words.specs.declared.Body.TheVariants.{Validate as ValidateBody, Voted, Accept, Accepted as AcceptedBody, Decide, Ask, Told as ToldBody, Moved as MovedBody}
use Rattle.mk_quorum.specs.Slots.{passes}
use Rattle.mk_words.specs.Checks.{finish_acts}
use Rattle.mk_words.specs.Validations.{validation_of}
use Rattle.mk_words.specs.KeptOutcomes.{known_of}
use Rattle.mk_trim.specs.declared.ReplicaView.{ReplicaView}
use Rattle.mk_model.specs.ColumnState.Work.{Idle, Validating}
use Rattle.mk_model.specs.Replicas.{Held, Reaction, reply, ignored, answering, changing, told_of, reaction, reaction_by_view, moved_reaction, validate_known, validate_unfinished, ask_known, accept_known, decide_known, with_entry, is_serving, serves, finishing}
use Rattle.mk_column_laws.specs.Moments.{PastEntry}
use Rattle.mk_column_laws.specs.Moves.{past_or_opened, undated, entry_of_past}

-- what is done at the replica with a message of an attempt that was remembered so
pub data ReactionKind (view : Option ReplicaView) (msg : Msg) (txn : Transaction) (before : Option Entry) (old : Option PastEntry) (re : Reaction) : Type 0 where
  Quiet : entry_of msg.id re.held.entries ≡ before → re.sent ≡ [] → re.work ≡ Idle → ReactionKind view msg txn before old re
  BeginsValidation : (mark : ℕ) → msg.body ≡ ValidateBody mark → serves msg.epoch view ≡ true → old ≡ None → entry_of msg.id re.held.entries ≡ Some (opened txn) →
      re.sent ≡ [] → re.work ≡ Validating txn msg.replica msg.epoch (validation_of txn) → ReactionKind view msg txn before old re
  VotesAgain : (mark : ℕ) (past : PastEntry) (vote : Vote) → msg.body ≡ ValidateBody mark → serves msg.epoch view ≡ true → old ≡ Some past → undated past.vote ≡ Some vote →
      entry_of msg.id re.held.entries ≡ Some (entry_of_past past) → re.sent ≡ reply msg (Voted vote) ∷ [] → re.work ≡ Idle → ReactionKind view msg txn before old re
  TellsFinal : (past : PastEntry) (outcome : Outcome) → serves msg.epoch view ≡ true → old ≡ Some past → undated past.last ≡ Some outcome →
      entry_of msg.id re.held.entries ≡ Some (entry_of_past past) → re.sent ≡ reply msg (ToldBody (told_of (entry_of_past past))) ∷ [] → re.work ≡ Idle → ReactionKind view msg txn before old re
  PromisesView : msg.body ≡ Ask → serves msg.epoch view ≡ true → undated (past_or_opened txn old).last ≡ None → (past_or_opened txn old).view ≤ msg.view →
      entry_of msg.id re.held.entries ≡ Some (with_promise msg.view (entry_of_past (past_or_opened txn old))) →
      re.sent ≡ reply msg (ToldBody (told_of (entry_of_past (past_or_opened txn old)))) ∷ [] → re.work ≡ Idle → ReactionKind view msg txn before old re
  AcceptsOutcome : (outcome : Outcome) → msg.body ≡ Accept outcome → serves msg.epoch view ≡ true → undated (past_or_opened txn old).last ≡ None → (past_or_opened txn old).view ≤ msg.view →
      entry_of msg.id re.held.entries ≡ Some (with_accepted msg.view outcome (entry_of_past (past_or_opened txn old))) →
      re.sent ≡ reply msg AcceptedBody ∷ [] → re.work ≡ Idle → ReactionKind view msg txn before old re
  Finishes : (outcome : Outcome) → msg.body ≡ Decide outcome → serves msg.epoch view ≡ true → undated (past_or_opened txn old).last ≡ None →
      entry_of msg.id re.held.entries ≡ Some (with_last outcome (entry_of_past (past_or_opened txn old))) →
      re.sent ≡ [] → re.work ≡ finishing msg.replica (finish_acts (past_or_opened txn old).txn outcome (passes is_ok_vote (undated (past_or_opened txn old).vote))) → ReactionKind view msg txn before old re
  TellsMoved : (there : ReplicaView) → view ≡ Some there → is_serving there.phase ≡ true → msg.epoch < there.epoch →
      entry_of msg.id re.held.entries ≡ before →
      re.sent ≡ reply msg (MovedBody (record { to = there.epoch; fate = known_of there.fates msg.id })) ∷ [] → re.work ≡ Idle → ReactionKind view msg txn before old re

-- the kind, and that no other attempt's entry changes
abbrev pub Reacts : Option ReplicaView → Msg → Transaction → Held → Option PastEntry → Reaction → Type 0
Reacts view msg txn held old re =
    ReactionKind view msg txn (entry_of msg.id held.entries) old re × ((other : TxnId) → same_id msg.id other ≡ false → entry_of other re.held.entries ≡ entry_of other held.entries)

-- with the entry that is there or opened
module _ (view : Option ReplicaView) (msg : Msg) (txn : Transaction) (held now : Held) (old : Option PastEntry) (served : serves msg.epoch view ≡ true)
    (matched : entry_of msg.id held.entries ≡ option_map entry_of_past old)
    (here : entry_of msg.id now.entries ≡ Some (entry_of_past (past_or_opened txn old)))
    (others : (other : TxnId) → same_id msg.id other ≡ false → entry_of other now.entries ≡ entry_of other held.entries)
    (final : (o : Outcome) → undated (past_or_opened txn old).last ≡ Some o → old ≡ Some (past_or_opened txn old))
    (refused : nat_lt msg.view (past_or_opened txn old).view ≡ true → old ≡ Some (past_or_opened txn old)) where
  changed_here : (g : Entry → Entry) → ((e : Entry) → (g e).txn ≡ e.txn) → entry_of msg.id (change_entry msg.id g now.entries) ≡ Some (g (entry_of_past (past_or_opened txn old)))
  changed_here g keeps = entry_of-change msg.id g now.entries keeps ∙ ap (option_map g) here

  changed_others : (g : Entry → Entry) → ((e : Entry) → (g e).txn ≡ e.txn) → (other : TxnId) → same_id msg.id other ≡ false →
      entry_of other (change_entry msg.id g now.entries) ≡ entry_of other held.entries
  changed_others g keeps other apart = entry_of-change_other msg.id other g now.entries keeps apart ∙ others other apart

  told_final : (o : Outcome) → undated (past_or_opened txn old).last ≡ Some o →
      Reacts view msg txn held old (answering now msg (ToldBody (told_of (entry_of_past (past_or_opened txn old)))))
  told_final o e = (TellsFinal (past_or_opened txn old) o served (final o e) e here refl refl, others)

  left_alone : nat_lt msg.view (past_or_opened txn old).view ≡ true → Reacts view msg txn held old (ignored now)
  left_alone low = (Quiet (here ∙ sym (matched ∙ ap (option_map entry_of_past) (refused low))) refl refl, others)

  pub ask_reacts : msg.body ≡ Ask → (last : Option Outcome) → undated (past_or_opened txn old).last ≡ last →
      Reacts view msg txn held old (ask_known (entry_of_past (past_or_opened txn old)) now msg last)
  ask_reacts is (Some o) e = told_final o e
  ask_reacts is None e =
      let there = entry_of_past (past_or_opened txn old) in
      let Fine : Reaction → Type 0 = Reacts view msg txn held old in
      cond_both (nat_lt msg.view (past_or_opened txn old).view) (ignored now) (answering (changing (with_promise msg.view) now msg) msg (ToldBody (told_of there))) Fine left_alone (λ high. (PromisesView is served e (grind (arith, nat_tests, high)) (changed_here (with_promise msg.view) (λ _. refl)) refl refl, changed_others (with_promise msg.view) (λ _. refl)))

  pub accept_reacts : (outcome : Outcome) → msg.body ≡ Accept outcome → (last : Option Outcome) → undated (past_or_opened txn old).last ≡ last →
      Reacts view msg txn held old (accept_known outcome (entry_of_past (past_or_opened txn old)) now msg last)
  accept_reacts outcome is (Some o) e = told_final o e
  accept_reacts outcome is None e =
      let Fine : Reaction → Type 0 = Reacts view msg txn held old in
      cond_both (nat_lt msg.view (past_or_opened txn old).view) (ignored now) (answering (changing (with_accepted msg.view outcome) now msg) msg AcceptedBody) Fine left_alone (λ high. (AcceptsOutcome outcome is served e (grind (arith, nat_tests, high)) (changed_here (with_accepted msg.view outcome) (λ _. refl)) refl refl, changed_others (with_accepted msg.view outcome) (λ _. refl)))

  pub decide_reacts : (outcome : Outcome) → msg.body ≡ Decide outcome → (last : Option Outcome) → undated (past_or_opened txn old).last ≡ last →
      ((o : Outcome) → undated (past_or_opened txn old).last ≡ Some o → old ≡ Some (past_or_opened txn old)) →
      Reacts view msg txn held old (decide_known outcome (entry_of_past (past_or_opened txn old)) now msg last)
  decide_reacts outcome is (Some o) e known = (Quiet (here ∙ sym (matched ∙ ap (option_map entry_of_past) (known o e))) refl refl, others)
  decide_reacts outcome is None e known =
      (Finishes outcome is served e (changed_here (with_last outcome) (λ _. refl)) refl refl, changed_others (with_last outcome) (λ _. refl))

-- a replica that serves the message's epoch
module _ (view : Option ReplicaView) (msg : Msg) (txn : Transaction) (held : Held) (same : txn.id ≡ msg.id) (served : serves msg.epoch view ≡ true) where
  validate_reacts : (mark : ℕ) (past : PastEntry) → msg.body ≡ ValidateBody mark → entry_of msg.id held.entries ≡ Some (entry_of_past past) → (last : Option Outcome) → undated past.last ≡ last →
      Reacts view msg txn held (Some past) (validate_known mark (entry_of_past past) held msg last)
  validate_reacts mark past body is (Some o) e = (TellsFinal past o served refl e is refl refl, λ other apart. refl)
  validate_reacts mark past body is None e = by (undated past.vote) refl
    where
      by : (vote : Option Vote) → undated past.vote ≡ vote → Reacts view msg txn held (Some past) (validate_unfinished mark held msg vote)
      by (Some vote) q = (VotesAgain mark past vote body served refl q is refl refl, λ other apart. refl)
      by None q = (Quiet refl refl refl, λ other apart. refl)

  new_others : (other : TxnId) → same_id msg.id other ≡ false → entry_of other (held.entries ++ opened txn ∷ []) ≡ entry_of other held.entries
  new_others other apart = entry_of-opened_other other txn held.entries (subst (λ (x : TxnId). same_id x other ≡ false) (sym same) apart)

  none_below : (v : ℕ) → nat_lt v 0 ≡ true → ⊥
  none_below v e = grind (arith, nat_tests)

  pub served_reacts : (body : Body) → msg.body ≡ body → (old : Option PastEntry) → entry_of msg.id held.entries ≡ option_map entry_of_past old →
      Reacts view msg txn held old (reaction txn held msg (option_map entry_of_past old) body)
  served_reacts (ValidateBody mark) is (Some past) e = validate_reacts mark past is e (undated past.last) refl
  served_reacts (ValidateBody mark) is None e = (BeginsValidation mark is served refl (entry_of-opened_as msg.id txn held.entries same e) refl refl, new_others)
  served_reacts Ask is (Some past) e =
      ask_reacts view msg txn held held (Some past) served e e (λ other apart. refl) (λ o k. refl) (λ low. refl) is (undated past.last) refl
  served_reacts Ask is None e =
      ask_reacts view msg txn held (with_entry txn held None) None served e (entry_of-opened_as msg.id txn held.entries same e) new_others (λ o k. absurd (cc k)) (λ low. absurd (none_below msg.view low)) is None refl
  served_reacts (Accept outcome) is (Some past) e =
      accept_reacts view msg txn held held (Some past) served e e (λ other apart. refl) (λ o k. refl) (λ low. refl) outcome is (undated past.last) refl
  served_reacts (Accept outcome) is None e =
      accept_reacts view msg txn held (with_entry txn held None) None served e (entry_of-opened_as msg.id txn held.entries same e) new_others (λ o k. absurd (cc k)) (λ low. absurd (none_below msg.view low)) outcome is None refl
  served_reacts (Decide outcome) is (Some past) e =
      decide_reacts view msg txn held held (Some past) served e e (λ other apart. refl) (λ o k. refl) (λ low. refl) outcome is (undated past.last) refl (λ o k. refl)
  served_reacts (Decide outcome) is None e =
      decide_reacts view msg txn held (with_entry txn held None) None served e (entry_of-opened_as msg.id txn held.entries same e) new_others (λ o k. absurd (cc k)) (λ low. absurd (none_below msg.view low)) outcome is None refl (λ o k. absurd (cc k))
  served_reacts (Voted vote) is old e = (Quiet refl refl refl, λ other apart. refl)
  served_reacts AcceptedBody is old e = (Quiet refl refl refl, λ other apart. refl)
  served_reacts (ToldBody told) is old e = (Quiet refl refl refl, λ other apart. refl)
  served_reacts (MovedBody moved) is old e = (Quiet refl refl refl, λ other apart. refl)

-- any replica; one that serves the message's epoch has in its record what is remembered
module _ (msg : Msg) (txn : Transaction) (held : Held) (same : txn.id ≡ msg.id) where
  quiet_reacts : (view : Option ReplicaView) (old : Option PastEntry) → Reacts view msg txn held old (ignored held)
  quiet_reacts view old = (Quiet refl refl refl, λ other apart. refl)

  moved_reacts : (there : ReplicaView) (old : Option PastEntry) (body : Body) → is_serving there.phase ≡ true → msg.epoch < there.epoch →
      Reacts (Some there) msg txn held old (moved_reaction there held msg body)
  moved_reacts there old (Decide outcome) p lt = quiet_reacts (Some there) old
  moved_reacts there old _ p lt = (TellsMoved there refl p lt refl refl refl, λ other apart. refl)

  pub view_reacts : (view : Option ReplicaView) (old : Option PastEntry) → (serves msg.epoch view ≡ true → entry_of msg.id held.entries ≡ option_map entry_of_past old) →
      Reacts view msg txn held old (reaction_by_view txn held msg view)
  view_reacts None old e = quiet_reacts None old
  view_reacts (Some there) old e =
      let Fine : Reaction → Type 0 = Reacts (Some there) msg txn held old in
      cond_both (not (is_serving there.phase)) _ _ Fine (λ _. quiet_reacts (Some there) old) (λ serving.
      cond_both (nat_lt there.epoch msg.epoch) _ _ Fine (λ _. quiet_reacts (Some there) old) (λ not_below.
      cond_both (nat_lt msg.epoch there.epoch) _ _ Fine (λ later. moved_reacts there old msg.body (grind (arith, serving)) (grind (arith, nat_tests, later))) (λ not_above. let p : is_serving there.phase ≡ true = grind (arith, serving) in
      let s : serves msg.epoch (Some there) ≡ true = grind (arith, nat_tests, p, not_below, not_above) in
      subst (λ (known : Option Entry). Fine (reaction txn held msg known msg.body)) (sym (e s))
      (served_reacts (Some there) msg txn held same s msg.body refl old (e s)))))
