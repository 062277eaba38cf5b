-- What a replica's reaction does to its entries and marks, and that it sends answers alone.
use Rattle.std.proofs.Common.{◌∙◌, ◌≡◌, ◌⊎◌, ℕ, Bool, true, false, refl, arith, inl, inr, sym, ap, subst, List, [], ◌∷◌, ◌++◌, Option, Some, None, not}
use Rattle.std.specs.Prelude.{nat_lt, option_map}
use Rattle.std.proofs.lemmas.Bool.Decides.{nat_tests}
use Rattle.std.proofs.lemmas.Bool.{cond_both}
use Rattle.std.proofs.lemmas.Option.{same_Some}
use Rattle.mk_lists.specs.Among.{Among}
use Rattle.mk_lists.proofs.Lookups.{find_push_cases}
use Rattle.mk_words.proofs.EntryLaws.{entry_of-change, entry_of-change_other, entry_of-opened_as}
use Rattle.mk_txn.specs.declared.TxnId.{TxnId}
use Rattle.mk_txn.specs.declared.Vote.{Vote}
use Rattle.mk_txn.specs.declared.Outcome.{Outcome}
use Rattle.mk_txn.specs.Outcomes.{is_ok_vote}
use Rattle.mk_txn.specs.Transactions.{Transaction, same_id}
use Rattle.mk_txn.proofs.IdOrder.{same_id-tells}
use Rattle.mk_words.specs.declared.Entry.{Entry}
use Rattle.mk_words.specs.Entries.{opened, entry_of, is_entry_of, change_entry, with_promise, with_accepted, with_last}
use Rattle.mk_words.specs.declared.Msg.{Msg}
use Rattle.mk_words.specs.declared.Body.{Body}
use Rattle.mk_words.specs.declared.Body.TheVariants.{Validate as ValidateBody, Voted, Accept, Accepted as AcceptedBody, Decide, Ask, Told as ToldBody, Moved as MovedBody}
use Rattle.mk_words.specs.Links.{goes_to_replica}
use Rattle.mk_quorum.specs.Slots.{passes}
use Rattle.mk_words.specs.Checks.{finish_acts}
use Rattle.mk_words.specs.Validations.{validation_of}
use Rattle.mk_words.specs.KeptOutcomes.{known_of}
use Rattle.mk_trim.specs.declared.ReplicaView.{ReplicaView}
use Rattle.mk_model.specs.ColumnState.{Work}
use Rattle.mk_model.specs.ColumnState.Work.{Idle, Validating}
use Rattle.mk_model.specs.Replicas.{finishing, Held, Reaction, reply, ignored, answering, changing, marking, told_of, reaction, reaction_by_view, moved_reaction, validate_known, validate_unfinished, ask_known, accept_known, decide_known, with_entry, is_serving, serves}
use Rattle.mk_record_laws.proofs.Shapes.{EntriesReady, EntriesMove, MarksMove, FinalKept, FinalOr}

-- what is held stays, or moves where the replica serves the message's epoch; and only answers are sent
pub record ReactionShape (view : Option ReplicaView) (msg : Msg) (held : Held) (re : Reaction) : Type 0 where
  pub holds : (re.held ≡ held) ⊎ ((serves msg.epoch view ≡ true) × EntriesMove msg.id held.entries re.held.entries × MarksMove msg held.marks re.held.marks)
  pub ends : FinalOr msg.replica held.entries re.held.entries re.work
  pub answers : (new : Msg) → Among new re.sent → goes_to_replica new.body ≡ false

-- ---- final entries

no_more_final : (r : ℕ) (old new : List Entry) (work : Work) → FinalKept old new → FinalOr r old new work
no_more_final r old new work kept id e o found last = inl (kept id e o found last)

same_final : (old : List Entry) → FinalKept old old
same_final old id e o found last = (e, found, last)

then_final : (a b c : List Entry) → FinalKept a b → FinalKept b c → FinalKept a c
then_final a b c p q id e o found last = let k = q id e o found last in p id k.0 o k.1 k.2

ready_final : (x : TxnId) (old ready : List Entry) → EntriesReady x old ready → FinalKept old ready
ready_final x old ready (inl same) id e o found last = (e, ap (entry_of id) (sym same) ∙ found, last)
ready_final x old ready (inr k) id e o found last =
    elim (find_push_cases (is_entry_of id) old (opened k.0) e (ap (entry_of id) (sym k.3) ∙ found)) [
      | inl there ↦ (e, there, last)
      | inr new ↦ absurd (let none : e.last ≡ None = subst (λ (y : Entry). y.last ≡ None) new.1.0 refl in cc (none, last))
    ]

-- what is found where one entry is changed
pub changed_found : (x id : TxnId) (f : Entry → Entry) (old : List Entry) (e : Entry) → ((y : Entry) → (f y).txn ≡ y.txn) → entry_of id (change_entry x f old) ≡ Some e →
    ((was : Entry) × (entry_of id old ≡ Some was) × (e ≡ was)) ⊎ ((x ≡ id) × ((was : Entry) × (entry_of id old ≡ Some was) × (e ≡ f was)))
changed_found x id f old e keeps found = by (same_id x id) refl
  where
    here : (o : Option Entry) → entry_of x old ≡ o → entry_of x (change_entry x f old) ≡ Some e → (was : Entry) × (entry_of x old ≡ Some was) × (e ≡ f was)
    here None none k = absurd (let n : entry_of x (change_entry x f old) ≡ None = entry_of-change x f old keeps ∙ ap (option_map f) none in cc (n, k))
    here (Some was) is k = (was, is, same_Some e (f was) (sym k ∙ entry_of-change x f old keeps ∙ ap (option_map f) is))

    by : (b : Bool) → same_id x id ≡ b → ((was : Entry) × (entry_of id old ≡ Some was) × (e ≡ was)) ⊎ ((x ≡ id) × ((was : Entry) × (entry_of id old ≡ Some was) × (e ≡ f was)))
    by true t =
        let same = same_id-tells x id t in
        let k = here (entry_of x old) refl (ap (λ (y : TxnId). entry_of y (change_entry x f old)) same ∙ found) in
        inr (same, (k.0, ap (λ (y : TxnId). entry_of y old) (sym same) ∙ k.1, k.2))
    by false t = inl (e, sym (entry_of-change_other x id f old keeps t) ∙ found, refl)

pub change_final : (x : TxnId) (f : Entry → Entry) (old : List Entry) → ((y : Entry) → (f y).txn ≡ y.txn) → ((y : Entry) → (f y).last ≡ y.last) → FinalKept old (change_entry x f old)
change_final x f old keeps lasts id e o found last =
    elim (changed_found x id f old e keeps found) [
      | inl k ↦ (k.0, k.1, ap (λ (y : Entry). y.last) (sym k.2) ∙ last)
      | inr k ↦ (k.1.0, k.1.1, sym (lasts k.1.0) ∙ ap (λ (y : Entry). y.last) (sym k.1.2) ∙ last)
    ]

-- ---- what is answered

-- one answer
one_answer : (msg : Msg) (b : Body) → goes_to_replica b ≡ false → (new : Msg) → Among new (reply msg b ∷ []) → goes_to_replica new.body ≡ false
one_answer msg b t new (inl e) = subst (λ (x : Msg). goes_to_replica x.body ≡ false) e t
one_answer msg b t new (inr none) = absurd none

module _ (view : Option ReplicaView) (msg : Msg) (txn : Transaction) (held : Held) (same : txn.id ≡ msg.id) (served : serves msg.epoch view ≡ true) where
  abbrev Right : Reaction → Type 0
  Right re = ReactionShape view msg held re

  -- what is ready stays so
  quiet : (now : Held) → EntriesReady msg.id held.entries now.entries → MarksMove msg held.marks now.marks → Right (ignored now)
  quiet now p k =
      record {
        holds = inr (served, (now.entries, p, inl refl), k);
        ends = no_more_final msg.replica held.entries now.entries Idle (ready_final msg.id held.entries now.entries p);
        answers = λ new a. absurd a;
      }

  -- one answer is sent, with what is ready
  answered : (now : Held) → EntriesReady msg.id held.entries now.entries → MarksMove msg held.marks now.marks → (b : Body) → goes_to_replica b ≡ false → Right (answering now msg b)
  answered now p k b t =
      record {
        holds = inr (served, (now.entries, p, inl refl), k);
        ends = no_more_final msg.replica held.entries now.entries Idle (ready_final msg.id held.entries now.entries p);
        answers = one_answer msg b t;
      }

  -- or with what is changed
  changes : (now : Held) → EntriesReady msg.id held.entries now.entries → now.marks ≡ held.marks → (f : Entry → Entry) → ((e : Entry) → (f e).txn ≡ e.txn) → ((e : Entry) → (f e).last ≡ e.last) →
      (b : Body) → goes_to_replica b ≡ false → Right (answering (changing f now msg) msg b)
  changes now p k f keeps lasts b t =
      record {
        holds = inr (served, (now.entries, p, inr (f, keeps, refl)), inl k);
        ends = no_more_final msg.replica held.entries (change_entry msg.id f now.entries) Idle
            (then_final held.entries now.entries (change_entry msg.id f now.entries) (ready_final msg.id held.entries now.entries p) (change_final msg.id f now.entries keeps lasts));
        answers = one_answer msg b t;
      }

  ask_right : (now : Held) → EntriesReady msg.id held.entries now.entries → now.marks ≡ held.marks → (there : Entry) (last : Option Outcome) → Right (ask_known there now msg last)
  ask_right now p k there (Some o) = answered now p (inl k) (ToldBody (told_of there)) refl
  ask_right now p k there None =
      cond_both (nat_lt msg.view there.view) (ignored now) (answering (changing (with_promise msg.view) now msg) msg (ToldBody (told_of there))) Right (λ _. quiet now p (inl k)) (λ _. changes now p k (with_promise msg.view) (λ _. refl) (λ _. refl) (ToldBody (told_of there)) refl)

  accept_right : (now : Held) → EntriesReady msg.id held.entries now.entries → now.marks ≡ held.marks → (outcome : Outcome) (there : Entry) (last : Option Outcome) →
      Right (accept_known outcome there now msg last)
  accept_right now p k outcome there (Some o) = answered now p (inl k) (ToldBody (told_of there)) refl
  accept_right now p k outcome there None =
      cond_both (nat_lt msg.view there.view) (ignored now) (answering (changing (with_accepted msg.view outcome) now msg) msg AcceptedBody) Right (λ _. quiet now p (inl k)) (λ _. changes now p k (with_accepted msg.view outcome) (λ _. refl) (λ _. refl) AcceptedBody refl)

  -- what becomes final begins its end at the keys
  decide_ends : (now : Held) → EntriesReady msg.id held.entries now.entries → (outcome : Outcome) (there : Entry) → entry_of msg.id now.entries ≡ Some there →
      FinalOr msg.replica held.entries (change_entry msg.id (with_last outcome) now.entries) (finishing msg.replica (finish_acts there.txn outcome (passes is_ok_vote there.vote)))
  decide_ends now p outcome there here id e o found last =
      elim (changed_found msg.id id (with_last outcome) now.entries e (λ _. refl) found) [
        | inl k ↦ inl (ready_final msg.id held.entries now.entries p id k.0 o k.1 (ap (λ (y : Entry). y.last) (sym k.2) ∙ last))
        | inr k ↦ inr (by k.1.0 (same_Some k.1.0 there (sym k.1.1 ∙ ap (λ (x : TxnId). entry_of x now.entries) (sym k.0) ∙ here)) k.1.2)
      ]
    where
      by : (was : Entry) → was ≡ there → e ≡ with_last outcome was →
          finishing msg.replica (finish_acts there.txn outcome (passes is_ok_vote there.vote)) ≡ finishing msg.replica (finish_acts e.txn o (passes is_ok_vote e.vote))
      by was same is =
          let new : with_last outcome there ≡ e = ap (with_last outcome) (sym same) ∙ sym is in
          let told : outcome ≡ o = same_Some outcome o (ap (λ (y : Entry). y.last) new ∙ last) in
          (λ i. finishing msg.replica (finish_acts (new i).txn (told i) (passes is_ok_vote (new i).vote)))

  decide_right : (now : Held) → EntriesReady msg.id held.entries now.entries → now.marks ≡ held.marks → (outcome : Outcome) (there : Entry) → entry_of msg.id now.entries ≡ Some there → (last : Option Outcome) →
      Right (decide_known outcome there now msg last)
  decide_right now p k outcome there here (Some o) = quiet now p (inl k)
  decide_right now p k outcome there here None =
      record {
        holds = inr (served, (now.entries, p, inr (with_last outcome, (λ _. refl), refl)), inl k);
        ends = decide_ends now p outcome there here;
        answers = λ new a. absurd a;
      }

  voted_right : (mark : ℕ) → msg.body ≡ ValidateBody mark → (vote : Option Vote) → Right (validate_unfinished mark held msg vote)
  voted_right mark is (Some vote) = answered (marking mark held msg) (inl refl) (inr (mark, is, refl)) (Voted vote) refl
  voted_right mark is None = quiet held (inl refl) (inl refl)

  validate_right : (mark : ℕ) → msg.body ≡ ValidateBody mark → (entry : Entry) (last : Option Outcome) → Right (validate_known mark entry held msg last)
  validate_right mark is entry (Some o) = answered (marking mark held msg) (inl refl) (inr (mark, is, refl)) (ToldBody (told_of entry)) refl
  validate_right mark is entry None = voted_right mark is entry.vote

  served_right : (b : Body) → msg.body ≡ b → (known : Option Entry) → entry_of msg.id held.entries ≡ known → Right (reaction txn held msg known b)
  served_right (ValidateBody mark) is (Some e) k = validate_right mark is e e.last
  served_right (ValidateBody mark) is None k =
      let ready : EntriesReady msg.id held.entries (held.entries ++ opened txn ∷ []) = inr (txn, same, k, refl) in
      record {
        holds = inr (served, (held.entries ++ opened txn ∷ [], ready, inl refl), inr (mark, is, refl));
        ends = no_more_final msg.replica held.entries (held.entries ++ opened txn ∷ []) (Validating txn msg.replica msg.epoch (validation_of txn)) (ready_final msg.id held.entries (held.entries ++ opened txn ∷ []) ready);
        answers = λ new a. absurd a;
      }
  served_right Ask is (Some e) k = ask_right held (inl refl) refl e e.last
  served_right Ask is None k = ask_right (with_entry txn held None) (inr (txn, same, k, refl)) refl (opened txn) None
  served_right (Accept outcome) is (Some e) k = accept_right held (inl refl) refl outcome e e.last
  served_right (Accept outcome) is None k = accept_right (with_entry txn held None) (inr (txn, same, k, refl)) refl outcome (opened txn) None
  served_right (Decide outcome) is (Some e) k = decide_right held (inl refl) refl outcome e k e.last
  served_right (Decide outcome) is None k = decide_right (with_entry txn held None) (inr (txn, same, k, refl)) refl outcome (opened txn) (entry_of-opened_as msg.id txn held.entries same k) None
  served_right (Voted vote) is known k = quiet held (inl refl) (inl refl)
  served_right AcceptedBody is known k = quiet held (inl refl) (inl refl)
  served_right (ToldBody told) is known k = quiet held (inl refl) (inl refl)
  served_right (MovedBody moved) is known k = quiet held (inl refl) (inl refl)

module _ (msg : Msg) (txn : Transaction) (held : Held) (same : txn.id ≡ msg.id) where
  aside : (view : Option ReplicaView) → ReactionShape view msg held (ignored held)
  aside view = record { holds = inl refl; ends = no_more_final msg.replica held.entries held.entries Idle (same_final held.entries); answers = λ new a. absurd a }

  moved_right : (there : ReplicaView) (b : Body) → ReactionShape (Some there) msg held (moved_reaction there held msg b)
  moved_right there (Decide outcome) = aside (Some there)
  moved_right there _ =
      record {
        holds = inl refl;
        ends = no_more_final msg.replica held.entries held.entries Idle (same_final held.entries);
        answers = one_answer msg (MovedBody (record { to = there.epoch; fate = known_of there.fates msg.id })) refl;
      }

  pub view_right : (view : Option ReplicaView) → ReactionShape view msg held (reaction_by_view txn held msg view)
  view_right None = aside None
  view_right (Some there) =
      let Fine : Reaction → Type 0 = ReactionShape (Some there) msg held in
      cond_both (not (is_serving there.phase)) _ _ Fine (λ _. aside (Some there)) (λ serving.
      cond_both (nat_lt there.epoch msg.epoch) _ _ Fine (λ _. aside (Some there)) (λ not_below.
      cond_both (nat_lt msg.epoch there.epoch) _ _ Fine (λ later. moved_right there msg.body) (λ not_above. let p : is_serving there.phase ≡ true = grind (arith, serving) in
      let s : serves msg.epoch (Some there) ≡ true = grind (arith, nat_tests, p, not_below, not_above) in
      served_right (Some there) msg txn held same s msg.body refl (entry_of msg.id held.entries) refl)))
