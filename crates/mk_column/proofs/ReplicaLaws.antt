-- What the answers of a record tell of the entry that a message is about.
use Rattle.std.proofs.Common.{◌≡◌, ℕ, Bool, true, false, cond, refl, sym, ap, ◌∙◌, List, Option, Some, None}
use Rattle.std.specs.Prelude.{nat_lt, not, option_and_then}
use Rattle.std.proofs.lemmas.Bool.{cond-false, cond-true}
use Rattle.mk_txn.specs.declared.TxnId.{TxnId}
use Rattle.mk_txn.specs.declared.Outcome.{Outcome}
use Rattle.mk_txn.specs.declared.Vote.{Vote}
use Rattle.mk_txn.specs.Transactions.{Transaction}
use Rattle.mk_words.specs.declared.Entry.{Entry}
use Rattle.mk_record.specs.declared.RecordError.{RecordError}
use Rattle.mk_record.specs.declared.RecordError.TheVariants.{OldView}
use Rattle.mk_words.specs.Entries.{entry_of, with_promise, with_accepted, last_in}
use Rattle.mk_record.specs.Entries.{refusal_unless_final, refusal_of, refusal_in}
use Rattle.mk_words.specs.declared.Msg.{Msg}
use Rattle.mk_words.specs.declared.Body.{Body}
use Rattle.mk_words.specs.declared.Body.TheVariants.{Validate as ValidateBody, Voted, Accept, Accepted as AcceptedBody, Decide, Ask, Told as ToldBody, Moved as MovedBody}
use Rattle.mk_words.specs.KeptOutcomes.{known_of}
use Rattle.mk_trim.specs.declared.ReplicaView.{ReplicaView}
use Rattle.mk_model.specs.Replicas.{Held, Reaction, told_of, ignored, answering, changing, marking, on_validate, validate_known, validate_unfinished, ask_known, accept_known, decide_known, entry_or_opened, with_entry, moved_reaction, reaction, reaction_by_view, is_serving}
use Rattle.mk_column.specs.HeldByCode.{refused_with, answer_to_validate, is_decide}

-- ---- what a message does, by what the record refuses

refused_by : (view : ℕ) (id : TxnId) (entries : List Entry) (entry : Entry) (r : Option RecordError) → entry_of id entries ≡ Some entry
    → refusal_in view id entries ≡ r → refusal_of view entry ≡ r
refused_by view id entries entry r there e = sym (ap (option_and_then (refusal_of view)) there) ∙ e

-- a promise that is not refused sets the view and tells of the entry
abbrev pub ask_by : Entry → Held → Msg → Option RecordError → Reaction
ask_by entry held msg None = answering (changing (with_promise msg.view) held msg) msg (ToldBody (told_of entry))
ask_by entry held msg (Some error) = refused_with held msg (told_of entry) error

ask_known-by : (entry : Entry) (held : Held) (msg : Msg) (last : Option Outcome)
    → ask_known entry held msg last ≡ ask_by entry held msg (refusal_unless_final msg.view entry last)
ask_known-by entry held msg (Some outcome) = refl
ask_known-by entry held msg None = by_test (nat_lt msg.view entry.view)
  where
    by_test : (b : Bool)
        → cond b (ignored held) (answering (changing (with_promise msg.view) held msg) msg (ToldBody (told_of entry))) ≡ ask_by entry held msg (cond b (Some (OldView entry.view)) None)
    by_test true = refl
    by_test false = refl

pub ask_known-of : (entry : Entry) (held : Held) (msg : Msg) (r : Option RecordError) → entry_of msg.id held.entries ≡ Some entry
    → refusal_in msg.view msg.id held.entries ≡ r → ask_known entry held msg entry.last ≡ ask_by entry held msg r
ask_known-of entry held msg r there e =
    ask_known-by entry held msg entry.last ∙ ap (ask_by entry held msg) (refused_by msg.view msg.id held.entries entry r there e)

-- an accept that is not refused sets view and outcome
abbrev pub accept_by : Outcome → Entry → Held → Msg → Option RecordError → Reaction
accept_by outcome entry held msg None = answering (changing (with_accepted msg.view outcome) held msg) msg AcceptedBody
accept_by outcome entry held msg (Some error) = refused_with held msg (told_of entry) error

accept_known-by : (outcome : Outcome) (entry : Entry) (held : Held) (msg : Msg) (last : Option Outcome)
    → accept_known outcome entry held msg last ≡ accept_by outcome entry held msg (refusal_unless_final msg.view entry last)
accept_known-by outcome entry held msg (Some last) = refl
accept_known-by outcome entry held msg None = by_test (nat_lt msg.view entry.view)
  where
    by_test : (b : Bool)
        → cond b (ignored held) (answering (changing (with_accepted msg.view outcome) held msg) msg AcceptedBody) ≡ accept_by outcome entry held msg (cond b (Some (OldView entry.view)) None)
    by_test true = refl
    by_test false = refl

pub accept_known-of : (outcome : Outcome) (entry : Entry) (held : Held) (msg : Msg) (r : Option RecordError) → entry_of msg.id held.entries ≡ Some entry
    → refusal_in msg.view msg.id held.entries ≡ r
    → accept_known outcome entry held msg entry.last ≡ accept_by outcome entry held msg r
accept_known-of outcome entry held msg r there e =
    accept_known-by outcome entry held msg entry.last ∙ ap (accept_by outcome entry held msg) (refused_by msg.view msg.id held.entries entry r there e)

pub decide_known-of : (outcome : Outcome) (entry : Entry) (held : Held) (msg : Msg) (last : Option Outcome) → entry_of msg.id held.entries ≡ Some entry
    → last_in msg.id held.entries ≡ last
    → decide_known outcome entry held msg entry.last ≡ decide_known outcome entry held msg last
decide_known-of outcome entry held msg last there e =
    ap (decide_known outcome entry held msg) (sym (ap (option_and_then (λ (found : Entry). found.last)) there) ∙ e)

-- a Decide is ignored where the entry, as it is or as it is opened, is final
pub decide-final : (outcome kept : Outcome) (txn : Transaction) (old new : Held) (msg : Msg) → txn.id ≡ msg.id
    → new ≡ with_entry txn old (entry_of txn.id old.entries)
    → entry_of txn.id new.entries ≡ Some (entry_or_opened txn (entry_of txn.id old.entries)) → last_in msg.id new.entries ≡ Some kept
    → ignored new ≡ decide_known outcome (entry_or_opened txn (entry_of msg.id old.entries)) (with_entry txn old (entry_of msg.id old.entries)) msg (entry_or_opened txn (entry_of msg.id old.entries)).last
decide-final outcome kept txn old new msg same is there final =
    let of_msg : entry_of txn.id old.entries ≡ entry_of msg.id old.entries = ap (λ id. entry_of id old.entries) same in
    let found : entry_of msg.id new.entries ≡ Some (entry_or_opened txn (entry_of msg.id old.entries)) =
    ap (λ id. entry_of id new.entries) (sym same) ∙ there ∙ ap (λ o. Some (entry_or_opened txn o)) of_msg in
    let now : new ≡ with_entry txn old (entry_of msg.id old.entries) = is ∙ ap (with_entry txn old) of_msg in
    sym (decide_known-of outcome (entry_or_opened txn (entry_of msg.id old.entries)) new msg (Some kept) found final)
    ∙ ap (λ held. decide_known outcome (entry_or_opened txn (entry_of msg.id old.entries)) held msg (entry_or_opened txn (entry_of msg.id old.entries)).last) now

-- ---- a Validate, by what the entry answers

abbrev pub validate_by : ℕ → Held → Msg → Option Body → Reaction
validate_by mark held msg (Some body) = answering (marking mark held msg) msg body
validate_by mark held msg None = ignored held

validate_known-by : (mark : ℕ) (entry : Entry) (held : Held) (msg : Msg) (last : Option Outcome) (vote : Option Vote) → entry.vote ≡ vote
    → validate_known mark entry held msg last ≡ validate_by mark held msg (answer_to_validate entry last vote)
validate_known-by mark entry held msg (Some outcome) vote e = refl
validate_known-by mark entry held msg None (Some vote) e = ap (validate_unfinished mark held msg) e
validate_known-by mark entry held msg None None e = ap (validate_unfinished mark held msg) e

pub on_validate-of : (txn : Transaction) (mark : ℕ) (entry : Entry) (held : Held) (msg : Msg) (answer : Option Body) → entry_of msg.id held.entries ≡ Some entry
    → answer_to_validate entry entry.last entry.vote ≡ answer
    → on_validate txn mark held msg (entry_of msg.id held.entries) ≡ validate_by mark held msg answer
on_validate-of txn mark entry held msg answer there e =
    ap (on_validate txn mark held msg) there ∙ validate_known-by mark entry held msg entry.last entry.vote refl ∙ ap (validate_by mark held msg) e

-- ---- a replica of a later epoch

pub moved-decide : (view : ReplicaView) (held : Held) (msg : Msg) (body : Body) → is_decide body ≡ true → moved_reaction view held msg body ≡ ignored held
moved-decide view held msg (Decide outcome) e = refl
moved-decide view held msg (ValidateBody mark) e = absurd (cc e)
moved-decide view held msg (Voted vote) e = absurd (cc e)
moved-decide view held msg (Accept outcome) e = absurd (cc e)
moved-decide view held msg AcceptedBody e = absurd (cc e)
moved-decide view held msg Ask e = absurd (cc e)
moved-decide view held msg (ToldBody told) e = absurd (cc e)
moved-decide view held msg (MovedBody moved) e = absurd (cc e)

pub moved-other : (view : ReplicaView) (held : Held) (msg : Msg) (body : Body) → is_decide body ≡ false
    → moved_reaction view held msg body ≡ answering held msg (MovedBody (record { to = view.epoch; fate = known_of view.fates msg.id }))
moved-other view held msg (Decide outcome) h = absurd (cc h)
moved-other view held msg (ValidateBody mark) h = refl
moved-other view held msg (Voted vote) h = refl
moved-other view held msg (Accept outcome) h = refl
moved-other view held msg AcceptedBody h = refl
moved-other view held msg Ask h = refl
moved-other view held msg (ToldBody told) h = refl
moved-other view held msg (MovedBody moved) h = refl

-- ---- by the replica's phase and epoch

pub reaction-paused : (txn : Transaction) (held : Held) (msg : Msg) (view : ReplicaView) → is_serving view.phase ≡ false
    → reaction_by_view txn held msg (Some view) ≡ ignored held
reaction-paused txn held msg view phase = cond-true _ _ _ (ap not phase)

pub reaction-earlier : (txn : Transaction) (held : Held) (msg : Msg) (view : ReplicaView) → is_serving view.phase ≡ true → nat_lt view.epoch msg.epoch ≡ true
    → reaction_by_view txn held msg (Some view) ≡ ignored held
reaction-earlier txn held msg view phase earlier = cond-false _ _ _ (ap not phase) ∙ cond-true _ _ _ earlier

pub reaction-now : (txn : Transaction) (held : Held) (msg : Msg) (view : ReplicaView) → is_serving view.phase ≡ true → nat_lt view.epoch msg.epoch ≡ false
    → nat_lt msg.epoch view.epoch ≡ false
    → reaction_by_view txn held msg (Some view) ≡ reaction txn held msg (entry_of msg.id held.entries) msg.body
reaction-now txn held msg view phase earlier later = cond-false _ _ _ (ap not phase) ∙ cond-false _ _ _ earlier ∙ cond-false _ _ _ later
