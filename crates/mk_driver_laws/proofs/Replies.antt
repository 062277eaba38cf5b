-- What a replica does with a message: what it sends is of the message's attempt and no Validate, and a validation that begins has an act.
use Rattle.std.proofs.Common.{◌≡◌, ℕ, Bool, true, false, refl, List, [], ◌∷◌, Option, Some, None, not, nat_lt, if◌then◌else◌}
use Rattle.std.specs.Prelude.{is_some}
use Rattle.mk_lists.specs.Among.{Each}
use Rattle.mk_txn.specs.declared.TxnId.{TxnId}
use Rattle.mk_txn.specs.declared.Vote.{Vote}
use Rattle.mk_txn.specs.declared.Outcome.{Outcome}
use Rattle.mk_txn.specs.Transactions.{Transaction}
use Rattle.mk_words.specs.declared.Entry.{Entry}
use Rattle.mk_words.specs.Entries.{entry_of}
use Rattle.mk_words.specs.declared.Told.{Told}
use Rattle.mk_words.specs.declared.Moved.{Moved}
use Rattle.mk_words.specs.declared.Msg.{Msg}
use Rattle.mk_words.specs.declared.Body.{Body}
use Rattle.mk_words.specs.declared.Body.TheVariants.{Validate as ValidateBody, Voted, Accept, Accepted as AcceptedBody, Decide, Ask, Told as ToldBody, Moved as MovedBody}
use Rattle.mk_words.specs.Checks.{KeyAct}
use Rattle.mk_words.specs.Validations.{next_act, validation_of}
use Rattle.mk_trim.specs.declared.ReplicaView.{ReplicaView}
use Rattle.mk_model.specs.Conditions.{is_validate_of}
use Rattle.mk_model.specs.Replicas.{Held, Reaction, ignored, answering, finishing, is_serving, validate_unfinished, validate_known, on_validate, ask_known, accept_known, decide_known, entry_or_opened, with_entry, reaction, moved_reaction, reaction_by_view}
use Rattle.mk_driver_laws.proofs.ColumnMoves.{WasSent, WorkFits}

-- an answer to this message
pub record ReplyFits (msg m : Msg) : Type 0 where
  pub same : m.id ≡ msg.id
  pub quiet : (id : TxnId) → is_validate_of id m ≡ false

pub record ReactionFits (link : List Msg) (msg : Msg) (r : Reaction) : Type 0 where
  pub sent : Each (ReplyFits msg) r.sent
  pub work : WorkFits link r.work

pub finishing_fits : (link : List Msg) (r : ℕ) (acts : List KeyAct) → WorkFits link (finishing r acts)
finishing_fits link r [] = tt
finishing_fits link r (act ∷ acts) = tt

module _ (link : List Msg) (msg : Msg) (txn : Transaction) (w : WasSent link txn.id) (t : is_some (next_act (validation_of txn)) ≡ true) where
  ignoring : (held : Held) → ReactionFits link msg (ignored held)
  ignoring held = record { sent = tt; work = tt }

  voting : (held : Held) (vote : Vote) → ReactionFits link msg (answering held msg (Voted vote))
  voting held vote = record { sent = (record { same = refl; quiet = λ id. refl }, tt); work = tt }

  telling : (held : Held) (told : Told) → ReactionFits link msg (answering held msg (ToldBody told))
  telling held told = record { sent = (record { same = refl; quiet = λ id. refl }, tt); work = tt }

  accepting : (held : Held) → ReactionFits link msg (answering held msg AcceptedBody)
  accepting held = record { sent = (record { same = refl; quiet = λ id. refl }, tt); work = tt }

  moving : (held : Held) (moved : Moved) → ReactionFits link msg (answering held msg (MovedBody moved))
  moving held moved = record { sent = (record { same = refl; quiet = λ id. refl }, tt); work = tt }

  either : (b : Bool) (one other : Reaction) → ReactionFits link msg one → ReactionFits link msg other → ReactionFits link msg (if b then one else other)
  either true one other h k = h
  either false one other h k = k

  unfinished_fits : (mark : ℕ) (held : Held) (vote : Option Vote) → ReactionFits link msg (validate_unfinished mark held msg vote)
  unfinished_fits mark held (Some vote) = voting _ vote
  unfinished_fits mark held None = ignoring held

  known_fits : (mark : ℕ) (entry : Entry) (held : Held) (last : Option Outcome) → ReactionFits link msg (validate_known mark entry held msg last)
  known_fits mark entry held (Some outcome) = telling _ _
  known_fits mark entry held None = unfinished_fits mark held entry.vote

  validate_fits : (mark : ℕ) (held : Held) (entry : Option Entry) → ReactionFits link msg (on_validate txn mark held msg entry)
  validate_fits mark held (Some entry) = known_fits mark entry held entry.last
  validate_fits mark held None = record { sent = tt; work = (w, t) }

  ask_fits : (entry : Entry) (held : Held) (last : Option Outcome) → ReactionFits link msg (ask_known entry held msg last)
  ask_fits entry held (Some outcome) = telling _ _
  ask_fits entry held None = either (nat_lt msg.view entry.view) _ _ (ignoring held) (telling _ _)

  accept_fits : (outcome : Outcome) (entry : Entry) (held : Held) (last : Option Outcome) → ReactionFits link msg (accept_known outcome entry held msg last)
  accept_fits outcome entry held (Some before) = telling _ _
  accept_fits outcome entry held None = either (nat_lt msg.view entry.view) _ _ (ignoring held) (accepting _)

  decide_fits : (outcome : Outcome) (entry : Entry) (held : Held) (last : Option Outcome) → ReactionFits link msg (decide_known outcome entry held msg last)
  decide_fits outcome entry held (Some before) = ignoring held
  decide_fits outcome entry held None = record { sent = tt; work = finishing_fits link msg.replica _ }

  reaction_fits : (held : Held) (entry : Option Entry) (body : Body) → ReactionFits link msg (reaction txn held msg entry body)
  reaction_fits held entry (ValidateBody mark) = validate_fits mark held entry
  reaction_fits held entry Ask = let there = entry_or_opened txn entry in ask_fits there (with_entry txn held entry) there.last
  reaction_fits held entry (Accept outcome) = let there = entry_or_opened txn entry in accept_fits outcome there (with_entry txn held entry) there.last
  reaction_fits held entry (Decide outcome) = let there = entry_or_opened txn entry in decide_fits outcome there (with_entry txn held entry) there.last
  reaction_fits held entry (Voted vote) = ignoring held
  reaction_fits held entry AcceptedBody = ignoring held
  reaction_fits held entry (ToldBody told) = ignoring held
  reaction_fits held entry (MovedBody moved) = ignoring held

  moved_fits : (view : ReplicaView) (held : Held) (body : Body) → ReactionFits link msg (moved_reaction view held msg body)
  moved_fits view held (Decide outcome) = ignoring held
  moved_fits view held (ValidateBody mark) = moving held _
  moved_fits view held Ask = moving held _
  moved_fits view held (Accept outcome) = moving held _
  moved_fits view held (Voted vote) = moving held _
  moved_fits view held AcceptedBody = moving held _
  moved_fits view held (ToldBody told) = moving held _
  moved_fits view held (MovedBody moved) = moving held _

  pub by_view_fits : (held : Held) (view : Option ReplicaView) → ReactionFits link msg (reaction_by_view txn held msg view)
  by_view_fits held None = ignoring held
  by_view_fits held (Some view) =
      either (not (is_serving view.phase)) _ _ (ignoring held)
      (either (nat_lt view.epoch msg.epoch) _ _ (ignoring held)
      (either (nat_lt msg.epoch view.epoch) _ _ (moved_fits view held msg.body) (reaction_fits held (entry_of msg.id held.entries) msg.body)))
