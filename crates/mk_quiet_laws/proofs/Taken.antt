-- What a replica has once it took a Validate or a Decide, and that this stays.
use Rattle.std.proofs.Common.{◌≡◌, ◌<◌, ◌∙◌, ℕ, Bool, true, refl, arith, sym, ap, subst, List, [], ◌∷◌, Option, Some, None, not, get_or-set_same}
use Rattle.std.specs.Prelude.{is_some, length, nat_lt, option_map, option_and_then, slice_get, if◌then◌else◌}
use Rattle.std.proofs.lemmas.Bool.Decides.{nat_tests}
use Rattle.std.proofs.lemmas.Bool.{cond_both}
use Rattle.mk_words.proofs.EntryLaws.{entry_of-change, entry_of-opened_as}
use Rattle.mk_txn.specs.declared.TxnId.{TxnId}
use Rattle.mk_txn.specs.declared.Vote.{Vote}
use Rattle.mk_txn.specs.declared.Outcome.{Outcome}
use Rattle.mk_txn.specs.Transactions.{Transaction}
use Rattle.mk_words.specs.declared.Entry.{Entry}
use Rattle.mk_words.specs.Entries.{opened, entry_of, with_last}
use Rattle.mk_words.specs.declared.Msg.{Msg}
use Rattle.mk_words.specs.declared.Body.{Body}
use Rattle.mk_words.specs.declared.Body.TheVariants.{Validate as ValidateBody, Voted, Accept, Accepted as AcceptedBody, Decide, Ask, Told as ToldBody, Moved as MovedBody}
use Rattle.mk_words.specs.Links.{message, goes_to_replica}
use Rattle.mk_trim.specs.declared.ReplicaView.{ReplicaView}
use Rattle.mk_words.specs.declared.Step.TheVariants.{Take}
use Rattle.mk_model.specs.ColumnState.{ColumnState, AttemptState, entries_at}
use Rattle.mk_model.specs.Learnings.{txn_of}
use Rattle.mk_model.specs.Replicas.{Held, Reaction, reaction, reaction_by_view, serves, is_serving, held_at, with_entry, decide_known, validate_known, validate_unfinished}
use Rattle.mk_model.specs.Steps.{stepped, taken, replica_takes, on_some}
use Rattle.mk_model.specs.Answers.{answer_taken}
use Rattle.mk_column_laws.specs.Moments.{Moment, PastEntry, Taught, StaysTaught, Event, EachHappens, after_event, moment_through, step_done, remembered, dated, past_last}
use Rattle.mk_column_laws.specs.Moments.Event.{Doing}
use Rattle.mk_column_laws.specs.Moves.{IsStampedIn}
use Rattle.mk_column_laws.specs.Facts.{Facts, Grows}
use Rattle.mk_column_laws.proofs.SortedAttempts.{message_among}
use Rattle.mk_column_laws.proofs.Growing.{grows}
use Rattle.mk_column_laws.proofs.Rounds.{event_facts, event_moves, reached_facts}
use Rattle.mk_quiet_laws.specs.Taking.{IsTaken, TakenStays}

-- ---- a reaction

-- where the replica serves the message's epoch
where_served : (P : Reaction → Type 0) (txn : Transaction) (held : Held) (msg : Msg) (view : Option ReplicaView) → serves msg.epoch view ≡ true →
    P (reaction txn held msg (entry_of msg.id held.entries) msg.body) → P (reaction_by_view txn held msg view)
where_served P txn held msg None e p = absurd (cc e)
where_served P txn held msg (Some there) e p =
    cond_both (not (is_serving there.phase)) _ _ P (λ n. absurd (grind (arith, nat_tests, e, n))) (λ _.
    cond_both (nat_lt there.epoch msg.epoch) _ _ P (λ n. absurd (grind (arith, nat_tests, e, n))) (λ _.
    cond_both (nat_lt msg.epoch there.epoch) _ _ P (λ n. absurd (grind (arith, nat_tests, e, n))) (λ _. p)))

-- what a message leaves in a record
abbrev Left : TxnId → Body → List Entry → Type 0
Left id (ValidateBody mark) entries = (e : Entry) × (entry_of id entries ≡ Some e)
Left id (Decide outcome) entries = (e : Entry) × (entry_of id entries ≡ Some e) × (is_some e.last ≡ true)
Left id _ entries = Unit {0}

module _ (txn : Transaction) (held : Held) (msg : Msg) (same : txn.id ≡ msg.id) where
  validate_keeps : (mark : ℕ) (e : Entry) → entry_of msg.id held.entries ≡ Some e → (last : Option Outcome) → Left msg.id (ValidateBody mark) (validate_known mark e held msg last).held.entries
  validate_keeps mark e k (Some o) = (e, k)
  validate_keeps mark e k None = by e.vote
    where
      by : (vote : Option Vote) → Left msg.id (ValidateBody mark) (validate_unfinished mark held msg vote).held.entries
      by (Some v) = (e, k)
      by None = (e, k)

  decide_leaves : (outcome : Outcome) (now : Held) (there : Entry) → entry_of msg.id now.entries ≡ Some there → (last : Option Outcome) → there.last ≡ last →
      Left msg.id (Decide outcome) (decide_known outcome there now msg last).held.entries
  decide_leaves outcome now there k (Some o) is = (there, k, ap is_some is)
  decide_leaves outcome now there k None is = (with_last outcome there, entry_of-change msg.id (with_last outcome) now.entries (λ _. refl) ∙ ap (option_map (with_last outcome)) k, refl)

  leaves : (b : Body) (known : Option Entry) → entry_of msg.id held.entries ≡ known → Left msg.id b (reaction txn held msg known b).held.entries
  leaves (ValidateBody mark) (Some e) k = validate_keeps mark e k e.last
  leaves (ValidateBody mark) None k = (opened txn, entry_of-opened_as msg.id txn held.entries same k)
  leaves (Decide outcome) (Some e) k = decide_leaves outcome held e k e.last refl
  leaves (Decide outcome) None k = decide_leaves outcome (with_entry txn held None) (opened txn) (entry_of-opened_as msg.id txn held.entries same k) None refl
  leaves (Voted vote) known k = tt
  leaves (Accept outcome) known k = tt
  leaves AcceptedBody known k = tt
  leaves Ask known k = tt
  leaves (ToldBody told) known k = tt
  leaves (MovedBody moved) known k = tt

-- ---- the step

module _ (taught : Taught) (m : Moment) (h : Facts taught m) (number : ℕ) (msg : Msg) (found : message m.column.link number ≡ Some msg) (served : serves msg.epoch (slice_get m.round.views msg.replica) ≡ true) where
  module _ (txn : Transaction) (is_txn : txn_of m.column msg.id ≡ Some txn) (same : txn.id ≡ msg.id) (goes : goes_to_replica msg.body ≡ true) where
    step_path : stepped m.round m.column (Take number) ≡ replica_takes m.round msg txn m.column
    step_path =
        ap (λ (o : Option Msg). on_some (taken m.round) o m.column) found
        ∙ ap (λ (b : Bool). if b then on_some (replica_takes m.round msg) (txn_of m.column msg.id) m.column else answer_taken m.round msg m.column) goes
        ∙ ap (λ (o : Option Transaction). on_some (replica_takes m.round msg) o m.column) is_txn

    left_held : Left msg.id msg.body (reaction_by_view txn (held_at m.column msg.replica) msg (slice_get m.round.views msg.replica)).held.entries
    left_held =
        where_served (λ re. Left msg.id msg.body re.held.entries) txn (held_at m.column msg.replica) msg (slice_get m.round.views msg.replica) served
        (leaves txn (held_at m.column msg.replica) msg same msg.body (entry_of msg.id (entries_at m.column msg.replica)) refl)

    left_there : Left msg.id msg.body (entries_at (step_done (Take number) m).column msg.replica)
    left_there =
        let re = reaction_by_view txn (held_at m.column msg.replica) msg (slice_get m.round.views msg.replica) in
        let within : msg.replica < length m.column.records = subst (λ (n : ℕ). msg.replica < n) (sym h.sized) (h.ranged msg (message_among m.column.link number msg found)) in
        let here : entries_at (replica_takes m.round msg txn m.column) msg.replica ≡ re.held.entries = get_or-set_same m.column.records msg.replica re.held.entries [] within in
        subst (Left msg.id msg.body) (sym (ap (λ (c : ColumnState). entries_at c msg.replica) step_path ∙ here)) left_held

  is_dated : (now : ℕ) (old : Option (Outcome × ℕ)) (last : Option Outcome) → is_some last ≡ true → is_some (dated now old last) ≡ true
  is_dated now (Some x) last e = refl
  is_dated now None (Some o) e = refl
  is_dated now None None e = absurd (cc e)

  remembers : (b : Body) → Left msg.id b (entries_at (step_done (Take number) m).column msg.replica) → IsTaken (step_done (Take number) m) msg b
  remembers (ValidateBody mark) (e, k) = (_, ap (remembered m.past.now (m.past.entries msg.replica msg.id)) k)
  remembers (Decide outcome) (e, k, last) = (_, ap (remembered m.past.now (m.past.entries msg.replica msg.id)) k, is_dated m.past.now (past_last (m.past.entries msg.replica msg.id)) e.last last)
  remembers (Voted vote) l = tt
  remembers (Accept outcome) l = tt
  remembers AcceptedBody l = tt
  remembers Ask l = tt
  remembers (ToldBody told) l = tt
  remembers (MovedBody moved) l = tt

  replica_took : goes_to_replica msg.body ≡ true → IsTaken (step_done (Take number) m) msg msg.body
  replica_took goes = by s.attempt.txn refl s.stamped
    where
      s : IsStampedIn m msg.id msg.epoch
      s = (h.messages msg (message_among m.column.link number msg found)).0

      by : (o : Option Transaction) → s.attempt.txn ≡ o → is_some o ≡ true → IsTaken (step_done (Take number) m) msg msg.body
      by None is e = absurd (cc e)
      by (Some txn) is e =
          remembers msg.body (left_there txn (ap (λ (o : Option AttemptState). option_and_then (λ (a : AttemptState). a.txn) o) s.found ∙ is) ((h.attempts msg.id s.attempt s.found).txn_id txn is) goes)

  took : (b : Body) → msg.body ≡ b → IsTaken (step_done (Take number) m) msg b
  took (ValidateBody mark) is = subst (IsTaken (step_done (Take number) m) msg) is (replica_took (ap goes_to_replica is))
  took (Decide outcome) is = subst (IsTaken (step_done (Take number) m) msg) is (replica_took (ap goes_to_replica is))
  took (Voted vote) is = tt
  took (Accept outcome) is = tt
  took AcceptedBody is = tt
  took Ask is = tt
  took (ToldBody told) is = tt
  took (MovedBody moved) is = tt

-- ---- and it stays

final_still : (m next : Moment) → Grows m next → (msg : Msg) (e : PastEntry) → m.past.entries msg.replica msg.id ≡ Some e → (last : Option (Outcome × ℕ)) → e.last ≡ last → is_some last ≡ true →
    (entry : PastEntry) × (next.past.entries msg.replica msg.id ≡ Some entry) × (is_some entry.last ≡ true)
final_still m next g msg e k None is s = absurd (cc s)
final_still m next g msg e k (Some x) is s =
    let more = g.entries msg.replica msg.id e k in
    (more.0, more.1, ap (λ (y : PastEntry). is_some y.last) (more.2.final x is) ∙ ap is_some is)

taken_still : (m next : Moment) → Grows m next → (msg : Msg) (b : Body) → IsTaken m msg b → IsTaken next msg b
taken_still m next g msg (ValidateBody mark) (e, k) = let more = g.entries msg.replica msg.id e k in (more.0, more.1)
taken_still m next g msg (Decide outcome) (e, k, last) = final_still m next g msg e k e.last refl last
taken_still m next g msg (Voted vote) t = tt
taken_still m next g msg (Accept outcome) t = tt
taken_still m next g msg AcceptedBody t = tt
taken_still m next g msg Ask t = tt
taken_still m next g msg (ToldBody told) t = tt
taken_still m next g msg (MovedBody moved) t = tt

through : (taught : Taught) → StaysTaught taught → (m : Moment) → Facts taught m → (msg : Msg) (b : Body) (events : List Event) → EachHappens taught m events → IsTaken m msg b → IsTaken (moment_through m events) msg b
through taught stays m h msg b [] happens t = t
through taught stays m h msg b (event ∷ events) happens t =
    through taught stays (after_event event m) (event_facts taught stays m h event happens.0) msg b events happens.1
    (taken_still m (after_event event m) (grows taught m (after_event event m) h (event_moves taught stays m h event happens.0)) msg b t)

pub taken_stays : TakenStays
taken_stays taught stays m reached number msg found served events happens =
    let h = reached_facts taught stays m reached in
    through taught stays (step_done (Take number) m) (event_facts taught stays m h (Doing (Take number)) happens.0) msg msg.body events happens.1
    (took taught m h number msg found served msg.body refl)
