-- When a step is enabled: the conditions of each step, in their order.
use Rattle.std.specs.Prelude.{ℕ, ◌+◌, ◌^◌, Bool, true, false, not, ◌&&◌, ◌==◌, nat_lt, nat_le, List, [], ◌∷◌, length, Option, Some, None, slice_get, is_some, is_none, option_map}
use Rattle.std.specs.List.{list_any, list_all}
use Rattle.mk_txn.specs.declared.TxnId.{TxnId}
use Rattle.mk_txn.specs.declared.WriteItem.{WriteItem}
use Rattle.mk_txn.specs.Stamps.{next_stamp_of}
use Rattle.mk_txn.specs.Transactions.{same_id, are_distinct, write_keys}
use Rattle.mk_words.specs.declared.Act.{Act}
use Rattle.mk_words.specs.declared.Act.TheVariants.{Get}
use Rattle.mk_words.specs.Acts.{answer_fits, same_act}
use Rattle.mk_words.specs.declared.Msg.{Msg}
use Rattle.mk_words.specs.declared.Body.{Body}
use Rattle.mk_words.specs.declared.Body.TheVariants.{Validate as ValidateBody}
use Rattle.mk_words.specs.Links.{message}
use Rattle.mk_words.specs.Validations.{next_act}
use Rattle.mk_quorum.specs.Slots.{passes}
use Rattle.mk_words.specs.declared.Ruling.{Ruling}
use Rattle.mk_words.specs.declared.Ruling.TheVariants.{Short, Unaccepted}
use Rattle.mk_words.specs.Rulings.{ruling}
use Rattle.mk_words.specs.declared.Pick.{Pick}
use Rattle.mk_words.specs.declared.Pick.TheVariants.{Short as PickShort, Unaccepted as PickUnaccepted, Unclear}
use Rattle.mk_words.specs.Picks.{pick}
use Rattle.mk_trim.specs.declared.ReplicaView.{ReplicaView}
use Rattle.mk_words.specs.declared.KeyCall.{KeyCall}
use Rattle.mk_words.specs.declared.Step.{Step}
use Rattle.mk_words.specs.declared.Step.TheVariants.{Begin, Unread, Read, Stamp, Validate, Take, Key, Rule, Again, Takeover, Pick as PickStep, Stop}
use Rattle.mk_model.specs.ColumnState.{Setting, ColumnState, AttemptState, ClientState, Work, client_of, attempt_of, takeover_of}
use Rattle.mk_model.specs.ColumnState.Work.{Idle, Fetching, Validating, Finishing}
use Rattle.mk_model.specs.Replicas.{is_serving}
use Rattle.mk_model.specs.Answers.{is_led}

-- no key call is under way
abbrev pub is_idle : Work → Bool
is_idle Idle = true
is_idle _ = false

-- an act at a key of this replica
abbrev pub call_at : ℕ → ℕ × Act → KeyCall
call_at r act = record { replica = r; key = act.0; act = act.1 }

-- the key call that is wanted
abbrev pub wanted : Work → Option KeyCall
wanted (Fetching id replica key) = Some (record { replica = replica; key = key; act = Get })
wanted (Validating txn replica epoch state) = option_map (call_at replica) (next_act state)
wanted (Finishing replica (act ∷ acts)) = Some (call_at replica act)
wanted _ = None

-- whether two key calls are equal
abbrev pub same_call : KeyCall → KeyCall → Bool
same_call a b = a.replica == b.replica && a.key == b.key && same_act a.act b.act

-- the replica serves this epoch or a later one
abbrev pub serves_from : ℕ → ReplicaView → Bool
serves_from epoch view = is_serving view.phase && nat_le epoch view.epoch

-- the highest epoch that the client has heard of
abbrev pub heard_by : ColumnState → ℕ → ℕ
heard_by column client = heard_in (client_of column client)
  where
    heard_in : Option ClientState → ℕ
    heard_in (Some client) = client.heard
    heard_in None = 0

-- the client is of this column, and no attempt of it is reading
abbrev pub may_begin : ColumnState → ℕ → Bool
may_begin column client =
    is_some (client_of column client) && not (list_any (λ a. a.reading && a.id.client == client) column.attempts)

-- the client's next place is one that an attempt can have
abbrev pub has_seq_left : ColumnState → ℕ → Bool
has_seq_left column client = passes (λ c. nat_le c.next_seq 16384) (client_of column client)

-- the attempt is there and passes
abbrev pub on_attempt : ColumnState → TxnId → (AttemptState → Bool) → Bool
on_attempt column id test = passes test (attempt_of column id)

-- the attempt has its transaction
abbrev pub is_stamped : AttemptState → Bool
is_stamped attempt = is_some attempt.txn

-- the key was not read yet, and fewer than 16 were
abbrev pub may_read : ℕ → AttemptState → Bool
may_read key attempt = not (list_any (λ item. item.key == key) attempt.reads) && nat_lt (length attempt.reads) 16

-- at most 16 writes of different keys, each of which there is
abbrev pub writes_fit : ℕ → List WriteItem → Bool
writes_fit keys writes =
    nat_le (length writes) 16 && are_distinct (write_keys writes) && list_all (λ item. nat_lt item.key keys) writes

-- the attempt's stamp at this clock is not beyond the last time
abbrev pub stamp_exists : ColumnState → AttemptState → ℕ → Bool
stamp_exists column attempt clock =
    passes (λ c. is_some (next_stamp_of c.number c.last_time clock attempt.reads)) (client_of column attempt.id.client)

-- the message is a Validate of this attempt
abbrev pub is_validate_of : TxnId → Msg → Bool
is_validate_of id msg = is_validate msg.body && same_id msg.id id
  where
    is_validate : Body → Bool
    is_validate (ValidateBody mark) = true
    is_validate _ = false

-- there is something to do by the ruling
abbrev pub acts_on : Ruling → Bool
acts_on (Short k) = false
acts_on (Unaccepted k) = false
acts_on _ = true

-- there is something to do by the pick
abbrev pub picks_one : Pick → Bool
picks_one (PickShort k) = false
picks_one (PickUnaccepted k) = false
picks_one (Unclear ok not_ok) = false
picks_one _ = true

-- the replica that leads the view serves the attempt's epoch
abbrev pub leader_serves : Setting → ColumnState → TxnId → ℕ → Bool
leader_serves round column id view = on_attempt column id (λ a. is_led round a.epoch view)

-- the first condition: a Key step is the wanted call, and for any other none is wanted
abbrev pub first_condition : ColumnState → Step → Bool
first_condition column (Key call answer) = passes (same_call call) (wanted column.work)
first_condition column _ = is_idle column.work

-- the conditions beyond the first, in their order
abbrev pub further_conditions : Setting → ColumnState → Step → List Bool
further_conditions round column (Begin client replica) =
    may_begin column client ∷ (passes (serves_from (heard_by column client)) (slice_get round.views replica) ∷ (has_seq_left column client ∷ []))
further_conditions round column (Unread client) =
    may_begin column client ∷ (not (list_any (serves_from (heard_by column client)) round.views) ∷ (has_seq_left column client ∷ []))
further_conditions round column (Read id key) =
    on_attempt column id (λ a. a.reading) ∷ (nat_lt key round.keys ∷ (on_attempt column id (may_read key) ∷ []))
further_conditions round column (Stamp id clock writes) =
    on_attempt column id (λ a. a.reading) ∷ (writes_fit round.keys writes
    ∷ ((nat_le clock (2 ^ 61) && on_attempt column id (λ a. stamp_exists column a clock))
    ∷ (on_attempt column id (λ a. nat_lt 0 (length a.reads + length writes)) ∷ [])))
further_conditions round column (Validate id) =
    on_attempt column id is_stamped ∷ (on_attempt column id (λ a. not a.stopped)
    ∷ (on_attempt column id (λ a. is_none a.coord.proposed && is_none a.coord.learned) ∷ []))
further_conditions round column (Take number) = is_some (message column.link number) ∷ []
further_conditions round column (Key call answer) = answer_fits call.act answer ∷ []
further_conditions round column (Rule id) =
    on_attempt column id is_stamped ∷ (on_attempt column id (λ a. not a.stopped) ∷ (on_attempt column id (λ a. is_none a.coord.learned)
    ∷ (on_attempt column id (λ a. acts_on (ruling round.faults a.coord)) ∷ [])))
further_conditions round column (Again id) =
    on_attempt column id is_stamped ∷ (on_attempt column id (λ a. not a.stopped)
    ∷ (on_attempt column id (λ a. is_some a.coord.proposed && is_none a.coord.learned) ∷ []))
further_conditions round column (Takeover id view) =
    list_any (is_validate_of id) column.link
    ∷ ((nat_le 1 view && nat_le view 15 && is_none (takeover_of column id view)) ∷ (leader_serves round column id view ∷ []))
further_conditions round column (PickStep id view) =
    passes (λ t. not t.closed) (takeover_of column id view) ∷ (leader_serves round column id view
    ∷ (passes (λ t. picks_one (pick round.faults t.state)) (takeover_of column id view) ∷ []))
further_conditions round column (Stop id) =
    on_attempt column id is_stamped ∷ (on_attempt column id (λ a. not a.stopped && is_none a.coord.learned) ∷ [])

-- all conditions of a step, in their order
abbrev pub conditions : Setting → ColumnState → Step → List Bool
conditions round column step = first_condition column step ∷ further_conditions round column step

-- the number of the first condition that fails, counted from k
abbrev pub first_failing : ℕ → List Bool → Option ℕ
first_failing k [] = None
first_failing k (true ∷ tests) = first_failing (k + 1) tests
first_failing k (false ∷ tests) = Some k

-- none where the step is enabled, and else the number of its first condition that fails
abbrev pub blocked : Setting → ColumnState → Step → Option ℕ
blocked round column step = first_failing 1 (conditions round column step)
