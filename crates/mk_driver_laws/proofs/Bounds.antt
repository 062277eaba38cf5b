-- Replicas and keys stay in bounds: those of attempts, messages, entries, and of the key call that is wanted.
use Rattle.std.proofs.Common.{◌≡◌, ◌∙◌, ◌<◌, ◌≤◌, ℕ, zero, suc, ◌+◌, Bool, true, false, refl, sym, subst, ap, arith, List, [], ◌∷◌, ◌++◌, Option, Some, None, length, map, replicate, find, slice_get, slice_set, slice_index_or, if◌then◌else◌, ◌&&◌}
use Rattle.std.specs.Prelude.{nat_lt, nat_le, not, ◌==◌, ◌-◌, option_map, option_and_then}
use Rattle.std.specs.List.{list_all}
use Rattle.std.proofs.lemmas.Bool.Decides.{nat_tests}
use Rattle.mk_lists.specs.Among.{Each, Each-append, Each-weaker}
use Rattle.mk_lists.specs.Changed.{change, Each-change}
use Rattle.mk_lists.proofs.EachMember.{Each-find, Each-map}
use Rattle.mk_quorum.proofs.Slots.{passes-some}
use Rattle.mk_quorum.specs.Sizes.{members}
use Rattle.mk_quorum.specs.Slots.{passes}
use Rattle.mk_txn.specs.declared.TxnId.{TxnId}
use Rattle.mk_txn.specs.declared.Stamp.{Stamp as StampType}
use Rattle.mk_txn.specs.declared.Outcome.{Outcome}
use Rattle.mk_txn.specs.declared.Outcome.TheVariants.{Commit, Abort}
use Rattle.mk_txn.specs.declared.ReadItem.{ReadItem}
use Rattle.mk_txn.specs.declared.WriteItem.{WriteItem}
use Rattle.mk_txn.specs.declared.Conflict.{Conflict}
use Rattle.mk_txn.specs.declared.Vote.{Vote}
use Rattle.mk_txn.specs.Transactions.{Transaction, are_distinct, write_keys}
use Rattle.mk_txn.specs.Stamps.{next_stamp_of}
use Rattle.mk_trim.specs.declared.ReplicaView.{ReplicaView}
use Rattle.mk_words.specs.declared.Act.{Act}
use Rattle.mk_words.specs.declared.Act.TheVariants.{Get}
use Rattle.mk_words.specs.declared.Answer.{Answer}
use Rattle.mk_words.specs.declared.Answer.TheVariants.{Version, Okay, Refused, Done}
use Rattle.mk_words.specs.declared.Body.{Body}
use Rattle.mk_words.specs.declared.Body.TheVariants.{Validate as ValidateBody, Voted, Accept, Accepted as AcceptedBody, Decide, Ask, Told as ToldBody, Moved as MovedBody}
use Rattle.mk_words.specs.declared.Entry.{Entry}
use Rattle.mk_words.specs.declared.KeyCall.{KeyCall}
use Rattle.mk_words.specs.declared.Msg.{Msg}
use Rattle.mk_words.specs.declared.GlobalEntry.{GlobalEntry}
use Rattle.mk_words.specs.declared.GlobalLine.{GlobalLine}
use Rattle.mk_words.specs.declared.GlobalLine.TheVariants.{Wipe, Ask as AskLine, Promise, Merge, Adopt, Enter}
use Rattle.mk_words.specs.declared.Pick.{Pick}
use Rattle.mk_words.specs.declared.Pick.TheVariants.{Known, Learned as PickLearned, Propose as PickPropose, Short as PickShort, Unaccepted as PickUnaccepted, Unclear}
use Rattle.mk_words.specs.declared.Ruling.{Ruling}
use Rattle.mk_words.specs.declared.Ruling.TheVariants.{Fast, Propose, Learned, Short, Unaccepted}
use Rattle.mk_words.specs.declared.Step.{Step}
use Rattle.mk_words.specs.declared.Step.TheVariants.{Begin, Unread, Read, Stamp, Validate, Take, Key, Rule, Again, Takeover, Pick as PickStep, Stop}
use Rattle.mk_words.specs.Checks.{KeyAct, checks, commits_of, releases_of, release_of, finish_acts}
use Rattle.mk_words.specs.Entries.{with_vote, with_promise, with_accepted, change_entry, entry_of, is_entry_of, opened}
use Rattle.mk_words.specs.Links.{message, goes_to_replica}
use Rattle.mk_words.specs.Validations.{ValidationState, validation_of, next_act, next_by, first_of, rest_of, after_answer, after_by, after_left, after_check, vote_of}
use Rattle.mk_words.specs.Picks.{pick}
use Rattle.mk_words.specs.Rulings.{ruling}
use Rattle.mk_script.specs.Scripts.{ScriptParts}
use Rattle.mk_model.specs.Answers.{heard_of, takeover_answered, own_answered, takeover_heard, answer_taken, attempt_answered, is_led, listens}
use Rattle.mk_model.specs.ColumnState.{send, mark_sent, change_client, change_attempt, change_takeover, Setting, ColumnState, AttemptState, TakeoverOf, ClientState, Work, attempt_of, client_of, entries_at, is_attempt, new_column, numbers_from, takeover_of, to_all}
use Rattle.mk_model.specs.ColumnState.Work.{Idle, Fetching, Validating, Finishing}
use Rattle.mk_model.specs.Conditions.{blocked, conditions, call_at, heard_by, serves_from, wanted, writes_fit}
use Rattle.mk_model.specs.GlobalAnswers.{is_accepted}
use Rattle.mk_model.specs.Learnings.{txn_of}
use Rattle.mk_model.specs.Logs.{replica_reset, not_reading, reading_ended}
use Rattle.mk_model.specs.Replicas.{reacted, answering, changing, told_of, Held, Reaction, accept_known, accept_unfinished, ask_known, ask_unfinished, decide_known, entry_or_opened, finishing, held_at, ignored, moved_reaction, on_validate, reaction, reaction_by_view, validate_known, validate_unfinished, with_entry, is_serving}
use Rattle.mk_model.specs.Steps.{taught, proposing, read_item, voted_msg, answered, beginning, column_after, epoch_of, fetched, left_unread, on_some, picked, picking, replica_takes, ruled, sent_again, stamped, stamping, stepped, taken, taken_over, unread_attempt, new_attempt, next_id, validated, with_read, with_txn}
use Rattle.mk_history.specs.Histories.{clients_of, log_of}
use Rattle.mk_driver.specs.Driven.{Standing, PastRound, client_columns_of, first_standing, reset_by_line, reset_by_lines, round_ended, setting_in, standing_after, standing_at, standing_begun, standing_past, standing_through}
use Rattle.mk_driver_laws.specs.Enabled.{IsDone, AreDone, HasViews, WantedIsThere}
use Rattle.mk_driver_laws.proofs.Lookups.{member-slice_get}
use Rattle.mk_driver_laws.proofs.Requests.{each_at}
use Rattle.mk_model.proofs.Frames.{AllTrue-from_first_failing}

-- ---- lists

each-set : {X : Type 0} (P : X → Type 0) (k : ℕ) (y : X) → P y → (xs : List X) → Each P xs → Each P (slice_set xs k y)
each-set P k y b [] h = tt
each-set P zero y b (x ∷ xs) h = (b, h.1)
each-set P (suc k) y b (x ∷ xs) h = (h.0, each-set P k y b xs h.1)

get-below : {X : Type 0} (k : ℕ) (x : X) (xs : List X) → slice_get xs k ≡ Some x → k < length xs
get-below k x [] e = absurd (cc e)
get-below zero x (y ∷ xs) e = omega arith
get-below (suc k) x (y ∷ xs) e = let rest = get-below k x xs e in omega (arith, rest)

message-has : (P : Msg → Type 0) (number : ℕ) (msg : Msg) (link : List Msg) → Each P link → message link number ≡ Some msg → P msg
message-has P number msg link h e = by (nat_le 1 number) e
  where
    by : (b : Bool) → (if b then slice_get link (number - 1) else None) ≡ Some msg → P msg
    by true z = member-slice_get P link (number - 1) msg h z
    by false z = absurd (cc z)

-- ---- bounds of keys

abbrev IsBelow : ℕ → KeyAct → Type 0
IsBelow keys act = act.0 < keys

record TxnIn (keys : ℕ) (txn : Transaction) : Type 0 where
  reads : Each (λ (item : ReadItem). item.key < keys) txn.reads
  writes : Each (λ (item : WriteItem). item.key < keys) txn.writes

abbrev MaybeIn : ℕ → Option Transaction → Type 0
MaybeIn keys None = Unit {0}
MaybeIn keys (Some txn) = TxnIn keys txn

module _ (keys : ℕ) (txn : Transaction) (h : TxnIn keys txn) where
  acts-of : (read : ReadItem → Act) (write : WriteItem → Act) →
      Each (IsBelow keys) (map (λ (item : ReadItem). (item.key, read item)) txn.reads ++ map (λ (item : WriteItem). (item.key, write item)) txn.writes)
  acts-of read write =
      Each-append (IsBelow keys) (map (λ (item : ReadItem). (item.key, read item)) txn.reads) (map (λ (item : WriteItem). (item.key, write item)) txn.writes)
      (Each-map (λ (item : ReadItem). item.key < keys) (IsBelow keys) (λ (item : ReadItem). (item.key, read item)) (λ item k. k) txn.reads h.reads)
      (Each-map (λ (item : WriteItem). item.key < keys) (IsBelow keys) (λ (item : WriteItem). (item.key, write item)) (λ item k. k) txn.writes h.writes)

  checks-in : Each (IsBelow keys) (checks txn)
  checks-in = acts-of _ _

  commits-in : Each (IsBelow keys) (commits_of txn)
  commits-in = acts-of _ _

  releases-in : Each (IsBelow keys) (releases_of txn)
  releases-in = acts-of _ _

  finish-in : (outcome : Outcome) (voted : Bool) → Each (IsBelow keys) (finish_acts txn outcome voted)
  finish-in Commit voted = commits-in
  finish-in (Abort cause) true = releases-in
  finish-in (Abort cause) false = tt

-- ---- validations

record ValidationIn (keys : ℕ) (state : ValidationState) : Type 0 where
  passed : Each (IsBelow keys) state.passed
  left : Each (IsBelow keys) state.left
  releases : Each (IsBelow keys) state.releases

module _ (keys : ℕ) where
  first-in : (acts : List KeyAct) (act : KeyAct) → Each (IsBelow keys) acts → first_of acts ≡ Some act → IsBelow keys act
  first-in [] act h e = absurd (cc e)
  first-in (x ∷ acts) act h e = subst (IsBelow keys) (let same : x ≡ act = cc e in same) h.0

  next-in : (state : ValidationState) (act : KeyAct) → ValidationIn keys state → next_act state ≡ Some act → IsBelow keys act
  next-in state act h e = by state.refusal e
    where
      by : (refusal : Option Conflict) → next_by state refusal ≡ Some act → IsBelow keys act
      by None z = first-in state.left act h.left z
      by (Some conflict) z = first-in state.releases act h.releases z

  rest-in : (acts : List KeyAct) → Each (IsBelow keys) acts → Each (IsBelow keys) (rest_of acts)
  rest-in [] h = tt
  rest-in (act ∷ acts) h = h.1

  after-in : (state : ValidationState) (answer : Answer) → ValidationIn keys state → ValidationIn keys (after_answer state answer)
  after-in state answer h = by state.refusal
    where
      checked : (check : KeyAct) (rest : List KeyAct) → IsBelow keys check → Each (IsBelow keys) rest → (answer : Answer) → ValidationIn keys (after_check state check rest answer)
      checked check rest b r Okay =
          record { passed = Each-append (IsBelow keys) state.passed (check ∷ []) h.passed (b, tt); left = r; releases = h.releases }
      checked check rest b r (Refused reason stamp) =
          record { passed = h.passed; left = r; releases = Each-map (IsBelow keys) (IsBelow keys) release_of (λ act k. k) state.passed h.passed }
      checked check rest b r (Version version value) = h
      checked check rest b r Done = h

      left : (acts : List KeyAct) → Each (IsBelow keys) acts → ValidationIn keys (after_left state acts answer)
      left [] k = h
      left (check ∷ rest) k = checked check rest k.0 k.1 answer

      by : (refusal : Option Conflict) → ValidationIn keys (after_by state answer refusal)
      by None = left state.left h.left
      by (Some conflict) = record { passed = h.passed; left = h.left; releases = rest-in state.releases h.releases }

-- ---- columns

-- the attempt's replica while it reads, what it read, and its transaction
record AttemptIn (n keys : ℕ) (a : AttemptState) : Type 0 where
  replica : a.reading ≡ true → a.replica < n
  reads : Each (λ (item : ReadItem). item.key < keys) a.reads
  txn : MaybeIn keys a.txn

abbrev EntriesIn : ℕ → List Entry → Type 0
EntriesIn keys entries = Each (λ (entry : Entry). TxnIn keys entry.txn) entries

abbrev SentTo : ℕ → Msg → Type 0
SentTo n msg = msg.replica < n

abbrev WorkIn : ℕ → ℕ → Work → Type 0
WorkIn n keys Idle = Unit {0}
WorkIn n keys (Fetching id replica key) = (replica < n) × (key < keys)
WorkIn n keys (Validating txn replica epoch state) = (replica < n) × ValidationIn keys state
WorkIn n keys (Finishing replica acts) = (replica < n) × Each (IsBelow keys) acts

record ColumnIn (n keys : ℕ) (c : ColumnState) : Type 0 where
  attempts : Each (AttemptIn n keys) c.attempts
  link : Each (SentTo n) c.link
  records : Each (EntriesIn keys) c.records
  work : WorkIn n keys c.work

wanted-in : (n keys : ℕ) (work : Work) (call : KeyCall) → WorkIn n keys work → wanted work ≡ Some call → (call.replica < n) × (call.key < keys)
wanted-in n keys Idle call h e = absurd (cc e)
wanted-in n keys (Fetching id replica key) call h e =
    subst (λ (k : KeyCall). (k.replica < n) × (k.key < keys)) (let same : record { replica = replica; key = key; act = Get } ≡ call = cc e in same) h
wanted-in n keys (Validating txn replica epoch state) call h e = by (next_act state) refl e
  where
    by : (o : Option KeyAct) → next_act state ≡ o → option_map (call_at replica) o ≡ Some call → (call.replica < n) × (call.key < keys)
    by None q z = absurd (cc z)
    by (Some act) q z = subst (λ (k : KeyCall). (k.replica < n) × (k.key < keys)) (let same : call_at replica act ≡ call = cc z in same) (h.0, next-in keys state act h.1 q)
wanted-in n keys (Finishing replica []) call h e = absurd (cc e)
wanted-in n keys (Finishing replica (act ∷ acts)) call h e =
    subst (λ (k : KeyCall). (k.replica < n) × (k.key < keys)) (let same : call_at replica act ≡ call = cc e in same) (h.0, h.1.0)

-- ---- what is sent to all

below-all : (r m n : ℕ) → r + m ≤ n → Each (λ (k : ℕ). k < n) (numbers_from r m)
below-all r zero n e = tt
below-all r (suc m) n e = (omega (arith, e), below-all (r + 1) m n (omega (arith, e)))

all-sent : (f epoch : ℕ) (id : TxnId) (view : ℕ) (body : Body) → Each (SentTo (members f)) (to_all f epoch id view body)
all-sent f epoch id view body =
    Each-map (λ (k : ℕ). k < members f) (SentTo (members f)) (λ r. record { epoch = epoch; id = id; replica = r; view = view; body = body }) (λ k h. h)
    (numbers_from 0 (members f)) (below-all 0 (members f) (members f) (omega arith))

-- ---- reactions

record ReactionIn (n keys : ℕ) (r : Reaction) : Type 0 where
  entries : EntriesIn keys r.held.entries
  sent : Each (SentTo n) r.sent
  work : WorkIn n keys r.work

module _ (n keys : ℕ) (msg : Msg) (b : SentTo n msg) (txn : Transaction) (t : TxnIn keys txn) where
  abbrev HeldIn : Held → Type 0
  HeldIn held = EntriesIn keys held.entries

  ignored-in : (held : Held) → HeldIn held → ReactionIn n keys (ignored held)
  ignored-in held h = record { entries = h; sent = tt; work = tt }

  changed-in : (f : Entry → Entry) → ((e : Entry) → (f e).txn ≡ e.txn) → (entries : List Entry) → EntriesIn keys entries → EntriesIn keys (change_entry msg.id f entries)
  changed-in f same entries h =
      Each-change (is_entry_of msg.id) f (λ (e : Entry). TxnIn keys e.txn) (λ e _ k. subst (TxnIn keys) (sym (same e)) k) entries h

  with-in : (held : Held) (entry : Option Entry) → HeldIn held → HeldIn (with_entry txn held entry)
  with-in held (Some entry) h = h
  with-in held None h = Each-append (λ (e : Entry). TxnIn keys e.txn) held.entries (opened txn ∷ []) h (t, tt)

  validate-in : (mark : ℕ) (held : Held) (entry : Option Entry) → HeldIn held → ReactionIn n keys (on_validate txn mark held msg entry)
  validate-in mark held None h =
      record { entries = with-in held None h; sent = tt; work = (b, record { passed = tt; left = checks-in keys txn t; releases = tt }) }
  validate-in mark held (Some entry) h = by entry.last
    where
      voted : (vote : Option Vote) → ReactionIn n keys (validate_unfinished mark held msg vote)
      voted (Some vote) = record { entries = h; sent = (b, tt); work = tt }
      voted None = ignored-in held h

      by : (last : Option Outcome) → ReactionIn n keys (validate_known mark entry held msg last)
      by (Some outcome) = record { entries = h; sent = (b, tt); work = tt }
      by None = voted entry.vote

  ask-in : (entry : Entry) (held : Held) (last : Option Outcome) → HeldIn held → ReactionIn n keys (ask_known entry held msg last)
  ask-in entry held (Some outcome) h = record { entries = h; sent = (b, tt); work = tt }
  ask-in entry held None h = by (nat_lt msg.view entry.view)
    where
      by : (low : Bool) → ReactionIn n keys (if low then ignored held else answering (changing (with_promise msg.view) held msg) msg (ToldBody (told_of entry)))
      by true = ignored-in held h
      by false = record { entries = changed-in (with_promise msg.view) (λ e. refl) held.entries h; sent = (b, tt); work = tt }

  accept-in : (outcome : Outcome) (entry : Entry) (held : Held) (last : Option Outcome) → HeldIn held → ReactionIn n keys (accept_known outcome entry held msg last)
  accept-in outcome entry held (Some last) h = record { entries = h; sent = (b, tt); work = tt }
  accept-in outcome entry held None h = by (nat_lt msg.view entry.view)
    where
      by : (low : Bool) → ReactionIn n keys (if low then ignored held else answering (changing (with_accepted msg.view outcome) held msg) msg AcceptedBody)
      by true = ignored-in held h
      by false = record { entries = changed-in (with_accepted msg.view outcome) (λ e. refl) held.entries h; sent = (b, tt); work = tt }

  finishing-in : (acts : List KeyAct) → Each (IsBelow keys) acts → WorkIn n keys (finishing msg.replica acts)
  finishing-in [] h = tt
  finishing-in (act ∷ acts) h = (b, h)

  decide-in : (outcome : Outcome) (entry : Entry) (held : Held) (last : Option Outcome) → TxnIn keys entry.txn → HeldIn held → ReactionIn n keys (decide_known outcome entry held msg last)
  decide-in outcome entry held (Some last) e h = ignored-in held h
  decide-in outcome entry held None e h =
      record { entries = changed-in _ (λ x. refl) held.entries h; sent = tt; work = finishing-in _ (finish-in keys entry.txn e outcome _) }

  there-in : (entry : Option Entry) → ((e : Entry) → entry ≡ Some e → TxnIn keys e.txn) → (let e = entry_or_opened txn entry in TxnIn keys e.txn)
  there-in (Some entry) h = h entry refl
  there-in None h = t

  reaction-in : (held : Held) (entry : Option Entry) (body : Body) → HeldIn held → ((e : Entry) → entry ≡ Some e → TxnIn keys e.txn) → ReactionIn n keys (reaction txn held msg entry body)
  reaction-in held entry (ValidateBody mark) h e = validate-in mark held entry h
  reaction-in held entry Ask h e = ask-in (entry_or_opened txn entry) (with_entry txn held entry) _ (with-in held entry h)
  reaction-in held entry (Accept outcome) h e = accept-in outcome (entry_or_opened txn entry) (with_entry txn held entry) _ (with-in held entry h)
  reaction-in held entry (Decide outcome) h e = decide-in outcome (entry_or_opened txn entry) (with_entry txn held entry) _ (there-in entry e) (with-in held entry h)
  reaction-in held entry (Voted vote) h e = ignored-in held h
  reaction-in held entry AcceptedBody h e = ignored-in held h
  reaction-in held entry (ToldBody told) h e = ignored-in held h
  reaction-in held entry (MovedBody moved) h e = ignored-in held h

  moved-in : (view : ReplicaView) (held : Held) (body : Body) → HeldIn held → ReactionIn n keys (moved_reaction view held msg body)
  moved-in view held (Decide outcome) h = ignored-in held h
  moved-in view held (ValidateBody mark) h = record { entries = h; sent = (b, tt); work = tt }
  moved-in view held Ask h = record { entries = h; sent = (b, tt); work = tt }
  moved-in view held (Accept outcome) h = record { entries = h; sent = (b, tt); work = tt }
  moved-in view held (Voted vote) h = record { entries = h; sent = (b, tt); work = tt }
  moved-in view held AcceptedBody h = record { entries = h; sent = (b, tt); work = tt }
  moved-in view held (ToldBody told) h = record { entries = h; sent = (b, tt); work = tt }
  moved-in view held (MovedBody moved) h = record { entries = h; sent = (b, tt); work = tt }

  by-view-in : (held : Held) (view : Option ReplicaView) → HeldIn held → ReactionIn n keys (reaction_by_view txn held msg view)
  by-view-in held None h = ignored-in held h
  by-view-in held (Some view) h = serving (not (is_serving view.phase))
    where
      late : (low : Bool) → ReactionIn n keys (if low then moved_reaction view held msg msg.body else reaction txn held msg (entry_of msg.id held.entries) msg.body)
      late true = moved-in view held msg.body h
      late false =
          reaction-in held (entry_of msg.id held.entries) msg.body h
          (λ e q. Each-find (λ (x : Entry). TxnIn keys x.txn) (is_entry_of msg.id) held.entries e h q)

      early : (low : Bool) → ReactionIn n keys (if low then ignored held else if nat_lt msg.epoch view.epoch then moved_reaction view held msg msg.body else reaction txn held msg (entry_of msg.id held.entries) msg.body)
      early true = ignored-in held h
      early false = late (nat_lt msg.epoch view.epoch)

      serving : (off : Bool) → ReactionIn n keys (if off then ignored held else if nat_lt view.epoch msg.epoch then ignored held else if nat_lt msg.epoch view.epoch then moved_reaction view held msg msg.body else reaction txn held msg (entry_of msg.id held.entries) msg.body)
      serving true = ignored-in held h
      serving false = early (nat_lt view.epoch msg.epoch)

-- ---- what a step does

module _ (f keys : ℕ) (c : ColumnState) (h : ColumnIn (members f) keys c) where
  abbrev In : ColumnState → Type 0
  In new = ColumnIn (members f) keys new

  -- an attempt that keeps what it read and its transaction, and reads nowhere else
  record IsAlike (a b : AttemptState) : Type 0 where
    reading : b.reading ≡ true → a.reading ≡ true
    replica : b.replica ≡ a.replica
    reads : b.reads ≡ a.reads
    txn : b.txn ≡ a.txn

  alike-in : (a b : AttemptState) → IsAlike a b → AttemptIn (members f) keys a → AttemptIn (members f) keys b
  alike-in a b s k =
      record {
        replica = λ r. subst (λ (x : ℕ). x < members f) (sym s.replica) (k.replica (s.reading r));
        reads = subst (λ (xs : List ReadItem). Each (λ (item : ReadItem). item.key < keys) xs) (sym s.reads) k.reads;
        txn = subst (MaybeIn keys) (sym s.txn) k.txn;
      }

  attempt-in : (id : TxnId) (a : AttemptState) → attempt_of c id ≡ Some a → AttemptIn (members f) keys a
  attempt-in id a e = Each-find (AttemptIn (members f) keys) (is_attempt id) c.attempts a h.attempts e

  -- attempts change alike, and messages are sent to all
  alike-sent : (attempts : List AttemptState) → Each (AttemptIn (members f) keys) attempts → (new : ColumnState) → new.attempts ≡ attempts → (messages : List Msg) → Each (SentTo (members f)) messages →
      new.link ≡ c.link ++ messages → new.records ≡ c.records → new.work ≡ c.work → In new
  alike-sent attempts a new same messages m link records work =
      record {
        attempts = subst (Each (AttemptIn (members f) keys)) (sym same) a;
        link = subst (Each (SentTo (members f))) (sym link) (Each-append (SentTo (members f)) c.link messages h.link m);
        records = subst (Each (EntriesIn keys)) (sym records) h.records;
        work = subst (WorkIn (members f) keys) (sym work) h.work;
      }

  changed-all : (id : TxnId) (g : AttemptState → AttemptState) → ((a : AttemptState) → IsAlike a (g a)) → Each (AttemptIn (members f) keys) (change (is_attempt id) g c.attempts)
  changed-all id g s = Each-change (is_attempt id) g (AttemptIn (members f) keys) (λ a _ k. alike-in a (g a) (s a) k) c.attempts h.attempts

  -- only the coordinator changes
  coord-alike : (a b : AttemptState) → b.reading ≡ a.reading → b.replica ≡ a.replica → b.reads ≡ a.reads → b.txn ≡ a.txn → IsAlike a b
  coord-alike a b r p q t = record { reading = λ e. sym r ∙ e; replica = p; reads = q; txn = t }

  sent-in : (messages : List Msg) → Each (SentTo (members f)) messages → In (record c { link = c.link ++ messages })
  sent-in messages m =
      record { attempts = h.attempts; link = Each-append (SentTo (members f)) c.link messages h.link m; records = h.records; work = h.work }

  added-in : (a : AttemptState) → AttemptIn (members f) keys a → Each (AttemptIn (members f) keys) (c.attempts ++ a ∷ [])
  added-in a k = Each-append (AttemptIn (members f) keys) c.attempts (a ∷ []) h.attempts (k, tt)

  begun-in : (round : Setting) → round.faults ≡ f → length round.views ≤ members f → (client replica : ℕ) → blocked round c (Begin client replica) ≡ None → In (stepped round c (Begin client replica))
  begun-in round same few client replica enabled = by (client_of c client)
    where
      below : replica < members f
      below =
          let holds = AllTrue-from_first_failing 1 (conditions round c (Begin client replica)) enabled in
          let there = passes-some (serves_from (heard_by c client)) (slice_get round.views replica) holds.1.1.0 in
          let low = get-below replica there.0 round.views there.1 in
          omega (arith, low, few)

      by : (o : Option ClientState) → In (on_some (beginning round replica (epoch_of (slice_get round.views replica))) o c)
      by None = h
      by (Some client) =
          record {
            attempts = added-in (new_attempt round.faults (next_id client) replica (epoch_of (slice_get round.views replica))) (record { replica = λ r. below; reads = tt; txn = tt });
            link = h.link;
            records = h.records;
            work = h.work;
          }

  unread-in : (round : Setting) (client : ℕ) → In (stepped round c (Unread client))
  unread-in round client = by (client_of c client)
    where
      by : (o : Option ClientState) → In (on_some (left_unread round) o c)
      by None = h
      by (Some client) =
          record {
            attempts = added-in (unread_attempt round.faults (next_id client)) (record { replica = λ r. absurd (cc r); reads = tt; txn = tt });
            link = h.link;
            records = h.records;
            work = h.work;
          }

  below-of : (key : ℕ) → nat_lt key keys ≡ true → key < keys
  below-of key e = grind (arith, nat_tests, e)

  read-in : (round : Setting) → round.keys ≡ keys → (id : TxnId) (key : ℕ) → blocked round c (Read id key) ≡ None → In (stepped round c (Read id key))
  read-in round same id key enabled = by (attempt_of c id) refl
    where
      by : (o : Option AttemptState) → attempt_of c id ≡ o → In (on_some (λ a col. record col { work = Fetching id a.replica key }) o c)
      by None e = h
      by (Some a) e =
          let holds = AllTrue-from_first_failing 1 (conditions round c (Read id key)) enabled in
          let reading : a.reading ≡ true = ap (passes (λ (x : AttemptState). x.reading)) (sym e) ∙ holds.1.0 in
          let low : nat_lt key keys ≡ true = ap (nat_lt key) (sym same) ∙ holds.1.1.0 in
          record { attempts = h.attempts; link = h.link; records = h.records; work = ((attempt-in id a e).replica reading, below-of key low) }

  all-below : (items : List WriteItem) → list_all (λ (item : WriteItem). nat_lt item.key keys) items ≡ true → Each (λ (item : WriteItem). item.key < keys) items
  all-below [] e = tt
  all-below (item ∷ items) e = by (all-below items) (nat_lt item.key keys) refl e
    where
      by : (list_all (λ (item : WriteItem). nat_lt item.key keys) items ≡ true → Each (λ (item : WriteItem). item.key < keys) items) → (b : Bool) → nat_lt item.key keys ≡ b →
          (b && list_all (λ (item : WriteItem). nat_lt item.key keys) items) ≡ true → Each (λ (item : WriteItem). item.key < keys) (item ∷ items)
      by rest true q z = (below-of item.key q, rest z)
      by rest false q z = absurd (cc z)

  right-of : (p q : Bool) → (p && q) ≡ true → q ≡ true
  right-of true q e = e
  right-of false q e = absurd (cc e)

  stamped-in : (round : Setting) → round.keys ≡ keys → (id : TxnId) (clock : ℕ) (writes : List WriteItem) → blocked round c (Stamp id clock writes) ≡ None → In (stepped round c (Stamp id clock writes))
  stamped-in round same id clock writes enabled = by (attempt_of c id)
    where
      below : Each (λ (item : WriteItem). item.key < keys) writes
      below =
          let holds = AllTrue-from_first_failing 1 (conditions round c (Stamp id clock writes)) enabled in
          let fit : writes_fit keys writes ≡ true = ap (λ (k : ℕ). writes_fit k writes) (sym same) ∙ holds.1.1.0 in
          all-below writes (right-of (nat_le (length writes) 16 && are_distinct (write_keys writes)) (list_all (λ (item : WriteItem). nat_lt item.key keys) writes) fit)

      one : (stamp : StampType) (a : AttemptState) → AttemptIn (members f) keys a → AttemptIn (members f) keys (with_txn stamp writes a)
      one stamp a k = record { replica = λ r. absurd (cc r); reads = k.reads; txn = record { reads = k.reads; writes = below } }

      with_stamp : (id : TxnId) (s : Option StampType) → In (stamped id writes s c)
      with_stamp id None = h
      with_stamp id (Some stamp) =
          record { attempts = Each-change (is_attempt id) (with_txn stamp writes) (AttemptIn (members f) keys) (λ x _. (one stamp) x) c.attempts h.attempts; link = h.link; records = h.records; work = h.work }

      its_client : (a : AttemptState) (o : Option ClientState) → In (on_some (λ cl col. stamped a.id writes (next_stamp_of cl.number cl.last_time clock a.reads) col) o c)
      its_client a None = h
      its_client a (Some cl) = with_stamp a.id (next_stamp_of cl.number cl.last_time clock a.reads)

      by : (o : Option AttemptState) → In (on_some (stamping clock writes) o c)
      by None = h
      by (Some a) = its_client a (client_of c a.id.client)

  validate-sent : (round : Setting) → round.faults ≡ f → (id : TxnId) → In (stepped round c (Validate id))
  validate-sent round same id = by (attempt_of c id)
    where
      by : (o : Option AttemptState) → In (on_some (λ a col. send (to_all round.faults a.epoch id 0 (ValidateBody (mark_sent round col id.client))) col) o c)
      by None = h
      by (Some a) =
          let body = ValidateBody (mark_sent round c id.client) in
          sent-in (to_all round.faults a.epoch id 0 body) (subst (λ (k : ℕ). Each (SentTo (members f)) (to_all k a.epoch id 0 body)) (sym same) (all-sent f a.epoch id 0 body))

  ruled-in : (round : Setting) → round.faults ≡ f → (a : AttemptState) (r : Ruling) → In (ruled round.faults a r c)
  ruled-in round same a r = subst (λ (k : ℕ). In (ruled k a r c)) (sym same) (by r)
    where
      by : (r : Ruling) → In (ruled f a r c)
      by (Fast outcome) =
          alike-sent _ (changed-all a.id (taught outcome) (λ x. coord-alike x _ refl refl refl refl)) _ refl _ (all-sent f a.epoch a.id 0 (Decide outcome)) refl refl refl
      by (Learned outcome) =
          alike-sent _ (changed-all a.id (taught outcome) (λ x. coord-alike x _ refl refl refl refl)) _ refl _ (all-sent f a.epoch a.id 0 (Decide outcome)) refl refl refl
      by (Propose outcome) =
          alike-sent _ (changed-all a.id (proposing outcome) (λ x. coord-alike x _ refl refl refl refl)) _ refl _ (all-sent f a.epoch a.id 0 (Accept outcome)) refl refl refl
      by (Short k) = h
      by (Unaccepted k) = h

  rule-in : (round : Setting) → round.faults ≡ f → (id : TxnId) → In (stepped round c (Rule id))
  rule-in round same id = by (attempt_of c id)
    where
      by : (o : Option AttemptState) → In (on_some (λ a col. ruled round.faults a (ruling round.faults a.coord) col) o c)
      by None = h
      by (Some a) = ruled-in round same a (ruling round.faults a.coord)

  again-in : (round : Setting) → round.faults ≡ f → (id : TxnId) → In (stepped round c (Again id))
  again-in round same id = by (attempt_of c id)
    where
      with_outcome : (a : AttemptState) (o : Option Outcome) → In (on_some (λ outcome col. send (to_all round.faults a.epoch a.id 0 (Accept outcome)) col) o c)
      with_outcome a None = h
      with_outcome a (Some outcome) =
          sent-in (to_all round.faults a.epoch a.id 0 (Accept outcome)) (subst (λ (k : ℕ). Each (SentTo (members f)) (to_all k a.epoch a.id 0 (Accept outcome))) (sym same) (all-sent f a.epoch a.id 0 (Accept outcome)))

      by : (o : Option AttemptState) → In (on_some (sent_again round.faults) o c)
      by None = h
      by (Some a) = with_outcome a a.coord.proposed

  takeover-in : (round : Setting) → round.faults ≡ f → (id : TxnId) (view : ℕ) → In (stepped round c (Takeover id view))
  takeover-in round same id view = by (attempt_of c id)
    where
      one : (a : AttemptState) → In (taken_over f view a c)
      one a = alike-sent c.attempts h.attempts _ refl _ (all-sent f a.epoch a.id view Ask) refl refl refl

      by : (o : Option AttemptState) → In (on_some (taken_over round.faults view) o c)
      by None = h
      by (Some a) = subst (λ (k : ℕ). In (taken_over k view a c)) (sym same) (one a)

  pick-in : (round : Setting) → round.faults ≡ f → (id : TxnId) (view : ℕ) → In (stepped round c (PickStep id view))
  pick-in round same id view = by (attempt_of c id)
    where
      one : (a : AttemptState) (p : Pick) → In (picked f view a p c)
      one a (Known outcome) = alike-sent c.attempts h.attempts _ refl _ (all-sent f a.epoch a.id view (Decide outcome)) refl refl refl
      one a (PickLearned outcome) = alike-sent c.attempts h.attempts _ refl _ (all-sent f a.epoch a.id view (Decide outcome)) refl refl refl
      one a (PickPropose outcome) = alike-sent c.attempts h.attempts _ refl _ (all-sent f a.epoch a.id view (Accept outcome)) refl refl refl
      one a (PickShort k) = h
      one a (PickUnaccepted k) = h
      one a (Unclear ok not_ok) = h

      there : (a : AttemptState) (o : Option TakeoverOf) → In (on_some (λ t col. picked round.faults view a (pick round.faults t.state) col) o c)
      there a None = h
      there a (Some t) = subst (λ (k : ℕ). In (picked k view a (pick round.faults t.state) c)) (sym same) (one a (pick round.faults t.state))

      by : (o : Option AttemptState) → In (on_some (picking round view) o c)
      by None = h
      by (Some a) = there a (takeover_of c a.id view)

  -- ---- messages

  reacted-in : (r : ℕ) (reaction : Reaction) → ReactionIn (members f) keys reaction → In (reacted r reaction c)
  reacted-in r reaction k =
      record {
        attempts = h.attempts;
        link = Each-append (SentTo (members f)) c.link reaction.sent h.link k.sent;
        records = each-set (EntriesIn keys) r reaction.held.entries k.entries c.records h.records;
        work = k.work;
      }

  replica-in : (round : Setting) (msg : Msg) → SentTo (members f) msg → In (on_some (replica_takes round msg) (txn_of c msg.id) c)
  replica-in round msg b = by (attempt_of c msg.id) refl
    where
      stamp-in : (t : Option Transaction) → MaybeIn keys t → In (on_some (replica_takes round msg) t c)
      stamp-in None k = h
      stamp-in (Some txn) k =
          reacted-in msg.replica _
          (by-view-in (members f) keys msg b txn k (held_at c msg.replica) (slice_get round.views msg.replica) (each_at (EntriesIn keys) c.records msg.replica [] h.records tt))

      by : (o : Option AttemptState) → attempt_of c msg.id ≡ o → In (on_some (replica_takes round msg) (option_and_then (λ (a : AttemptState). a.txn) o) c)
      by None e = h
      by (Some a) e = stamp-in a.txn (attempt-in msg.id a e).txn

  -- the same but for coordinators, takeovers and clients
  coords-in : (attempts : List AttemptState) → Each (AttemptIn (members f) keys) attempts → (clients : List ClientState) (takeovers : List TakeoverOf) →
      In (record c { attempts = attempts; clients = clients; takeovers = takeovers })
  coords-in attempts a clients takeovers = record { attempts = a; link = h.link; records = h.records; work = h.work }

  answer-in : (round : Setting) (msg : Msg) → In (answer_taken round msg c)
  answer-in round msg = by (msg.view == 0)
    where
      own : (b : Bool) → In (if b then change_client msg.id.client (heard_of msg.body) (change_attempt msg.id (attempt_answered msg.replica msg.body) c) else c)
      own true = coords-in _ (changed-all msg.id (attempt_answered msg.replica msg.body) (λ x. coord-alike x _ refl refl refl refl)) _ c.takeovers
      own false = h

      led : (b : Bool) → In (if b then change_takeover msg.id msg.view (takeover_answered msg.replica msg.body) c else c)
      led true = coords-in c.attempts h.attempts c.clients _
      led false = h

      by : (b : Bool) → In (if b then own_answered msg c else takeover_heard round msg c)
      by true = own (listens (attempt_of c msg.id))
      by false = led (is_led round msg.epoch msg.view)

  take-in : (round : Setting) (number : ℕ) → In (stepped round c (Take number))
  take-in round number = by (message c.link number) refl
    where
      to : (msg : Msg) → SentTo (members f) msg → (b : Bool) → In (if b then on_some (replica_takes round msg) (txn_of c msg.id) c else answer_taken round msg c)
      to msg k true = replica-in round msg k
      to msg k false = answer-in round msg

      by : (o : Option Msg) → message c.link number ≡ o → In (on_some (taken round) o c)
      by None e = h
      by (Some msg) e = to msg (message-has (SentTo (members f)) number msg c.link h.link e) (goes_to_replica msg.body)

  -- ---- key calls

  read-more : (key : ℕ) (answer : Answer) → key < keys → (a : AttemptState) → AttemptIn (members f) keys a → AttemptIn (members f) keys (with_read key answer a)
  read-more key answer b a k =
      record { replica = k.replica; reads = Each-append (λ (item : ReadItem). item.key < keys) a.reads (read_item key answer) k.reads (item answer); txn = k.txn }
    where
      item : (answer : Answer) → Each (λ (item : ReadItem). item.key < keys) (read_item key answer)
      item (Version version value) = (b, tt)
      item Okay = tt
      item (Refused reason stamp) = tt
      item Done = tt

  validated-in : (txn : Transaction) (r epoch : ℕ) (state : ValidationState) (next : Option KeyAct) → r < members f → ValidationIn keys state → In (validated txn r epoch state next c)
  validated-in txn r epoch state (Some act) b k = record { attempts = h.attempts; link = h.link; records = h.records; work = (b, k) }
  validated-in txn r epoch state None b k =
      record {
        attempts = h.attempts;
        link = Each-append (SentTo (members f)) c.link (voted_msg txn r epoch (vote_of state) ∷ []) h.link (b, tt);
        records = each-set (EntriesIn keys) r _
            (Each-change (is_entry_of txn.id) (with_vote (vote_of state)) (λ (e : Entry). TxnIn keys e.txn) (λ e _ q. q) (entries_at c r) (each_at (EntriesIn keys) c.records r [] h.records tt))
            c.records h.records;
        work = tt;
      }

  answered-in : (answer : Answer) (work : Work) → WorkIn (members f) keys work → In (answered answer work c)
  answered-in answer Idle k = h
  answered-in answer (Fetching id replica key) k =
      record { attempts = Each-change (is_attempt id) (with_read key answer) (AttemptIn (members f) keys) (λ x _. (read-more key answer k.1) x) c.attempts h.attempts; link = h.link; records = h.records; work = tt }
  answered-in answer (Validating txn r epoch state) k =
      validated-in txn r epoch (after_answer state answer) (next_act (after_answer state answer)) k.0 (after-in keys state answer k.1)
  answered-in answer (Finishing r []) k = record { attempts = h.attempts; link = h.link; records = h.records; work = tt }
  answered-in answer (Finishing r (act ∷ [])) k = record { attempts = h.attempts; link = h.link; records = h.records; work = tt }
  answered-in answer (Finishing r (act ∷ (next ∷ acts))) k = record { attempts = h.attempts; link = h.link; records = h.records; work = (k.0, k.1.1) }

  stop-in : (id : TxnId) → In (change_attempt id (λ a. record a { stopped = true }) c)
  stop-in id = coords-in _ (changed-all id (λ a. record a { stopped = true }) (λ x. coord-alike x _ refl refl refl refl)) c.clients c.takeovers

  step-in : (round : Setting) → round.faults ≡ f → round.keys ≡ keys → length round.views ≤ members f → (step : Step) → blocked round c step ≡ None → In (stepped round c step)
  step-in round same there few (Begin client replica) e = begun-in round same few client replica e
  step-in round same there few (Unread client) e = unread-in round client
  step-in round same there few (Read id key) e = read-in round there id key e
  step-in round same there few (Stamp id clock writes) e = stamped-in round there id clock writes e
  step-in round same there few (Validate id) e = validate-sent round same id
  step-in round same there few (Take number) e = take-in round number
  step-in round same there few (Key call answer) e = answered-in answer c.work h.work
  step-in round same there few (Rule id) e = rule-in round same id
  step-in round same there few (Again id) e = again-in round same id
  step-in round same there few (Takeover id view) e = takeover-in round same id view
  step-in round same there few (PickStep id view) e = pick-in round same id view
  step-in round same there few (Stop id) e = stop-in id

  after-step-in : (round : Setting) → round.faults ≡ f → round.keys ≡ keys → length round.views ≤ members f → (step : Step) → blocked round c step ≡ None → In (column_after round c step)
  after-step-in round same there few step e =
      let k = step-in round same there few step e in
      record { attempts = k.attempts; link = k.link; records = k.records; work = k.work }

  -- ---- the end of a round

  reset-in : (r : ℕ) → In (replica_reset r c)
  reset-in r = record { attempts = h.attempts; link = h.link; records = each-set (EntriesIn keys) r [] tt c.records h.records; work = h.work }

  line-in : (line : GlobalLine) → In (reset_by_line line c)
  line-in (Wipe r) = reset-in r
  line-in (Adopt epoch r) = reset-in r
  line-in (AskLine epoch) = h
  line-in (Promise epoch r) = h
  line-in (Merge epoch) = h
  line-in (Enter epoch) = h

  ended-in : In (reading_ended c)
  ended-in =
      record {
        attempts = Each-map (AttemptIn (members f) keys) (AttemptIn (members f) keys) not_reading (λ a k. record { replica = λ r. absurd (cc r); reads = k.reads; txn = k.txn }) c.attempts h.attempts;
        link = h.link;
        records = h.records;
        work = h.work;
      }

lines-in : (f keys : ℕ) (entries : List GlobalEntry) (c : ColumnState) → ColumnIn (members f) keys c → ColumnIn (members f) keys (reset_by_lines entries c)
lines-in f keys [] c h = h
lines-in f keys (entry ∷ entries) c h = lines-in f keys entries _ (by (is_accepted entry.answer))
  where
    by : (b : Bool) → ColumnIn (members f) keys (if b then reset_by_line entry.line c else c)
    by true = line-in f keys c h entry.line
    by false = h

-- ---- all rounds

abbrev StandingIn : ScriptParts → Standing → Type 0
StandingIn script standing = let column = standing.column in ColumnIn (members script.size) (length script.keys) column

through-in : (script : ScriptParts) (views : List ReplicaView) → HasViews script views → (standing : Standing) (log : List Step) → StandingIn script standing →
    IsDone script (setting_in script views) standing log → StandingIn script (standing_through script (setting_in script views) standing log)
through-in script views few standing [] h done = h
through-in script views few standing (step ∷ steps) h done =
    through-in script views few (standing_after script (setting_in script views) standing step) steps
    (after-step-in script.size (length script.keys) standing.column h (setting_in script views) refl refl few step done.1) done.2

first-in-column : (script : ScriptParts) (c : ℕ) → StandingIn script (first_standing script c)
first-in-column script c = record { attempts = tt; link = tt; records = nothing (members script.size); work = tt }
  where
    nothing : (n : ℕ) → Each (EntriesIn (length script.keys)) (replicate n [])
    nothing zero = tt
    nothing (suc n) = (tt, nothing n)

past-in : (script : ScriptParts) (c n : ℕ) (standing : Standing) (rounds : List PastRound) → Each (λ (past : PastRound). HasViews script past.views) rounds → StandingIn script standing →
    AreDone script c n standing rounds → StandingIn script (standing_past script c n standing rounds)
past-in script c n standing [] few h done = h
past-in script c n standing (past ∷ rounds) few h done =
    let round = setting_in script past.views in
    let last = standing_through script round (standing_begun script n standing) (log_of past.round c) in
    let ended = through-in script past.views few.0 (standing_begun script n standing) (log_of past.round c) h done.0 in
    past-in script c (n + 1) (round_ended script round past.round.globals last) rounds few.1
    (ended-in script.size (length script.keys) (reset_by_lines past.round.globals last.column) (lines-in script.size (length script.keys) past.round.globals last.column ended)) done.2

pub wanted_is_there : WantedIsThere
wanted_is_there script c rounds views log come past few call e =
    let standing = standing_at script c rounds views log in
    let fits =
    through-in script views few (standing_past script c 0 (first_standing script c) rounds) log
    (past-in script c 0 (first_standing script c) rounds past (first-in-column script c) come.past) come.done in
    wanted-in (members script.size) (length script.keys) standing.column.work call fits.work e
