-- What a quiet driver's clients ask for is what their own lines ask for, so the keys that attempts come to are their clients'.
use Rattle.std.proofs.Common.{◌≡◌, refl, sym, subst, inl, inr, ℕ, zero, suc, ◌+◌, ◌-◌, Bool, true, false, List, [], ◌∷◌, ◌++◌, map, length, Option, Some, None, if◌then◌else◌}
use Rattle.std.specs.Prelude.{filter, find, is_none, replicate, slice_get, slice_set, ◌==◌, ◌&&◌, not}
use Rattle.mk_lists.specs.Among.{Among, Each, Each-append, Each-weaker}
use Rattle.mk_lists.specs.Changed.{Each-change}
use Rattle.mk_txn.specs.declared.TxnId.{TxnId}
use Rattle.mk_txn.specs.declared.Outcome.{Outcome}
use Rattle.mk_txn.specs.declared.Outcome.TheVariants.{Commit, Abort}
use Rattle.mk_quorum.specs.Slots.{passes}
use Rattle.mk_words.specs.declared.Msg.{Msg}
use Rattle.mk_words.specs.Links.{message}
use Rattle.mk_words.specs.declared.Ruling.{Ruling}
use Rattle.mk_words.specs.declared.Ruling.TheVariants.{Fast, Propose, Learned, Short, Unaccepted}
use Rattle.mk_words.specs.Rulings.{CoordState, ruling}
use Rattle.mk_script.specs.declared.lines.ClientLine.{ClientLine}
use Rattle.mk_script.specs.declared.lines.Point.{Point}
use Rattle.mk_script.specs.declared.lines.Point.TheVariants.{Read as AfterRead, Votes as AfterVotes, Accepts as AfterAccepts}
use Rattle.mk_script.specs.declared.lines.Fate.{Fate}
use Rattle.mk_script.specs.declared.lines.Fate.TheVariants.{Deliver as DeliverFate, Lose, Twice, Late as LateFate, NextRound}
use Rattle.mk_faults.specs.Fates.{RuleLines, fate_at, stop_of}
use Rattle.mk_client.specs.Wanted.{next_wanted, wanted_keys, keys_after, is_fetched}
use Rattle.mk_words.specs.declared.KeyCall.{KeyCall}
use Rattle.mk_words.specs.declared.Step.TheVariants.{Read as ReadStep, Stamp as StampStep, Rule, Takeover as TakeoverStep, Pick, Stop}
use Rattle.mk_model.specs.ColumnState.{Setting, ColumnState, AttemptState, ClientState, attempt_of, client_of, numbers_from}
use Rattle.mk_model.specs.Conditions.{blocked, wanted}
use Rattle.mk_driver.specs.declared.DriverState.{DriverState}
use Rattle.mk_driver.specs.declared.Caller.{Caller}
use Rattle.mk_driver.specs.declared.Request.{Request}
use Rattle.mk_driver.specs.declared.Stage.{Stage}
use Rattle.mk_driver.specs.declared.Submission.{Submission}
use Rattle.mk_driver.specs.declared.Part.{Part}
use Rattle.mk_driver.specs.declared.Task.{Task}
use Rattle.mk_driver.specs.declared.Task.TheVariants.{Deliver, DeliverSince, Take, Notice, Fetch, Reach, Resume, Turns, Takeover, Late, Settle, SettleTakeover}
use Rattle.mk_driver.specs.Agenda.{Worked, asked, change_caller, is_caller, put_trial, trial_by, trial_in, trial_of, with_held, with_late, with_late_by}
use Rattle.mk_driver.specs.Agenda.Worked.{Quiet, Names}
use Rattle.mk_driver.specs.Delivery.{by_fate, delivering, done_with, noticed, own_learned, retries_after, taking_by, taking_late, tried_again, with_tries}
use Rattle.mk_driver.specs.Driven.{asked_more, callers_from, is_submission_of}
use Rattle.mk_driver.specs.Passes.{after_passes, after_turn, in_pass}
use Rattle.mk_driver.specs.Settling.{resume_by, resume_if, resume_with, settle_by, settle_takeover_by, takeover_by, was_validated}
use Rattle.mk_driver.specs.Stages.{Turn, after_request, at_stage, begin_by, begin_next, begin_of, begun, closed_by, fetch_by, fetching, left, next_request, reach_by, reader_for, resting, ruled_by, same_point, stage_after, stage_four, stage_three, stopping, turn_by, turn_of, without_request, without_request_by}
use Rattle.mk_driver.specs.Stages.Turn.{Nothing, Silent, Steps}
use Rattle.mk_driver.specs.Turns.{Choice, choice, in_agenda, in_parts, or_next, tasks_of, unless_wanted, with_agenda, with_part, work_on}
use Rattle.std.proofs.lemmas.Bool.{eqb-true}
use Rattle.std.proofs.lemmas.Option.{same_Some}
use Rattle.mk_txn.specs.declared.ReadItem.{ReadItem}
use Rattle.mk_txn.specs.declared.WriteItem.{WriteItem}
use Rattle.mk_txn.specs.declared.Value.{Value}
use Rattle.mk_txn.specs.declared.Value.TheVariants.{Number, Absent}
use Rattle.mk_proc.specs.declared.Item.{Item}
use Rattle.mk_proc.specs.declared.Item.TheVariants.{Read, Write, Compute, Delete}
use Rattle.mk_proc.specs.Items.{key_of}
use Rattle.mk_proc.specs.Procedures.{proc_value}
use Rattle.mk_client.specs.Computed.{Buffer, put, after_item, after_items, empty_buffer, writes_of}
use Rattle.mk_script.specs.declared.lines.TxnLine.{TxnLine}
use Rattle.mk_driver.specs.declared.Next.{Next}
use Rattle.mk_driver.specs.declared.Next.TheVariants.{Step as StepNext}
use Rattle.mk_driver_laws.proofs.ClientTurns.{kept_by}
use Rattle.mk_quiet_laws.specs.Sequence.{IsClientsKey}
use Rattle.mk_words.specs.declared.Step.{Step}

-- ---- the keys of items

wanted_after : (earlier items : List Item) (k key : ℕ) → slice_get (keys_after earlier items) k ≡ Some key → Among key (map key_of items)
wanted_after earlier [] k key e = absurd (cc e)
wanted_after earlier (item ∷ items) k key e = by (λ j z. wanted_after (earlier ++ item ∷ []) items j key z) (is_fetched earlier item) k e
  where
    by : ((j : ℕ) → slice_get (keys_after (earlier ++ item ∷ []) items) j ≡ Some key → Among key (map key_of items)) → (b : Bool) → (j : ℕ) →
        slice_get (if b then key_of item ∷ keys_after (earlier ++ item ∷ []) items else keys_after (earlier ++ item ∷ []) items) j ≡ Some key → Among key (map key_of (item ∷ items))
    by again true zero z = inl (same_Some (key_of item) key z)
    by again true (suc j) z = inr (again j z)
    by again false j z = inr (again j z)

pub wanted_named : (items : List Item) (k key : ℕ) → slice_get (wanted_keys items) k ≡ Some key → Among key (map key_of items)
wanted_named items k key e = wanted_after [] items k key e

put_named : (P : ℕ → Type 0) (key : ℕ) (value : Value) (writes : List WriteItem) → P key → Each (λ (item : WriteItem). P item.key) writes → Each (λ (item : WriteItem). P item.key) (put key value writes)
put_named P key value [] p h = (p, tt)
put_named P key value (item ∷ items) p h = by (item.key == key) (put_named P key value items p h.1)
  where
    by : (b : Bool) → Each (λ (x : WriteItem). P x.key) (put key value items) → Each (λ (x : WriteItem). P x.key) (if b then record item { value = value } ∷ items else item ∷ put key value items)
    by true rest = (h.0, h.1)
    by false rest = (h.0, rest)

items_named : (P : ℕ → Type 0) (reads : List ReadItem) (buffer : Buffer) (items : List Item) → ((key : ℕ) → Among key (map key_of items) → P key) → Each (λ (item : WriteItem). P item.key) buffer.writes →
    Each (λ (item : WriteItem). P item.key) ((after_items reads buffer items).writes)
items_named P reads buffer [] p h = h
items_named P reads buffer (Read key ∷ items) p h = items_named P reads (after_item reads buffer (Read key)) items (λ k a. p k (inr a)) h
items_named P reads buffer (Write key value ∷ items) p h = items_named P reads (after_item reads buffer (Write key value)) items (λ k a. p k (inr a)) (put_named P key (Number value) buffer.writes (p key (inl refl)) h)
items_named P reads buffer (Compute key proc arg ∷ items) p h =
    items_named P reads (after_item reads buffer (Compute key proc arg)) items (λ k a. p k (inr a)) (put_named P key (Number (proc_value proc buffer.values arg)) buffer.writes (p key (inl refl)) h)
items_named P reads buffer (Delete key ∷ items) p h = items_named P reads (after_item reads buffer (Delete key)) items (λ k a. p k (inr a)) (put_named P key Absent buffer.writes (p key (inl refl)) h)

pub writes_named : (items : List Item) (reads : List ReadItem) → Each (λ (item : WriteItem). Among item.key (map key_of items)) (writes_of items reads)
writes_named items reads = items_named (λ key. Among key (map key_of items)) reads empty_buffer items (λ key a. a) tt

module _ (txns : List TxnLine) where
  -- the client's line asks for it
  abbrev pub IsOwn : ℕ → Request → Type 0
  IsOwn n request = (line : TxnLine) × Among line txns × (line.client ≡ n) × (request.items ≡ line.items)

  abbrev pub IsOwnSubmission : Submission → Type 0
  IsOwnSubmission submission = IsOwn submission.client submission.request

  -- so its keys are the client's
  own_key : (n : ℕ) (request : Request) → IsOwn n request → (key : ℕ) → Among key (map key_of request.items) → IsClientsKey txns n key
  own_key n request (line, listed, owner, items) key a = record { line = line; listed = listed; owner = owner; names = subst (λ (xs : List Item). Among key (map key_of xs)) items a }

  own_writes : (n : ℕ) (request : Request) → IsOwn n request → (reads : List ReadItem) → Each (λ (item : WriteItem). IsClientsKey txns n item.key) (writes_of request.items reads)
  own_writes n request own reads =
      Each-weaker (λ (item : WriteItem). Among item.key (map key_of request.items)) (λ (item : WriteItem). IsClientsKey txns n item.key) (λ item a. own_key n request own item.key a)
      (writes_of request.items reads) (writes_named request.items reads)

  abbrev pub TrialFits : ℕ → Option Request → Type 0
  TrialFits n (Some request) = IsOwn n request
  TrialFits n None = Unit {0}

  -- a client's requests
  pub record CallerAsks (n : ℕ) (caller : Caller) : Type 0 where
    pub retries : Each (IsOwn n) caller.retries
    pub lines : Each (IsOwn n) caller.lines
    pub trials : Each (TrialFits n) caller.trials

  -- those of all clients
  abbrev pub Asks : DriverState → Type 0
  Asks d = Each (λ (x : Caller). CallerAsks x.number x) d.callers

  module _ (n : ℕ) where
    -- ---- one client

    get_fits : (trials : List (Option Request)) (seq : ℕ) → Each (TrialFits n) trials → TrialFits n (asked (slice_get trials seq))
    get_fits [] seq h = tt
    get_fits (trial ∷ trials) zero h = h.0
    get_fits (trial ∷ trials) (suc seq) h = get_fits trials seq h.1

    set_fits : (trials : List (Option Request)) (seq : ℕ) (trial : Option Request) → Each (TrialFits n) trials → TrialFits n trial → Each (TrialFits n) (slice_set trials seq trial)
    set_fits [] seq trial h k = tt
    set_fits (first ∷ trials) zero trial h k = (k, h.1)
    set_fits (first ∷ trials) (suc seq) trial h k = (h.0, set_fits trials seq trial h.1 k)

    none_fit : (m : ℕ) → Each (TrialFits n) (replicate m None)
    none_fit zero = tt
    none_fit (suc m) = (tt, none_fit m)

    put_fits : (trials : List (Option Request)) (seq : ℕ) (trial : Option Request) → Each (TrialFits n) trials → TrialFits n trial → Each (TrialFits n) (put_trial seq trial trials)
    put_fits trials seq trial h k =
        set_fits (trials ++ replicate (seq + 1 - length trials) None) seq trial
        (Each-append (TrialFits n) trials (replicate (seq + 1 - length trials) None) h (none_fit (seq + 1 - length trials))) k

    retries_fit : (trial : Option Request) (retries : List Request) → TrialFits n trial → Each (IsOwn n) retries → Each (IsOwn n) (retries_after trial retries)
    retries_fit None retries k h = h
    retries_fit (Some request) retries k h = by request.tries
      where
        by : (tries : ℕ) → Each (IsOwn n) (with_tries tries request retries)
        by zero = h
        by (suc tries) = Each-append (IsOwn n) retries (record request { tries = tries } ∷ []) h (k, tt)

    again_asks : (seq : ℕ) (x : Caller) → CallerAsks n x → CallerAsks n (tried_again seq x)
    again_asks seq x h = record {
      retries = retries_fit (trial_in x.trials seq) x.retries (get_fits x.trials seq h.trials) h.retries;
      lines = h.lines;
      trials = set_fits x.trials seq None h.trials tt;
    }

    done_asks : (seq : ℕ) (x : Caller) → CallerAsks n x → CallerAsks n (done_with seq x)
    done_asks seq x h = record { retries = h.retries; lines = h.lines; trials = set_fits x.trials seq None h.trials tt }

    rest_fits : (requests : List Request) → Each (IsOwn n) requests → Each (IsOwn n) (after_request requests)
    rest_fits [] h = tt
    rest_fits (request ∷ requests) h = h.1

    without_asks : (x : Caller) → CallerAsks n x → CallerAsks n (without_request x)
    without_asks x h = by x.retries h.retries
      where
        by : (requests : List Request) → Each (IsOwn n) requests → CallerAsks n (without_request_by requests x)
        by [] k = record { retries = h.retries; lines = rest_fits x.lines h.lines; trials = h.trials }
        by (request ∷ requests) k = record { retries = k.1; lines = h.lines; trials = h.trials }

    first_fits : (requests : List Request) → Each (IsOwn n) requests → TrialFits n (slice_get requests 0)
    first_fits [] h = tt
    first_fits (request ∷ requests) h = h.0

    begun_asks : (seq : ℕ) (x : Caller) → CallerAsks n x → CallerAsks n (begun seq x)
    begun_asks seq x h =
        let after = without_asks x h in
        let rest = without_request x in
        record {
          retries = after.retries;
          lines = after.lines;
          trials = put_fits rest.trials seq (next_request x) after.trials (first_fits (x.retries ++ x.lines) (Each-append (IsOwn n) x.retries x.lines h.retries h.lines));
        }
    -- ---- all clients

  changed_asks : (m : ℕ) (f : Caller → Caller) (d : DriverState) → ((x : Caller) → (f x).number ≡ x.number) → ((x : Caller) → CallerAsks x.number x → CallerAsks x.number (f x)) → Asks d → Asks (change_caller m f d)
  changed_asks m f d number k h = Each-change (is_caller m) f (λ (x : Caller). CallerAsks x.number x) (λ x t j. subst (λ (i : ℕ). CallerAsks i (f x)) (sym (number x)) (k x j)) d.callers h

  left_asks : (caller : Caller) (d : DriverState) → Asks d → Asks (left caller d)
  left_asks caller d h = changed_asks caller.number resting d (λ x. refl) (λ x k. record { retries = k.retries; lines = k.lines; trials = k.trials }) h

  pub trial_asks : (id : TxnId) (d : DriverState) → Asks d → TrialFits id.client (trial_of id d)
  trial_asks id d h = by d.callers h
    where
      by : (xs : List Caller) → Each (λ (x : Caller). CallerAsks x.number x) xs → TrialFits id.client (trial_by id.seq (find (is_caller id.client) xs))
      by [] k = tt
      by (x ∷ xs) k = head (is_caller id.client x) refl (by xs k.1)
        where
          head : (b : Bool) → is_caller id.client x ≡ b → TrialFits id.client (trial_by id.seq (find (is_caller id.client) xs)) → TrialFits id.client (trial_by id.seq (if b then Some x else find (is_caller id.client) xs))
          head true e rest = let first = k.0 in subst (λ (i : ℕ). TrialFits i (trial_in x.trials id.seq)) (eqb-true x.number id.client e) (get_fits x.number x.trials id.seq first.trials)
          head false e rest = rest

  -- ---- rounds

  filtered_fit : (n : ℕ) (submissions : List Submission) → Each IsOwnSubmission submissions → Each (IsOwn n) (map (λ submission. submission.request) (filter (is_submission_of n) submissions))
  filtered_fit n [] h = tt
  filtered_fit n (submission ∷ submissions) h = head (is_submission_of n submission) refl (filtered_fit n submissions h.1)
    where
      head : (b : Bool) → is_submission_of n submission ≡ b → Each (IsOwn n) (map (λ submission. submission.request) (filter (is_submission_of n) submissions)) →
          Each (IsOwn n) (map (λ submission. submission.request) (if b then submission ∷ filter (is_submission_of n) submissions else filter (is_submission_of n) submissions))
      head true e rest = (subst (λ (i : ℕ). IsOwn i submission.request) (eqb-true submission.client n e) h.0, rest)
      head false e rest = rest

  pub asked_asks : (submissions : List Submission) (xs : List Caller) → Each IsOwnSubmission submissions → Each (λ (x : Caller). CallerAsks x.number x) xs → Each (λ (x : Caller). CallerAsks x.number x) (map (asked_more submissions) xs)
  asked_asks submissions [] s h = tt
  asked_asks submissions (x ∷ xs) s h =
      let first = h.0 in (
        record {
          retries = first.retries;
          lines = Each-append (IsOwn x.number) x.lines _ first.lines (filtered_fit x.number submissions s);
          trials = first.trials;
        },
        asked_asks submissions xs s h.1,
      )

  pub new_asks : (column m : ℕ) (lines : List ClientLine) → Each (λ (x : Caller). CallerAsks x.number x) (callers_from column m lines)
  new_asks column m [] = tt
  new_asks column m (line ∷ lines) = head (line.column == column) (new_asks column (m + 1) lines)
    where
      head : (b : Bool) → Each (λ (x : Caller). CallerAsks x.number x) (callers_from column (m + 1) lines) →
          Each (λ (x : Caller). CallerAsks x.number x) (if b then record { number = m; home = line.home; under_way = None; retries = []; lines = []; trials = [] } ∷ callers_from column (m + 1) lines
          else callers_from column (m + 1) lines)
      head true rest = (record { retries = tt; lines = tt; trials = tt }, rest)
      head false rest = rest

  -- ---- what is named

  -- the steps by which an attempt comes to keys
  abbrev pub StepOwns : Step → Type 0
  StepOwns (ReadStep id key) = IsClientsKey txns id.client key
  StepOwns (StampStep id clock writes) = Each (λ (item : WriteItem). IsClientsKey txns id.client item.key) writes
  StepOwns _ = Unit {0}

  abbrev pub NextOwns : Next → Type 0
  NextOwns (StepNext step) = StepOwns step
  NextOwns _ = Unit {0}

  abbrev WorkedAsks : Worked → Type 0
  WorkedAsks (Quiet d) = Asks d
  WorkedAsks (Names step after d) = Asks d × StepOwns step

  abbrev TurnAsks : Turn → Type 0
  TurnAsks Nothing = Unit {0}
  TurnAsks (Silent d) = Asks d
  TurnAsks (Steps step after d) = Asks d × StepOwns step

  abbrev ChoiceAsks : Choice → Type 0
  ChoiceAsks chosen = Asks chosen.driver × NextOwns chosen.next

  module _ (rules : RuleLines) (round : Setting) (c : ColumnState) where
    -- ---- messages

    taking_asks : (number : ℕ) (msg : Option Msg) (after : List Task) (d : DriverState) → Asks d → WorkedAsks (taking_by c number msg after d)
    taking_asks number (Some msg) after d h = (h, tt)
    taking_asks number None after d h = (h, tt)

    late_asks : (parts : List Part) (number : ℕ) (d : DriverState) → Asks d → Asks (with_late_by parts number d)
    late_asks [] number d h = h
    late_asks (part ∷ parts) number d h = h

    fate_asks : (end number : ℕ) (fate : Fate) (next : DriverState → Worked) (d : DriverState) → ((e : DriverState) → Asks e → WorkedAsks (next e)) → Asks d →
        WorkedAsks (by_fate c end number fate next d)
    fate_asks end number DeliverFate next d f h = taking_asks number (message c.link number) (Deliver (number + 1) end ∷ []) d h
    fate_asks end number Twice next d f h = taking_asks number (message c.link number) (Take number ∷ (Deliver (number + 1) end ∷ [])) d h
    fate_asks end number Lose next d f h = f d h
    fate_asks end number LateFate next d f h = f (with_late number d) (late_asks d.parts number d h)
    fate_asks end number NextRound next d f h = f (with_held number d) h

    delivering_asks : (end : ℕ) (numbers : List ℕ) (d : DriverState) → Asks d → WorkedAsks (delivering rules c end numbers d)
    delivering_asks end [] d h = h
    delivering_asks end (number ∷ numbers) d h = fate_asks end number (fate_at rules c.link number) (delivering rules c end numbers) d (delivering_asks end numbers) h

    taking_late_asks : (numbers : List ℕ) (d : DriverState) → Asks d → WorkedAsks (taking_late c numbers d)
    taking_late_asks [] d h = h
    taking_late_asks (number ∷ numbers) d h = taking_asks number (message c.link number) (Late ∷ []) (record d { late = numbers }) h

    noticed_asks : (id : TxnId) (outcome : Option Outcome) (d : DriverState) → Asks d → Asks (noticed id outcome d)
    noticed_asks id (Some (Abort cause)) d h = changed_asks id.client (tried_again id.seq) d (λ x. refl) (λ x k. again_asks x.number id.seq x k) h
    noticed_asks id (Some Commit) d h = changed_asks id.client (done_with id.seq) d (λ x. refl) (λ x k. done_asks x.number id.seq x k) h
    noticed_asks id None d h = h

    -- ---- settling and resuming

    settle_asks : (id : TxnId) (b : Option ℕ) (d : DriverState) → Asks d → WorkedAsks (settle_by c id b d)
    settle_asks id None d h = (h, tt)
    settle_asks id (Some condition) d h = h

    settle_takeover_asks : (id : TxnId) (view : ℕ) (b : Option ℕ) (d : DriverState) → Asks d → WorkedAsks (settle_takeover_by c id view b d)
    settle_takeover_asks id view None d h = (h, tt)
    settle_takeover_asks id view (Some condition) d h = h

    takeover_asks : (id : TxnId) (view : ℕ) (b : Option ℕ) (d : DriverState) → Asks d → WorkedAsks (takeover_by c id view b d)
    takeover_asks id view None d h = (h, tt)
    takeover_asks id view (Some condition) d h = h

    resume_asks : (id : TxnId) (o : Option AttemptState) (d : DriverState) → Asks d → WorkedAsks (resume_by c id o d)
    resume_asks id None d h = h
    resume_asks id (Some a) d h = by (was_validated c id && not a.stopped && is_none a.coord.learned)
      where
        proposed : (o : Option Outcome) → WorkedAsks (resume_with c id o d)
        proposed (Some outcome) = (h, tt)
        proposed None = (h, tt)

        by : (b : Bool) → WorkedAsks (resume_if c id a b d)
        by true = proposed a.coord.proposed
        by false = h

    -- ---- stages

    stop_asks : (id : TxnId) (b : Option ℕ) (d : DriverState) → Asks d → WorkedAsks (stopping id b d)
    stop_asks id None d h = (h, tt)
    stop_asks id (Some condition) d h = h

    reach_asks : (id : TxnId) (point : Point) (b : Bool) (d : DriverState) → Asks d → WorkedAsks (reach_by round c id point b d)
    reach_asks id point true d h = stop_asks id (blocked round c (Stop id)) d h
    reach_asks id point false d h =
        changed_asks id.client (at_stage (record { id = id; reached = point })) d (λ x. refl) (λ x k. record { retries = k.retries; lines = k.lines; trials = k.trials }) h

    fetch_asks : (id : TxnId) (o : Option AttemptState) (request : Option Request) (d : DriverState) → Asks d → TrialFits id.client request → WorkedAsks (fetching id o request d)
    fetch_asks id (Some a) (Some request) d h own = by (next_wanted request.items a.reads) refl
      where
        by : (key : Option ℕ) → next_wanted request.items a.reads ≡ key → WorkedAsks (fetch_by id a.reads request key d)
        by (Some key) e = (h, own_key id.client request own key (wanted_named request.items (length a.reads) key e))
        by None e = (h, own_writes id.client request own a.reads)
    fetch_asks id (Some a) None d h own = h
    fetch_asks id None request d h own = h

    ruled_asks : (caller : Caller) (id : TxnId) (r : Ruling) (d : DriverState) → Asks d → TurnAsks (ruled_by c caller id r d)
    ruled_asks caller id (Fast outcome) d h = (left_asks caller d h, tt)
    ruled_asks caller id (Propose outcome) d h = (left_asks caller d h, tt)
    ruled_asks caller id (Learned outcome) d h = left_asks caller d h
    ruled_asks caller id (Short n) d h = left_asks caller d h
    ruled_asks caller id (Unaccepted n) d h = left_asks caller d h

    closed_asks : (caller : Caller) (id : TxnId) (r : Ruling) (d : DriverState) → Asks d → TurnAsks (closed_by c caller id r d)
    closed_asks caller id (Fast outcome) d h = left_asks caller d h
    closed_asks caller id (Propose outcome) d h = left_asks caller d h
    closed_asks caller id (Learned outcome) d h = (left_asks caller d h, tt)
    closed_asks caller id (Short n) d h = left_asks caller d h
    closed_asks caller id (Unaccepted n) d h = left_asks caller d h

    three_asks : (caller : Caller) (id : TxnId) (coord : CoordState) (o : Option Outcome) (d : DriverState) → Asks d → TurnAsks (stage_three round c caller id coord o d)
    three_asks caller id coord (Some outcome) d h = left_asks caller d h
    three_asks caller id coord None d h = ruled_asks caller id (ruling round.faults coord) d h

    four_asks : (caller : Caller) (id : TxnId) (coord : CoordState) (o : Option Outcome) (d : DriverState) → Asks d → TurnAsks (stage_four round c caller id coord o d)
    four_asks caller id coord (Some outcome) d h = left_asks caller d h
    four_asks caller id coord None d h = closed_asks caller id (ruling round.faults coord) d h

    stage_asks : (caller : Caller) (id : TxnId) (point : Point) (o : Option AttemptState) (d : DriverState) → Asks d → TurnAsks (stage_after round c caller id point o d)
    stage_asks caller id AfterRead (Some a) d h = (left_asks caller d h, tt)
    stage_asks caller id AfterVotes (Some a) d h = three_asks caller id a.coord a.coord.learned d h
    stage_asks caller id AfterAccepts (Some a) d h = four_asks caller id a.coord a.coord.learned d h
    stage_asks caller id AfterRead None d h = left_asks caller d h
    stage_asks caller id AfterVotes None d h = left_asks caller d h
    stage_asks caller id AfterAccepts None d h = left_asks caller d h

    begin_asks : (client : ClientState) (caller : Caller) (reader : Option ℕ) (d : DriverState) → Asks d → TurnAsks (begin_by client caller reader d)
    begin_asks client caller (Some replica) d h = (changed_asks caller.number (begun client.next_seq) d (λ x. (kept_by x.retries x).0) (λ x k. begun_asks x.number client.next_seq x k) h, tt)
    begin_asks client caller None d h = (changed_asks caller.number without_request d (λ x. (kept_by x.retries x).0) (λ x k. without_asks x.number x k) h, tt)

    next_asks : (caller : Caller) (request : Option Request) (d : DriverState) → Asks d → TurnAsks (begin_next round c caller request d)
    next_asks caller None d h = tt
    next_asks caller (Some request) d h = by (client_of c caller.number)
      where
        by : (client : Option ClientState) → TurnAsks (begin_of round client caller d)
        by (Some client) = begin_asks client caller (reader_for round caller.home client.heard) d h
        by None = tt

    turn_asks : (caller : Option Caller) (d : DriverState) → Asks d → TurnAsks (turn_of round c caller d)
    turn_asks None d h = tt
    turn_asks (Some caller) d h = by caller.under_way
      where
        by : (u : Option Stage) → TurnAsks (turn_by round c caller u d)
        by (Some stage) = stage_asks caller stage.id stage.reached (attempt_of c stage.id) d h
        by None = next_asks caller (next_request caller) d h

    -- ---- passes

    after_turn_asks : (place : ℕ) (turn : Turn) (did : Bool) (next : Bool → DriverState → Worked) (d : DriverState) → TurnAsks turn → Asks d →
        ((b : Bool) (e : DriverState) → Asks e → WorkedAsks (next b e)) → WorkedAsks (after_turn place turn did next d)
    after_turn_asks place Nothing did next d t h f = f did d h
    after_turn_asks place (Silent changed) did next d t h f = f true changed t
    after_turn_asks place (Steps step after changed) did next d t h f = t

    pass_asks : (end : Bool → DriverState → Worked) → ((b : Bool) (e : DriverState) → Asks e → WorkedAsks (end b e)) → (places : List ℕ) (did : Bool) (d : DriverState) → Asks d →
        WorkedAsks (in_pass round c end places did d)
    pass_asks end f [] did d h = f did d h
    pass_asks end f (place ∷ places) did d h =
        after_turn_asks place (turn_of round c (slice_get d.callers place) d) did (in_pass round c end places) d (turn_asks (slice_get d.callers place) d h) h (pass_asks end f places)

    passes_ask : (left : ℕ) (did : Bool) (d : DriverState) → Asks d → WorkedAsks (after_passes left round c did d)
    passes_ask left false d h = h
    passes_ask zero true d h = h
    passes_ask (suc left) true d h = pass_asks (after_passes left round c) (passes_ask left) (numbers_from 0 (length d.callers)) false d h

    -- ---- tasks

    task_asks : (task : Task) (d : DriverState) → Asks d → WorkedAsks (work_on rules round c task d)
    task_asks (Deliver first end) d h = delivering_asks end (numbers_from first (end - first)) d h
    task_asks (DeliverSince sent) d h = delivering_asks (length c.link + 1) (numbers_from (sent + 1) (length c.link + 1 - (sent + 1))) d h
    task_asks (Take number) d h = taking_asks number (message c.link number) [] d h
    task_asks (Notice id) d h = noticed_asks id (own_learned c id) d h
    task_asks (Fetch id) d h = fetch_asks id (attempt_of c id) (trial_of id d) d h (trial_asks id d h)
    task_asks (Reach id point) d h = reach_asks id point (passes (same_point point) (stop_of rules id)) d h
    task_asks (Resume id) d h = resume_asks id (attempt_of c id) d h
    task_asks (Turns place did) d h = pass_asks (after_passes 2 round c) (passes_ask 2) (numbers_from place (length d.callers - place)) did d h
    task_asks (Takeover id view) d h = takeover_asks id view (blocked round c (TakeoverStep id view)) d h
    task_asks Late d h = taking_late_asks d.late d h
    task_asks (Settle id) d h = settle_asks id (blocked round c (Rule id)) d h
    task_asks (SettleTakeover id view) d h = settle_takeover_asks id view (blocked round c (Pick id view)) d h

    or_next_asks : (worked : Worked) (next : DriverState → Choice) → WorkedAsks worked → ((d : DriverState) → Asks d → ChoiceAsks (next d)) → ChoiceAsks (or_next worked next)
    or_next_asks (Quiet d) next h f = f d h
    or_next_asks (Names step after d) next h f = h

    agenda_asks : (end : DriverState → Choice) → ((d : DriverState) → Asks d → ChoiceAsks (end d)) → (tasks : List Task) (d : DriverState) → Asks d →
        ChoiceAsks (in_agenda rules round c end tasks d)
    agenda_asks end f [] d h = f (with_agenda [] d) h
    agenda_asks end f (task ∷ tasks) d h =
        or_next_asks (work_on rules round c task (with_agenda tasks d)) (in_agenda rules round c end tasks) (task_asks task (with_agenda tasks d) h) (agenda_asks end f tasks)

    parts_ask : (parts : List Part) (d : DriverState) → Asks d → ChoiceAsks (in_parts rules round c parts d)
    parts_ask [] d h = (h, tt)
    parts_ask (part ∷ parts) d h = agenda_asks (in_parts rules round c parts) (parts_ask parts) (tasks_of c d part) (with_part c part parts d) h

    pub choice_asks : (d : DriverState) → Asks d → ChoiceAsks (choice rules round c d)
    choice_asks d h = by (wanted c.work)
      where
        by : (o : Option KeyCall) → ChoiceAsks (unless_wanted rules round c o d)
        by (Some call) = (h, tt)
        by None = agenda_asks (in_parts rules round c d.parts) (parts_ask d.parts) d.agenda d h
