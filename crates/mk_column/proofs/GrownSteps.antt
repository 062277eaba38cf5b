-- A column grows by each of its steps.
use Rattle.std.proofs.Common.{◌≡◌, ◌<◌, ◌≤◌, ◌^◌, ℕ, Bool, true, false, cond, refl, sym, subst, ap, ◌∙◌, List, [], ◌++◌, Option, Some, None, inl, arith}
use Rattle.std.specs.Prelude.{map, option_map, option_and_then, IsSomeAnd, nat_lt, slice_get, ◌==◌}
use Rattle.std.proofs.lemmas.Option.{none-some, same_Some}
use Rattle.mk_lists.proofs.EachMember.{Each-find}
use Rattle.mk_model.proofs.Parts.{attempt_of-id}
use Rattle.mk_txn.specs.declared.TxnId.{TxnId}
use Rattle.mk_txn.specs.declared.Stamp.{Stamp as StampType}
use Rattle.mk_txn.specs.declared.ReadItem.{ReadItem}
use Rattle.mk_txn.specs.declared.WriteItem.{WriteItem}
use Rattle.mk_txn.specs.Stamps.{Before, next_stamp_of, fresh_time}
use Rattle.mk_txn.specs.Transactions.{Transaction}
use Rattle.mk_txn.proofs.IdOrder.{same_id-tells}
use Rattle.mk_words.specs.Links.{message}
use Rattle.mk_words.specs.Rulings.{ruling}
use Rattle.mk_quorum.specs.Slots.{passes}
use Rattle.mk_trim.specs.SettledAttempts.{SettledAttempts}
use Rattle.mk_words.specs.declared.Step.{Step}
use Rattle.mk_words.specs.declared.Step.TheVariants.{Begin, Unread, Read, Stamp, Validate, Take, Key, Rule, Again, Takeover, Pick as PickStep, Stop}
use Rattle.mk_model.specs.ColumnState.{ColumnState, ClientState, AttemptState, Learning, attempt_of, client_of, is_attempt, is_client}
use Rattle.mk_model.specs.Learnings.{txn_of, learned_in_step}
use Rattle.mk_model.specs.Conditions.{blocked}
use Rattle.mk_model.specs.Steps.{on_some, epoch_of, beginning, left_unread, stamping, stamped, stamped_txn, with_txn, with_last_time, taken, sent_again, taken_over, picking, column_after}
use Rattle.mk_column.specs.AttemptsByCode.{BegunView, begun_of, is_begun}
use Rattle.mk_column.specs.ColumnByCode.{ColumnView, Kept, IsKept, AttemptFits, learning_of_kept, column_of}
use Rattle.mk_column.specs.Growing.{HasGrown, ReadsUnstamped, last_stamp}
use Rattle.mk_model.proofs.Frames.{enabled}
use Rattle.mk_column.proofs.ListLaws.{find-change, map-kept, changed_member}
use Rattle.mk_column.proofs.ColumnLaws.{attempt-found}
use Rattle.mk_column.proofs.GrownLaws.{calm-grown, changed-lasts}
use Rattle.mk_column.proofs.QuietSteps.{IsQuiet, quiet-calm, same-quiet, some-quiet, attempt-quiet, begin-quiet, unread-quiet, taken-quiet, answered-quiet, ruled-quiet, again-quiet, picking-quiet}

-- in what a column keeps, what reads has no transaction
pub kept-unstamped : (f : ℕ) (kept : Kept) (ends : SettledAttempts) → IsKept f kept ends → ReadsUnstamped (column_of kept)
kept-unstamped f kept ends h id attempt found reads = by_begun (begun_of id kept.attempts) refl (sym (attempt-found id kept.attempts) ∙ found)
  where
    by_begun : (o : Option BegunView) → begun_of id kept.attempts ≡ o → option_map (λ (b : BegunView). b.state) o ≡ Some attempt → attempt.txn ≡ None
    by_begun None there e = absurd (none-some attempt e)
    by_begun (Some b) there e =
        let is : b.state ≡ attempt = same_Some b.state attempt e in
        let fits = Each-find (AttemptFits f kept.link (map learning_of_kept kept.learned)) (is_begun id) kept.attempts b h.attempts there in
        ap (λ (a : AttemptState). a.txn) (sym is) ∙ fits.unstamped (ap (λ (a : AttemptState). a.reading) is ∙ reads)

-- a stamp is above the client's last time
stamp-above : (client last clock : ℕ) (reads : List ReadItem) (stamp : StampType) → next_stamp_of client last clock reads ≡ Some stamp → last < stamp.time
stamp-above client last clock reads stamp e = by_test (nat_lt (2 ^ 62) (fresh_time last clock reads)) e
  where
    above : last < fresh_time last clock reads
    above = omega arith

    by_test : (t : Bool) → cond t None (Some (record { time = fresh_time last clock reads; client = client })) ≡ Some stamp → last < stamp.time
    by_test true k = absurd (none-some stamp k)
    by_test false k = subst (λ (s : StampType). last < s.time) (same_Some (record { time = fresh_time last clock reads; client = client }) stamp k) above

last-before : (client : ClientState) (stamp : StampType) → client.last_time < stamp.time → Before (last_stamp client) stamp
last-before client stamp above = by_test (client.last_time == 0)
  where
    by_test : (t : Bool) → Before (cond t (record { time = 0; client = 0 }) (record { time = client.last_time; client = client.number })) stamp
    by_test true = inl (omega (arith, above))
    by_test false = inl above

-- what is known of an attempt that gets this stamp, and of its client
pub record Stamps (column : ColumnState) (id : TxnId) (attempt : AttemptState) (client : ClientState) (stamp : StampType) : Type 0 where
  pub found : attempt_of column id ≡ Some attempt
  pub unstamped : attempt.txn ≡ None
  pub home : client_of column id.client ≡ Some client
  pub above : client.last_time < stamp.time

module _ (column : ColumnState) (id : TxnId) (writes : List WriteItem) (attempt : AttemptState) (client : ClientState) (stamp : StampType) (s : Stamps column id attempt client stamp) where
  abbrev after : ColumnState
  after = stamped id writes (Some stamp) column

  found-after : (q : TxnId) → attempt_of after q ≡ option_map (changed_member (is_attempt id) (with_txn stamp writes)) (attempt_of column q)
  found-after q = find-change (is_attempt id) (with_txn stamp writes) (is_attempt q) (λ a. refl) column.attempts

  -- another attempt's number that is this one's
  same-one : (q : TxnId) (b : AttemptState) → attempt_of column q ≡ Some b → is_attempt id b ≡ true → q ≡ id
  same-one q b was here = sym (attempt_of-id column q b was) ∙ same_id-tells b.id id here

  -- this attempt had no transaction
  had-none : (q : TxnId) (b : AttemptState) → attempt_of column q ≡ Some b → is_attempt id b ≡ true → b.txn ≡ None
  had-none q b was here =
      ap (λ (a : AttemptState). a.txn) (same_Some b attempt (sym was ∙ ap (attempt_of column) (same-one q b was here) ∙ s.found)) ∙ s.unstamped

  kept-txns : (q : TxnId) (b : AttemptState) → attempt_of column q ≡ Some b
      → IsSomeAnd (attempt_of after q) (λ later. (txn : Transaction) → b.txn ≡ Some txn → later.txn ≡ Some txn)
  kept-txns q b was =
      subst (λ o. IsSomeAnd o (λ later. (txn : Transaction) → b.txn ≡ Some txn → later.txn ≡ Some txn))
      (sym (found-after q ∙ ap (option_map (changed_member (is_attempt id) (with_txn stamp writes))) was))
      (λ txn e. by_test (is_attempt id b) refl txn e)
    where
      by_test : (t : Bool) → is_attempt id b ≡ t → (txn : Transaction) → b.txn ≡ Some txn → (cond t (with_txn stamp writes b) b).txn ≡ Some txn
      by_test true here txn e = absurd (none-some txn (sym (had-none q b was here) ∙ e))
      by_test false apart txn e = e

  above-last : (q : TxnId) (txn : Transaction) → txn_of after q ≡ Some txn → txn_of column q ≡ None → (c : ClientState) → client_of column q.client ≡ Some c
      → Before (last_stamp c) txn.stamp
  above-last q txn now missing c there =
      by_found (attempt_of column q) refl (sym (ap (option_and_then (λ (a : AttemptState). a.txn)) (found-after q)) ∙ now) missing
    where
      by_test : (b : AttemptState) → attempt_of column q ≡ Some b → (t : Bool) → is_attempt id b ≡ t → (cond t (with_txn stamp writes b) b).txn ≡ Some txn
          → b.txn ≡ None → Before (last_stamp c) txn.stamp
      by_test b was false apart e none = absurd (none-some txn (sym none ∙ e))
      by_test b was true here e none =
          let is : client ≡ c = same_Some client c (sym s.home ∙ ap (λ (i : TxnId). client_of column i.client) (sym (same-one q b was here)) ∙ there) in
          let of_stamp : stamp ≡ txn.stamp = ap (λ (t : Transaction). t.stamp) (same_Some (stamped_txn b stamp writes) txn e) in
          subst (λ (x : ClientState). Before (last_stamp x) txn.stamp) is (subst (Before (last_stamp client)) of_stamp (last-before client stamp s.above))

      by_found : (o : Option AttemptState) → attempt_of column q ≡ o
          → option_and_then (λ (a : AttemptState). a.txn) (option_map (changed_member (is_attempt id) (with_txn stamp writes)) o) ≡ Some txn
          → option_and_then (λ (a : AttemptState). a.txn) o ≡ None
          → Before (last_stamp c) txn.stamp
      by_found None was e none = absurd (none-some txn e)
      by_found (Some b) was e none = by_test b was (is_attempt id b) refl e none

  pub stamped-grown : (before : ColumnView) (log : List Step)
      → HasGrown (record before { state = column }) (record before { state = record after { learned = column.learned ++ [] }; log = log })
  stamped-grown before log =
      record {
        number = refl;
        clients = map-kept (is_client id.client) (with_last_time stamp.time) (λ (c : ClientState). c.number) (λ c. refl) column.clients;
        lasts = changed-lasts id.client (with_last_time stamp.time) column (λ c. refl)
            (λ c found. subst (λ (x : ClientState). x.last_time ≤ stamp.time) (same_Some client c (sym s.home ∙ found)) (omega (arith, s.above)));
        keys = refl;
        attempts = kept-txns;
        decisions = (quiet-calm column column [] (same-quiet column column refl refl)).decisions;
        stamps = above-last;
      }

-- every step but a Stamp is quiet
quiet-grown : (before : ColumnView) (log : List Step) (state : ColumnState) (more : List Learning) → IsQuiet before.state state
    → HasGrown before (record before { state = record state { learned = before.state.learned ++ more }; log = log })
quiet-grown before log state more h =
    calm-grown before (record before { state = record state { learned = before.state.learned ++ more }; log = log }) refl refl
    (quiet-calm before.state state more h)

-- with this state and no learnings more, the column has grown
abbrev Grows : ColumnView → List Step → ColumnState → Type 0
Grows before log state = HasGrown before (record before { state = record state { learned = before.state.learned ++ [] }; log = log })

stamp-grown : (before : ColumnView) (log : List Step) (id : TxnId) (clock : ℕ) (writes : List WriteItem)
    → passes (λ (a : AttemptState). a.reading) (attempt_of before.state id) ≡ true → ReadsUnstamped before.state
    → Grows before log (on_some (stamping clock writes) (attempt_of before.state id) before.state)
stamp-grown before log id clock writes reads unstamped = by_attempt (attempt_of before.state id) refl reads
  where
    same : Grows before log before.state
    same = quiet-grown before log before.state [] (same-quiet before.state before.state refl refl)

    by_stamp : (a : AttemptState) (c : ClientState) (o : Option StampType) → attempt_of before.state id ≡ Some a → a.txn ≡ None
        → client_of before.state id.client ≡ Some c → next_stamp_of c.number c.last_time clock a.reads ≡ o → Grows before log (stamped id writes o before.state)
    by_stamp a c None found none home e = same
    by_stamp a c (Some stamp) found none home e =
        stamped-grown before.state id writes a c stamp
        (record { found = found; unstamped = none; home = home; above = stamp-above c.number c.last_time clock a.reads stamp e }) before log

    by_client : (a : AttemptState) (o : Option ClientState) → attempt_of before.state id ≡ Some a → a.txn ≡ None → client_of before.state id.client ≡ o
        → Grows before log (on_some (λ (c : ClientState) (col : ColumnState). stamped id writes (next_stamp_of c.number c.last_time clock a.reads) col) o before.state)
    by_client a None found none home = same
    by_client a (Some c) found none home = by_stamp a c (next_stamp_of c.number c.last_time clock a.reads) found none home refl

    by_attempt : (o : Option AttemptState) → attempt_of before.state id ≡ o → passes (λ (a : AttemptState). a.reading) o ≡ true
        → Grows before log (on_some (stamping clock writes) o before.state)
    by_attempt None found e = same
    by_attempt (Some a) found e =
        subst
        (λ (i : TxnId). Grows before log (on_some (λ (c : ClientState) (col : ColumnState). stamped i writes (next_stamp_of c.number c.last_time clock a.reads) col) (client_of before.state i.client) before.state))
        (sym (attempt_of-id before.state id a found)) (by_client a (client_of before.state id.client) found (unstamped id a found e) refl)

pub step-grown : (before : ColumnView) (log : List Step) (step : Step) → blocked before.setting before.state step ≡ None → ReadsUnstamped before.state
    → HasGrown before (record before { state = column_after before.setting before.state step; log = log })
step-grown before log (Stamp id clock writes) free unstamped =
    stamp-grown before log id clock writes (enabled before.setting before.state (Stamp id clock writes) free).1.0 unstamped
step-grown before log (Begin client replica) free unstamped =
    quiet-grown before log _ _
    (some-quiet (beginning before.setting replica (epoch_of (slice_get before.setting.views replica))) (client_of before.state client) before.state (λ c. begin-quiet before.setting replica (epoch_of (slice_get before.setting.views replica)) c before.state))
step-grown before log (Unread client) free unstamped =
    quiet-grown before log _ _
    (some-quiet (left_unread before.setting) (client_of before.state client) before.state (λ c. unread-quiet before.setting c before.state))
step-grown before log (Read id key) free unstamped =
    quiet-grown before log _ _ (some-quiet _ (attempt_of before.state id) before.state (λ a. same-quiet before.state _ refl refl))
step-grown before log (Validate id) free unstamped =
    quiet-grown before log _ _ (some-quiet _ (attempt_of before.state id) before.state (λ a. same-quiet before.state _ refl refl))
step-grown before log (Take number) free unstamped =
    quiet-grown before log _ (learned_in_step before.setting before.state (Take number))
    (some-quiet (taken before.setting) (message before.state.link number) before.state (λ msg. taken-quiet before.setting msg before.state))
step-grown before log (Key call answer) free unstamped = quiet-grown before log _ _ (answered-quiet answer before.state.work before.state)
step-grown before log (Rule id) free unstamped =
    quiet-grown before log _ (learned_in_step before.setting before.state (Rule id))
    (some-quiet _ (attempt_of before.state id) before.state (λ a. ruled-quiet before.setting.faults a (ruling before.setting.faults a.coord) before.state))
step-grown before log (Again id) free unstamped =
    quiet-grown before log _ _
    (some-quiet (sent_again before.setting.faults) (attempt_of before.state id) before.state (λ a. again-quiet before.setting.faults a before.state))
step-grown before log (Takeover id view) free unstamped =
    quiet-grown before log _ _
    (some-quiet (taken_over before.setting.faults view) (attempt_of before.state id) before.state (λ a. same-quiet before.state _ refl refl))
step-grown before log (PickStep id view) free unstamped =
    quiet-grown before log _ (learned_in_step before.setting before.state (PickStep id view))
    (some-quiet (picking before.setting view) (attempt_of before.state id) before.state (λ a. picking-quiet before.setting view a before.state))
step-grown before log (Stop id) free unstamped =
    quiet-grown before log _ _ (attempt-quiet id (λ (a : AttemptState). record a { stopped = true }) before.state (λ a. refl) (λ a. refl))
