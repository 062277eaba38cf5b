-- What each step does to key acts.
use Rattle.std.proofs.Common.{◌≡◌, ◌∙◌, ℕ, true, refl, arith, sym, ap, subst, List, [], ◌∷◌, ◌++◌, Option, Some, None, ◌&&◌, ◌==◌}
use Rattle.std.specs.Prelude.{option_map, slice_get}
use Rattle.std.proofs.lemmas.Bool.Decides.{nat_tests}
use Rattle.std.proofs.lemmas.Bool.{and_parts}
use Rattle.std.proofs.lemmas.List.{append-nil}
use Rattle.mk_lists.proofs.Changes.{find-change}
use Rattle.mk_txn.specs.declared.Value.{Value}
use Rattle.mk_txn.specs.declared.Value.TheVariants.{Number, Absent}
use Rattle.mk_txn.specs.Stamps.{same_stamp}
use Rattle.mk_txn.specs.Transactions.{Transaction, same_value}
use Rattle.mk_txn.proofs.StampOrder.{same_stamp-tells}
use Rattle.mk_words.specs.declared.Act.{Act}
use Rattle.mk_words.specs.declared.Act.TheVariants.{Get, CheckRead, CheckWrite, CommitRead, CommitWrite, ReleaseRead, ReleaseWrite}
use Rattle.mk_words.specs.declared.Answer.{Answer}
use Rattle.mk_words.specs.Acts.{same_act}
use Rattle.mk_words.specs.Entries.{entry_of}
use Rattle.mk_quorum.specs.Slots.{passes}
use Rattle.mk_words.specs.Checks.{KeyAct}
use Rattle.mk_words.specs.Validations.{ValidationState, next_act, after_answer, vote_of}
use Rattle.mk_words.specs.declared.KeyCall.{KeyCall}
use Rattle.mk_words.specs.declared.Step.{Step}
use Rattle.mk_words.specs.declared.Step.TheVariants.{Begin, Unread, Read, Stamp, Validate, Take, Key, Rule, Again, Takeover, Pick as PickStep, Stop}
use Rattle.mk_model.specs.ColumnState.{ColumnState, AttemptState, Work, entries_at, attempt_of, is_attempt}
use Rattle.mk_model.specs.ColumnState.Work.{Idle, Fetching, Validating, Finishing}
use Rattle.mk_model.specs.Conditions.{conditions, same_call, call_at, wanted}
use Rattle.mk_txn.specs.declared.TxnId.{TxnId}
use Rattle.mk_model.specs.Replicas.{finishing}
use Rattle.mk_model.specs.Steps.{epoch_of, with_read, answered, validated}
use Rattle.mk_model.proofs.Frames.{AllTrue}
use Rattle.mk_column_laws.specs.Moments.{Moment, PastAct, Taught, step_done, act_of, remembered}
use Rattle.mk_column_laws.specs.Moves.{past_opened}
use Rattle.mk_column_laws.specs.Facts.{Facts}
use Rattle.mk_column_laws.specs.KeyActs.{act_at}
use Rattle.mk_column_laws.proofs.SortedEntries.{validated_entry}
use Rattle.mk_column_laws.proofs.SortedSteps.{idle_from}

-- an act that is done now, at this replica
abbrev pub act_now : Moment → ℕ → KeyAct → Answer → PastAct
act_now m r act answer = act_at m.past.now r (epoch_of (slice_get m.round.views r)) act answer

-- no act is done, or the act that is wanted is
pub data ActMove (m next : Moment) : Type 0 where
  NoAct : next.past.acts ≡ m.past.acts → m.column.work ≡ Idle → ActMove m next
  ActFetched : (id : TxnId) (r key : ℕ) (answer : Answer) → m.column.work ≡ Fetching id r key →
      ((a : AttemptState) → attempt_of m.column id ≡ Some a → attempt_of next.column id ≡ Some (with_read key answer a)) →
      next.past.acts ≡ m.past.acts ++ act_now m r (key, Get) answer ∷ [] → next.column.work ≡ Idle → ActMove m next
  ActChecked : (txn : Transaction) (r epoch : ℕ) (state : ValidationState) (act : KeyAct) (answer : Answer) → next.past.now ≡ m.past.now → m.column.work ≡ Validating txn r epoch state → next_act state ≡ Some act →
      next.past.acts ≡ m.past.acts ++ act_now m r act answer ∷ [] → next.column.work ≡ Validating txn r epoch (after_answer state answer) → ActMove m next
  ActVoted : (txn : Transaction) (r epoch : ℕ) (state : ValidationState) (act : KeyAct) (answer : Answer) → next.past.now ≡ m.past.now → m.column.work ≡ Validating txn r epoch state → next_act state ≡ Some act →
      next.past.acts ≡ m.past.acts ++ act_now m r act answer ∷ [] → next_act (after_answer state answer) ≡ None → next.column.work ≡ Idle →
      (let opened_one = past_opened txn in next.past.entries r txn.id ≡ Some (record opened_one { vote = Some (vote_of (after_answer state answer), m.past.now) })) → ActMove m next
  ActFinished : (r : ℕ) (act : KeyAct) (left : List KeyAct) (answer : Answer) → next.past.now ≡ m.past.now → next.round ≡ m.round → m.column.work ≡ Finishing r (act ∷ left) →
      next.past.acts ≡ m.past.acts ++ act_now m r act answer ∷ [] → next.column.work ≡ finishing r left → ActMove m next

same_value-tells : (a b : Value) → same_value a b ≡ true → a ≡ b
same_value-tells (Number a) (Number b) e = (let k : a ≡ b = grind (arith, nat_tests, e) in ap Number k)
same_value-tells (Number a) Absent e = absurd (cc e)
same_value-tells Absent (Number b) e = absurd (cc e)
same_value-tells Absent Absent e = refl

same_act-tells : (a b : Act) → same_act a b ≡ true → a ≡ b
same_act-tells Get Get e = refl
same_act-tells (CheckRead ts v) (CheckRead ts' v') e =
    let p = same_stamp-tells ts ts' (and_parts (same_stamp ts ts') (same_stamp v v') e).0 in
    let q = same_stamp-tells v v' (and_parts (same_stamp ts ts') (same_stamp v v') e).1 in
    λ i. CheckRead (p i) (q i)
same_act-tells (CheckWrite ts) (CheckWrite ts') e = ap CheckWrite (same_stamp-tells ts ts' e)
same_act-tells (CommitRead ts) (CommitRead ts') e = ap CommitRead (same_stamp-tells ts ts' e)
same_act-tells (CommitWrite ts v) (CommitWrite ts' v') e =
    let p = same_stamp-tells ts ts' (and_parts (same_stamp ts ts') (same_value v v') e).0 in
    let q = same_value-tells v v' (and_parts (same_stamp ts ts') (same_value v v') e).1 in
    λ i. CommitWrite (p i) (q i)
same_act-tells (ReleaseRead ts) (ReleaseRead ts') e = ap ReleaseRead (same_stamp-tells ts ts' e)
same_act-tells (ReleaseWrite ts) (ReleaseWrite ts') e = ap ReleaseWrite (same_stamp-tells ts ts' e)
same_act-tells _ _ e = absurd (cc e)

same_call-tells : (a b : KeyCall) → same_call a b ≡ true → a ≡ b
same_call-tells a b e =
    let two = (and_parts (a.replica == b.replica && a.key == b.key) (same_act a.act b.act) e).0 in
    let p : a.replica ≡ b.replica = grind (arith, nat_tests, two) in
    let q : a.key ≡ b.key = grind (arith, nat_tests, two) in
    let s = same_act-tells a.act b.act (and_parts (a.replica == b.replica && a.key == b.key) (same_act a.act b.act) e).1 in
    λ i. record { replica = p i; key = q i; act = s i }

module _ (taught : Taught) (m : Moment) (h : Facts taught m) where
  -- the step that is this call
  acts_then : (call other : KeyCall) (answer : Answer) → call ≡ other → (step_done (Key call answer) m).past.acts ≡ m.past.acts ++ act_of m.round m.past.now (Key other answer)
  acts_then call other answer e = ap (λ (c : KeyCall). m.past.acts ++ act_of m.round m.past.now (Key c answer)) e

  work_then : (call : KeyCall) (answer : Answer) (w : Work) → m.column.work ≡ w → (step_done (Key call answer) m).column.work ≡ (answered answer w m.column).work
  work_then call answer w e = ap (λ (x : Work). (answered answer x m.column).work) e

  module _ (call : KeyCall) (answer : Answer) where
    next : Moment
    next = step_done (Key call answer) m

    validating_move : (txn : Transaction) (r ep : ℕ) (state : ValidationState) (act : KeyAct) → m.column.work ≡ Validating txn r ep state → next_act state ≡ Some act → call ≡ call_at r act →
        (o : Option KeyAct) → next_act (after_answer state answer) ≡ o → ActMove m (step_done (Key call answer) m)
    validating_move txn r ep state act w is same (Some more) o =
        ActChecked txn r ep state act answer refl w is (acts_then call (call_at r act) answer same)
        (work_then call answer (Validating txn r ep state) w ∙ ap (λ (x : Option KeyAct). (validated txn r ep (after_answer state answer) x m.column).work) o)
    validating_move txn r ep state act w is same None o =
        let path : answered answer m.column.work m.column ≡ validated txn r ep (after_answer state answer) None m.column =
        ap (λ (x : Work). answered answer x m.column) w ∙ ap (λ (x : Option KeyAct). validated txn r ep (after_answer state answer) x m.column) o in
        let opened_one = past_opened txn in
        ActVoted txn r ep state act answer refl w is (acts_then call (call_at r act) answer same) o
        (work_then call answer (Validating txn r ep state) w ∙ ap (λ (x : Option KeyAct). (validated txn r ep (after_answer state answer) x m.column).work) o)
        (subst (λ (c : ColumnState). remembered m.past.now (m.past.entries r txn.id) (entry_of txn.id (entries_at c r)) ≡ Some (record opened_one { vote = Some (vote_of (after_answer state answer), m.past.now) })) (sym path)
        (validated_entry taught m h (Key call answer) txn r ep state answer w))

    fetched_then : (id : TxnId) (r key : ℕ) → m.column.work ≡ Fetching id r key → (a : AttemptState) → attempt_of m.column id ≡ Some a →
        attempt_of (step_done (Key call answer) m).column id ≡ Some (with_read key answer a)
    fetched_then id r key e a found =
        ap (λ (w : Work). attempt_of (answered answer w m.column) id) e
        ∙ find-change (is_attempt id) (with_read key answer) m.column.attempts (λ _. refl) ∙ ap (option_map (with_read key answer)) found

    key_move : (w : Work) → m.column.work ≡ w → passes (same_call call) (wanted w) ≡ true → ActMove m (step_done (Key call answer) m)
    key_move Idle e t = absurd (cc t)
    key_move (Fetching id r key) e t =
        ActFetched id r key answer e (λ a found. fetched_then id r key e a found) (acts_then call (record { replica = r; key = key; act = Get }) answer (same_call-tells call (record { replica = r; key = key; act = Get }) t)) (work_then call answer (Fetching id r key) e)
    key_move (Validating txn r ep state) e t = by (next_act state) refl t
      where
        by : (o : Option KeyAct) → next_act state ≡ o → passes (same_call call) (option_map (call_at r) o) ≡ true → ActMove m (step_done (Key call answer) m)
        by None is k = absurd (cc k)
        by (Some act) is k = validating_move txn r ep state act e is (same_call-tells call (call_at r act) k) (next_act (after_answer state answer)) refl
    key_move (Finishing r []) e t = absurd (cc t)
    key_move (Finishing r (act ∷ left)) e t =
        ActFinished r act left answer refl refl e (acts_then call (call_at r act) answer (same_call-tells call (call_at r act) t)) (work_then call answer (Finishing r (act ∷ left)) e)

  pub act_moves : (step : Step) → AllTrue (conditions m.round m.column step) → ActMove m (step_done step m)
  act_moves (Key call answer) c = key_move call answer m.column.work refl c.0
  act_moves (Begin client replica) c = NoAct (sym ((sym (append-nil m.past.acts)))) (idle_from m.column.work c.0)
  act_moves (Unread client) c = NoAct (sym ((sym (append-nil m.past.acts)))) (idle_from m.column.work c.0)
  act_moves (Read id key) c = NoAct (sym ((sym (append-nil m.past.acts)))) (idle_from m.column.work c.0)
  act_moves (Stamp id clock writes) c = NoAct (sym ((sym (append-nil m.past.acts)))) (idle_from m.column.work c.0)
  act_moves (Validate id) c = NoAct (sym ((sym (append-nil m.past.acts)))) (idle_from m.column.work c.0)
  act_moves (Take number) c = NoAct (sym ((sym (append-nil m.past.acts)))) (idle_from m.column.work c.0)
  act_moves (Rule id) c = NoAct (sym ((sym (append-nil m.past.acts)))) (idle_from m.column.work c.0)
  act_moves (Again id) c = NoAct (sym ((sym (append-nil m.past.acts)))) (idle_from m.column.work c.0)
  act_moves (Takeover id view) c = NoAct (sym ((sym (append-nil m.past.acts)))) (idle_from m.column.work c.0)
  act_moves (PickStep id view) c = NoAct (sym ((sym (append-nil m.past.acts)))) (idle_from m.column.work c.0)
  act_moves (Stop id) c = NoAct (sym ((sym (append-nil m.past.acts)))) (idle_from m.column.work c.0)
