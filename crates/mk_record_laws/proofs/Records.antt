-- An entry is opened where its attempt's epoch is served, and no attempt has two in a record.
use Rattle.std.proofs.Common.{◌≡◌, ◌⊎◌, ◌∙◌, ℕ, true, refl, inl, inr, sym, ap, subst, List, [], ◌∷◌, Option, Some, None}
use Rattle.std.specs.Prelude.{is_some, slice_get}
use Rattle.mk_txn.specs.declared.TxnId.{TxnId}
use Rattle.mk_txn.proofs.IdOrder.{same_id-tells}
use Rattle.mk_words.specs.declared.Entry.{Entry}
use Rattle.mk_words.specs.Entries.{opened, entry_of, is_entry_of, HasDistinctIds}
use Rattle.mk_lists.specs.Among.{AllDistinct}
use Rattle.mk_lists.proofs.Lookups.{find_push_cases}
use Rattle.mk_lists.proofs.Changes.{map-change}
use Rattle.mk_quorum.specs.Sizes.{members}
use Rattle.mk_model.specs.ColumnState.{ColumnState, AttemptState, attempt_of, entries_at}
use Rattle.mk_model.specs.Logs.{replica_reset}
use Rattle.mk_model.specs.Replicas.{serves}
use Rattle.mk_model.specs.Steps.{stepped}
use Rattle.mk_words.specs.declared.Step.{Step}
use Rattle.mk_model.proofs.Frames.{enabled}
use Rattle.mk_column_laws.specs.Moments.{Moment, Taught, StaysTaught, Event, CanHappen, after_event, replicas_reset}
use Rattle.mk_column_laws.specs.Moments.Event.{NewRound, Doing}
use Rattle.mk_column_laws.specs.Facts.{Facts}
use Rattle.mk_column_laws.specs.Identity.{Identity}
use Rattle.mk_column_laws.proofs.Rounds.{reached_facts, no_entries}
use Rattle.mk_record_laws.specs.Records.{RecordsOpenWhereServed, RecordsAreDistinct, EntriesAreFound}
use Rattle.mk_record_laws.proofs.Shapes.{EntriesReady, EntriesChange, EntriesMove, RecordStep}
use Rattle.mk_record_laws.proofs.ReactionShapes.{changed_found}
use Rattle.mk_record_laws.proofs.StepShapes.{step_shape, set_at}
use Rattle.mk_record_laws.proofs.Distinct.{distinct_push, found_of}
use Rattle.mk_record_laws.proofs.Always.{always}

-- ---- what is found was found before

change_back : (id x : TxnId) (old new : List Entry) (entry : Entry) → EntriesChange id old new → entry_of x new ≡ Some entry → is_some (entry_of x old) ≡ true
change_back id x old new entry k e =
    elim (changed_found id x k.0 old entry k.1 (ap (entry_of x) (sym k.2) ∙ e)) [ inl was ↦ ap is_some was.1 | inr was ↦ ap is_some was.1.1 ]

ready_back : (id x : TxnId) (old ready : List Entry) (entry : Entry) → EntriesReady id old ready → entry_of x ready ≡ Some entry → (is_some (entry_of x old) ≡ true) ⊎ (x ≡ id)
ready_back id x old ready entry (inl same) e = inl (ap (λ (l : List Entry). is_some (entry_of x l)) (sym same) ∙ ap is_some e)
ready_back id x old ready entry (inr k) e =
    elim (find_push_cases (is_entry_of x) old (opened k.0) entry (ap (entry_of x) (sym k.3) ∙ e)) [
      | inl there ↦ inl (ap is_some there)
      | inr new ↦ inr (sym (same_id-tells k.0.id x new.1.1) ∙ k.1)
    ]

move_back : (id x : TxnId) (old new : List Entry) (entry : Entry) → EntriesMove id old new → entry_of x new ≡ Some entry → (is_some (entry_of x old) ≡ true) ⊎ (x ≡ id)
move_back id x old new entry k e = by k.2
  where
    from_ready : is_some (entry_of x k.0) ≡ true → (is_some (entry_of x old) ≡ true) ⊎ (x ≡ id)
    from_ready t = at (entry_of x k.0) refl t
      where
        at : (o : Option Entry) → entry_of x k.0 ≡ o → is_some o ≡ true → (is_some (entry_of x old) ≡ true) ⊎ (x ≡ id)
        at None q s = absurd (cc s)
        at (Some there) q s = ready_back id x old k.0 there k.1 q

    by : (new ≡ k.0) ⊎ EntriesChange id k.0 new → (is_some (entry_of x old) ≡ true) ⊎ (x ≡ id)
    by (inl same) = ready_back id x old k.0 entry k.1 (ap (entry_of x) (sym same) ∙ e)
    by (inr change) = from_ready (change_back id x k.0 new entry change e)

pub records_open : RecordsOpenWhereServed
records_open taught stays m reached step able r id entry found =
    let h = reached_facts taught stays m reached in
    by ((step_shape taught m h step (enabled m.round m.column step able)).entries r)
  where
    by : RecordStep m step r (entries_at (stepped m.round m.column step) r) →
        (is_some (entry_of id (entries_at m.column r)) ≡ true)
        ⊎ ((a : AttemptState) × (attempt_of m.column id ≡ Some a) × (serves a.epoch (slice_get m.round.views r) ≡ true))
    by (inl same) = inl (ap (λ (l : List Entry). is_some (entry_of id l)) (sym same) ∙ ap is_some found)
    by (inr (inl k)) = inl (change_back k.0 id (entries_at m.column r) (entries_at (stepped m.round m.column step) r) entry k.1 found)
    by (inr (inr k)) = elim (move_back k.0 id (entries_at m.column r) (entries_at (stepped m.round m.column step) r) entry k.4 found) [
      | inl there ↦ inl there
      | inr same ↦ inr (k.1, subst (λ (x : TxnId). attempt_of m.column x ≡ Some k.1) (sym same) k.2, k.3)
    ]

-- ---- no attempt has two entries

abbrev number_in : Entry → TxnId
number_in entry = entry.txn.id

change_distinct : (id : TxnId) (old new : List Entry) → EntriesChange id old new → HasDistinctIds old → HasDistinctIds new
change_distinct id old new k d =
    subst HasDistinctIds (sym k.2) (subst AllDistinct (sym (map-change number_in (is_entry_of id) k.0 (λ e. ap (λ t. t.id) (k.1 e)) old)) d)

ready_distinct : (id : TxnId) (old ready : List Entry) → EntriesReady id old ready → HasDistinctIds old → HasDistinctIds ready
ready_distinct id old ready (inl same) d = subst HasDistinctIds (sym same) d
ready_distinct id old ready (inr k) d = subst HasDistinctIds (sym k.3) (distinct_push number_in id old (opened k.0) k.1 k.2 d)

step_distinct : (m : Moment) (step : Step) (r : ℕ) (new : List Entry) → RecordStep m step r new → HasDistinctIds (entries_at m.column r) → HasDistinctIds new
step_distinct m step r new (inl same) d = subst HasDistinctIds (sym same) d
step_distinct m step r new (inr (inl k)) d = change_distinct k.0 (entries_at m.column r) new k.1 d
step_distinct m step r new (inr (inr k)) d =
    let ready = ready_distinct k.0 (entries_at m.column r) k.4.0 k.4.1 d in
    elim k.4.2 [ inl same ↦ subst HasDistinctIds (sym same) ready | inr change ↦ change_distinct k.0 k.4.0 new change ready ]

-- what holds of no entries, and of the records, holds of the records after resets
pub resets_keep : (P : List Entry → Type 0) → P [] → (resets : List ℕ) (c : ColumnState) → ((r : ℕ) → P (entries_at c r)) → (r : ℕ) → P (entries_at (replicas_reset resets c) r)
resets_keep P none [] c h r = h r
resets_keep P none (q ∷ resets) c h r =
    resets_keep P none resets (replica_reset q c)
    (λ n. elim (set_at c.records q n [] []) [ inl k ↦ subst P (sym k.1) none | inr k ↦ subst P (sym k) (h n) ]) r

abbrev DistinctAt : Taught → Moment → Type 0
DistinctAt taught m = (r : ℕ) → HasDistinctIds (entries_at m.column r)

event_distinct : (taught : Taught) → StaysTaught taught → (m : Moment) → Facts taught m → Identity m.column.clients m.column.attempts → (event : Event) → CanHappen taught event m → DistinctAt taught m → DistinctAt taught (after_event event m)
event_distinct taught stays m h ids (NewRound views resets) can d r = resets_keep HasDistinctIds tt resets m.column d r
event_distinct taught stays m h ids (Doing step) can d r =
    step_distinct m step r _ ((step_shape taught m h step (enabled m.round m.column step can)).entries r) (d r)

pub records_are_distinct : RecordsAreDistinct
records_are_distinct = always DistinctAt (λ taught version f keys clients r. subst HasDistinctIds (sym (no_entries (members f) r)) tt) event_distinct

pub entries_are_found : EntriesAreFound
entries_are_found taught stays m reached r entry a = found_of number_in (entries_at m.column r) (records_are_distinct taught stays m reached r) entry a
