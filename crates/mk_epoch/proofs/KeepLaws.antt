-- What each change leaves, as the call that makes it sees it: by the item that stands at a place.
use Rattle.std.proofs.Common.{◌≡◌, ◌≤◌, ◌<◌, ℕ, refl, arith, sym, ap, ◌∙◌, List, Some, subst, length}
use Rattle.std.specs.Prelude.{slice_get, slice_set, slice_index_or}
use Rattle.std.proofs.lemmas.Option.{slice_get_read}
use Rattle.mk_quorum.specs.Sizes.{members}
use Rattle.mk_words.specs.declared.Phase.TheVariants.{Paused, Adopted, Lacking}
use Rattle.mk_merge.specs.declared.Promise.{Promise}
use Rattle.mk_epoch.specs.declared.replica.Replica.{Replica}
use Rattle.mk_epoch.specs.Changes.{ChangeView, change_for, asked_for, with_asked, grown_to, promised_to, adopted_by}
use Rattle.mk_epoch.specs.Standing.{ReplicasView, IsKept, word_at}
use Rattle.mk_epoch.proofs.RowLaws.{row_is, grown-length}
use Rattle.mk_epoch.proofs.AnswerLaws.{some_same}
use Rattle.mk_epoch.proofs.KeptLaws.{kept_asked, kept_replica, kept_promised, kept_adopted, word_low, word_within, few_replicas}

-- a replica of a new form, and a change of a new form
abbrev pub both_set : {B : Type 0} → ℕ → ℕ → Replica B → ChangeView B → ReplicasView B → ReplicasView B
both_set r epoch replica row view = record { faults = view.faults; replicas = slice_set view.replicas r replica; changes = slice_set view.changes epoch row }

abbrev pub replica_set : {B : Type 0} → ℕ → Replica B → ReplicasView B → ReplicasView B
replica_set r replica view = record { faults = view.faults; replicas = slice_set view.replicas r replica; changes = view.changes }

abbrev pub new_adopter : {B : Type 0} → ℕ → B → Replica B
new_adopter epoch taken = record { word = epoch; phase = Adopted; adopted = epoch; base = taken }

module _ {B : Type 0} (old now : ReplicasView B) (is : old ≡ now) (k : IsKept old) where
  pub there : (r : ℕ) (kept : Replica B) → r < members now.faults → kept ≡ slice_index_or old.replicas r kept → slice_get old.replicas r ≡ Some kept
  there r kept h e = slice_get_read old.replicas (members old.faults) r kept (sym k.members) (subst (λ (v : ReplicasView B). r < members v.faults) (sym is) h) e

  pub row_there : (epoch : ℕ) (row : ChangeView B) → epoch < length now.changes → row ≡ slice_index_or old.changes epoch row → row ≡ change_for epoch old.changes
  row_there epoch row h e =
      let low = subst (λ (v : ReplicasView B). epoch < length v.changes) (sym is) h in
      sym (some_same (change_for epoch old.changes) row (sym (row_is old.changes epoch low) ∙ slice_get_read old.changes (length old.changes) epoch row refl low e))

  pub seen : (r : ℕ) (kept : Replica B) → slice_get old.replicas r ≡ Some kept → slice_get now.replicas r ≡ Some kept
  seen r kept at = subst (λ (v : ReplicasView B). slice_get v.replicas r ≡ Some kept) is at

  module _ (epoch r : ℕ) (kept : Replica B) (in_range : r < members now.faults) (at : kept ≡ slice_index_or old.replicas r kept) where
    found : slice_get old.replicas r ≡ Some kept
    found = there r kept in_range at

    module _ (row after : ChangeView B) (row_in : epoch < length now.changes) (row_at : row ≡ slice_index_or old.changes epoch row) where
      low : epoch < length old.changes
      low = subst (λ (v : ReplicasView B). epoch < length v.changes) (sym is) row_in

      within : word_at now.replicas r ≤ epoch → kept.word ≤ epoch
      within w = word_within old.replicas r epoch kept found (subst (λ (v : ReplicasView B). word_at v.replicas r ≤ epoch) (sym is) w)

      below : word_at now.replicas r < epoch → kept.word < epoch
      below w = word_low old.replicas r epoch kept found (subst (λ (v : ReplicasView B). word_at v.replicas r < epoch) (sym is) w)

      pub adopted_kept : (taken : B) → word_at now.replicas r ≤ epoch → after ≡ adopted_by r row → IsKept (both_set r epoch (new_adopter epoch taken) after old)
      adopted_kept taken w e =
          subst (λ (c : ChangeView B). IsKept (both_set r epoch (new_adopter epoch taken) c old))
          (sym (e ∙ ap (adopted_by r) (row_there epoch row row_in row_at)))
          (kept_adopted old k epoch r kept (new_adopter epoch taken) found (within w) low)

      pub adopted_now : (taken : B) → after ≡ adopted_by r row → (x : Replica B) × (slice_get now.replicas r ≡ Some x)
          × (both_set r epoch (new_adopter epoch taken) after old ≡ both_set r epoch (new_adopter epoch taken) (adopted_by r (change_for epoch now.changes)) now)
      adopted_now taken e = (
        kept,
        seen r kept found,
        ap (λ (c : ChangeView B). both_set r epoch (new_adopter epoch taken) c old) (e ∙ ap (adopted_by r) (row_there epoch row row_in row_at))
            ∙ ap (λ (v : ReplicasView B). both_set r epoch (new_adopter epoch taken) (adopted_by r (change_for epoch v.changes)) v) is,
      )

      pub adopted_few : (r < 7) × (length (change_for epoch now.changes).adopters ≡ 7)
      adopted_few = (few_replicas old k r (subst (λ (v : ReplicasView B). r < members v.faults) (sym is) in_range), subst (λ (v : ReplicasView B). length (change_for epoch v.changes).adopters ≡ 7) is (k.adopters epoch))

      pub promised_kept : (promise : Promise B) (new : Replica B) → word_at now.replicas r < epoch → new ≡ record kept { word = epoch; phase = Paused } → after ≡ promised_to promise row →
          IsKept (both_set r epoch new after old)
      promised_kept promise new w n e =
          subst (λ (x : Replica B). IsKept (both_set r epoch x after old)) (sym n)
          (subst (λ (c : ChangeView B). IsKept (both_set r epoch (record kept { word = epoch; phase = Paused }) c old))
          (sym (e ∙ ap (promised_to promise) (row_there epoch row row_in row_at)))
          (kept_promised old k epoch r kept promise found (below w) low))

      pub promised_now : (promise : Promise B) (new : Replica B) → new ≡ record kept { word = epoch; phase = Paused } → after ≡ promised_to promise row → (x : Replica B) × (slice_get now.replicas r ≡ Some x)
          × (both_set r epoch new after old ≡ both_set r epoch (record x { word = epoch; phase = Paused }) (promised_to promise (change_for epoch now.changes)) now)
      promised_now promise new n e = (
        kept,
        seen r kept found,
        ap (λ (x : Replica B). both_set r epoch x after old) n
            ∙ ap (λ (c : ChangeView B). both_set r epoch (record kept { word = epoch; phase = Paused }) c old) (e ∙ ap (promised_to promise) (row_there epoch row row_in row_at))
            ∙ ap (λ (v : ReplicasView B). both_set r epoch (record kept { word = epoch; phase = Paused }) (promised_to promise (change_for epoch v.changes)) v) is,
      )

    pub lost_kept : (empty : B) (new : Replica B) → new ≡ record kept { phase = Lacking; adopted = 0; base = empty } → IsKept (replica_set r new old)
    lost_kept empty new n = kept_replica old k r kept new found (omega (arith, ap (λ (x : Replica B). x.word) n))

    pub lost_now : (empty : B) (new : Replica B) → new ≡ record kept { phase = Lacking; adopted = 0; base = empty } → (x : Replica B) × (slice_get now.replicas r ≡ Some x)
        × (replica_set r new old ≡ replica_set r (record x { phase = Lacking; adopted = 0; base = empty }) now)
    lost_now empty new n = (
      kept,
      seen r kept found,
      ap (λ (x : Replica B). replica_set r x old) n ∙ ap (λ (v : ReplicasView B). replica_set r (record kept { phase = Lacking; adopted = 0; base = empty }) v) is,
    )

abbrev pub as_changed : {B : Type 0} → ReplicasView B → List (ChangeView B) → ReplicasView B
as_changed view changes = record { faults = view.faults; replicas = view.replicas; changes = changes }

-- the row of an epoch that was asked for, in a list that has grown to it
module _ {B : Type 0} (old : ReplicasView B) (epoch : ℕ) (grown : List (ChangeView B)) (row after : ChangeView B) (is : grown ≡ grown_to epoch old.changes) (at : row ≡ slice_index_or grown epoch row) (asked : after ≡ asked_for row) where
  changes_are : slice_set grown epoch after ≡ with_asked epoch old.changes
  changes_are =
      ap (λ c. slice_set grown epoch c) (asked ∙ ap asked_for (place grown is row at))
      ∙ ap (λ cs. slice_set cs epoch (asked_for (change_for epoch cs))) is
    where
      place : (cs : List (ChangeView B)) → cs ≡ grown_to epoch old.changes → (r : ChangeView B) → r ≡ slice_index_or cs epoch r → r ≡ change_for epoch cs
      place cs e r k =
          let low = subst (λ (xs : List (ChangeView B)). epoch < length xs) (sym e) (grown-length old.changes epoch) in
          sym (some_same (change_for epoch cs) r (sym (row_is cs epoch low) ∙ slice_get_read cs (length cs) epoch r refl low k))

  pub asked_kept : IsKept old → IsKept (record { faults = old.faults; replicas = old.replicas; changes = slice_set grown epoch after })
  asked_kept k = subst (λ cs. IsKept (record { faults = old.faults; replicas = old.replicas; changes = cs })) (sym changes_are) (kept_asked old k epoch)

  pub asked_now : (now : ReplicasView B) → old ≡ now → ◌≡◌ {A = ReplicasView B} (record { faults = old.faults; replicas = old.replicas; changes = slice_set grown epoch after }) (record now { changes = with_asked epoch now.changes })
  asked_now now e = ap (λ cs. as_changed old cs) changes_are ∙ ap (λ v. as_changed v (with_asked epoch v.changes)) e
