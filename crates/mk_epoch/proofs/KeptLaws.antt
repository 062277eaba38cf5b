-- What is kept at all times stays so under each change.
use Rattle.std.proofs.Common.{◌≡◌, ◌≤◌, ◌<◌, ℕ, suc, true, false, refl, arith, inl, inr, sym, ◌∙◌, List, [], ◌∷◌, ◌++◌, Some, subst, length}
use Rattle.std.proofs.lemmas.Bool.Decides.{nat_tests}
use Rattle.std.specs.Prelude.{slice_get, slice_set, filter, nat_le, ◌+◌, ◌-◌}
use Rattle.mk_lists.specs.Changed.{change}
use Rattle.mk_quorum.specs.Sizes.{members}
use Rattle.mk_words.specs.declared.Phase.TheVariants.{Paused}
use Rattle.mk_merge.specs.declared.Promise.{Promise}
use Rattle.mk_epoch.specs.declared.replica.Replica.{Replica}
use Rattle.mk_epoch.specs.Changes.{ChangeView, change_for, asked_for, with_asked, grown_to, promised_to, made_as, adopted_by}
use Rattle.mk_epoch.specs.Standing.{ReplicasView, IsKept, word_at, waits_for, now_serving}
use Rattle.mk_lists.proofs.Changes.{length-change}
use Rattle.mk_epoch.proofs.RowLaws.{same_or_not, change_for-set_same, change_for-set_other, change_for-more, grown-length, length-set_at, length-append, reached-risen, reached-one, reached-changed, reached-few}
use Rattle.mk_epoch.proofs.AnswerLaws.{word_of}

le_tells : (a b : ℕ) → nat_le a b ≡ true → a ≤ b
le_tells a b e = grind (arith, nat_tests)

le_same : (a b : ℕ) → a ≤ b → nat_le a b ≡ true
le_same a b h = grind (arith, nat_tests)

le_not : (a b : ℕ) → b < a → nat_le a b ≡ false
le_not a b h = grind (arith, nat_tests)

module _ {B : Type 0} where
  -- how many replicas' words have reached an epoch
  abbrev reach : ℕ → List (Replica B) → ℕ
  reach epoch replicas = length (filter (λ (r : Replica B). nat_le epoch r.word) replicas)

  each_row : (P : ChangeView B → ℕ → Type 0) (changes : List (ChangeView B)) (epoch : ℕ) (row : ChangeView B) → epoch < length changes → P row epoch →
      ((e : ℕ) → (e ≡ epoch → ⊥) → P (change_for e changes) e) → (e : ℕ) → P (change_for e (slice_set changes epoch row)) e
  each_row P changes epoch row h here there e = elim (same_or_not e epoch) [
    | inl same ↦ subst (λ n. P (change_for n (slice_set changes epoch row)) n) (sym same) (subst (λ (c : ChangeView B). P c epoch) (sym (change_for-set_same changes epoch row h)) here)
    | inr apart ↦ subst (λ (c : ChangeView B). P c e) (sym (change_for-set_other changes epoch e row apart)) (there e apart)
  ]

  pub kept_first : (f : ℕ) (rs : List (Replica B)) → f ≤ 3 → length rs ≡ members f → IsKept (record { faults = f; replicas = rs; changes = [] })
  kept_first f rs small n = record { small = small; members = n; promised = λ epoch. omega arith; adopters = λ epoch. refl }

  module _ (old : ReplicasView B) (k : IsKept old) where
    pub kept_asked : (epoch : ℕ) → IsKept (record old { changes = with_asked epoch old.changes })
    kept_asked epoch = record {
      small = k.small;
      members = k.members;
      promised = each_row (λ c e. length c.promises ≤ reach e old.replicas) (grown_to epoch old.changes) epoch (asked_for (change_for epoch (grown_to epoch old.changes))) (grown-length old.changes epoch) (few epoch) (λ e ne. few e);
      adopters = each_row (λ c e. length c.adopters ≡ 7) (grown_to epoch old.changes) epoch (asked_for (change_for epoch (grown_to epoch old.changes))) (grown-length old.changes epoch) (seven epoch) (λ e ne. seven e);
    }
      where
        few : (e : ℕ) → length (change_for e (grown_to epoch old.changes)).promises ≤ reach e old.replicas
        few e = subst (λ (c : ChangeView B). length c.promises ≤ reach e old.replicas) (sym (change_for-more old.changes (epoch + 1 - length old.changes) e)) (k.promised e)

        seven : (e : ℕ) → length (change_for e (grown_to epoch old.changes)).adopters ≡ 7
        seven e = subst (λ (c : ChangeView B). length c.adopters ≡ 7) (sym (change_for-more old.changes (epoch + 1 - length old.changes) e)) (k.adopters e)

    -- a replica whose word did not fall
    risen : (r : ℕ) (kept new : Replica B) → slice_get old.replicas r ≡ Some kept → kept.word ≤ new.word → (e : ℕ) → reach e old.replicas ≤ reach e (slice_set old.replicas r new)
    risen r kept new at up e = reached-risen (λ (x : Replica B). nat_le e x.word) old.replicas r kept new at (λ t. le_same e new.word (omega (arith, le_tells e kept.word t, up)))

    pub kept_replica : (r : ℕ) (kept new : Replica B) → slice_get old.replicas r ≡ Some kept → kept.word ≤ new.word → IsKept (record old { replicas = slice_set old.replicas r new })
    kept_replica r kept new at up = record {
      small = k.small;
      members = length-set_at old.replicas r new ∙ k.members;
      promised = λ e. omega (arith, k.promised e, risen r kept new at up e);
      adopters = k.adopters;
    }

    pub kept_promised : (epoch r : ℕ) (kept : Replica B) (promise : Promise B) → slice_get old.replicas r ≡ Some kept → kept.word < epoch → epoch < length old.changes →
        IsKept (record old { replicas = slice_set old.replicas r (record kept { word = epoch; phase = Paused }); changes = slice_set old.changes epoch (promised_to promise (change_for epoch old.changes)) })
    kept_promised epoch r kept promise at below row = record {
      small = k.small;
      members = length-set_at old.replicas r (record kept { word = epoch; phase = Paused }) ∙ k.members;
      promised = each_row (λ c e. length c.promises ≤ reach e (slice_set old.replicas r (record kept { word = epoch; phase = Paused }))) old.changes epoch (promised_to promise (change_for epoch old.changes)) row
          (omega (arith, k.promised epoch, one, more))
          (λ e ne. omega (arith, k.promised e, risen r kept (record kept { word = epoch; phase = Paused }) at (omega (arith, below)) e));
      adopters = each_row (λ c e. length c.adopters ≡ 7) old.changes epoch (promised_to promise (change_for epoch old.changes)) row (k.adopters epoch) (λ e ne. k.adopters e);
    }
      where
        one : reach epoch (slice_set old.replicas r (record kept { word = epoch; phase = Paused })) ≡ suc (reach epoch old.replicas)
        one = reached-one (λ (x : Replica B). nat_le epoch x.word) old.replicas r kept (record kept { word = epoch; phase = Paused }) at (le_not epoch kept.word below) (le_same epoch epoch (omega arith))

        more : length ((change_for epoch old.changes).promises ++ promise ∷ []) ≡ length (change_for epoch old.changes).promises + 1
        more = length-append (change_for epoch old.changes).promises (promise ∷ [])

    pub kept_merged : (epoch : ℕ) (made : B) → epoch < length old.changes → IsKept (record old { changes = slice_set old.changes epoch (made_as made (change_for epoch old.changes)) })
    kept_merged epoch made row = record {
      small = k.small;
      members = k.members;
      promised = each_row (λ c e. length c.promises ≤ reach e old.replicas) old.changes epoch (made_as made (change_for epoch old.changes)) row (k.promised epoch) (λ e ne. k.promised e);
      adopters = each_row (λ c e. length c.adopters ≡ 7) old.changes epoch (made_as made (change_for epoch old.changes)) row (k.adopters epoch) (λ e ne. k.adopters e);
    }

    pub kept_adopted : (epoch r : ℕ) (kept new : Replica B) → slice_get old.replicas r ≡ Some kept → kept.word ≤ new.word → epoch < length old.changes →
        IsKept (record old { replicas = slice_set old.replicas r new; changes = slice_set old.changes epoch (adopted_by r (change_for epoch old.changes)) })
    kept_adopted epoch r kept new at up row = record {
      small = k.small;
      members = length-set_at old.replicas r new ∙ k.members;
      promised = each_row (λ c e. length c.promises ≤ reach e (slice_set old.replicas r new)) old.changes epoch (adopted_by r (change_for epoch old.changes)) row
          (omega (arith, k.promised epoch, risen r kept new at up epoch)) (λ e ne. omega (arith, k.promised e, risen r kept new at up e));
      adopters = each_row (λ c e. length c.adopters ≡ 7) old.changes epoch (adopted_by r (change_for epoch old.changes)) row
          (length-set_at (change_for epoch old.changes).adopters r true ∙ k.adopters epoch) (λ e ne. k.adopters e);
    }

    pub kept_served : (epoch : ℕ) → IsKept (record old { replicas = change (waits_for epoch) now_serving old.replicas })
    kept_served epoch = record {
      small = k.small;
      members = length-change (waits_for epoch) now_serving old.replicas ∙ k.members;
      promised = λ e. subst (λ n. length (change_for e old.changes).promises ≤ n) (sym (reached-changed (λ (x : Replica B). nat_le e x.word) (waits_for epoch) now_serving (λ x. refl) old.replicas)) (k.promised e);
      adopters = k.adopters;
    }

    pub few_promises : (epoch : ℕ) → length (change_for epoch old.changes).promises ≤ 7
    few_promises epoch = omega (arith, k.promised epoch, reached-few (λ (x : Replica B). nat_le epoch x.word) old.replicas, k.members, k.small)

    pub few_replicas : (r : ℕ) → r < members old.faults → r < 7
    few_replicas r h = omega (arith, h, k.small)

-- the word of a replica that is there
pub word_low : {B : Type 0} (replicas : List (Replica B)) (r epoch : ℕ) (kept : Replica B) → slice_get replicas r ≡ Some kept → word_at replicas r < epoch → kept.word < epoch
word_low replicas r epoch kept at low = subst (λ n. n < epoch) (word_of replicas r kept at) low

pub word_within : {B : Type 0} (replicas : List (Replica B)) (r epoch : ℕ) (kept : Replica B) → slice_get replicas r ≡ Some kept → word_at replicas r ≤ epoch → kept.word ≤ epoch
word_within replicas r epoch kept at low = subst (λ n. n ≤ epoch) (word_of replicas r kept at) low
