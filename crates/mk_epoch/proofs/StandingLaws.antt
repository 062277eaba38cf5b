-- What is kept stands for the state after each line.
use Rattle.std.proofs.Common.{◌≡◌, ◌<◌, ℕ, zero, suc, Bool, true, false, refl, arith, inl, inr, sym, ap, ◌∙◌, List, [], ◌∷◌, ◌++◌, Option, Some, None, subst, map, length}
use Rattle.std.proofs.lemmas.List.{map-append}
use Rattle.std.specs.Prelude.{slice_get, slice_set, filter, find, option_map, replicate, ◌==◌, ◌&&◌, ◌||◌, ◌+◌, ◌-◌, slice_index_or, if◌then◌else◌}
use Rattle.std.specs.List.{list_any}
use Rattle.mk_lists.specs.Among.{Each}
use Rattle.mk_lists.specs.Changed.{change}
use Rattle.mk_quorum.specs.Sizes.{members}
use Rattle.mk_quorum.specs.ReplicaSets.{no_replicas, has_replica, with_replica}
use Rattle.mk_words.specs.declared.Phase.{Phase}
use Rattle.mk_words.specs.declared.Phase.TheVariants.{Paused, Adopted, Lacking}
use Rattle.mk_merge.specs.declared.Promise.{Promise}
use Rattle.mk_words.specs.Bases.{BaseState, empty_base}
use Rattle.mk_words.specs.Promises.{PromiseState}
use Rattle.mk_merge.specs.Keepings.{Stand, PromiseStands}
use Rattle.mk_words.specs.Merging.{merged}
use Rattle.mk_words.specs.declared.GlobalLine.TheVariants.{Wipe, Promise as PromiseLine, Merge, Adopt, Enter}
use Rattle.mk_epoch.specs.declared.replica.Replica.{Replica}
use Rattle.mk_model.specs.EpochState.{EpochState, ReplicaState, GivenPromise, MadeBase, Adoption, first_epochs, first_replica, promises_for, made_for, ever_adopted}
use Rattle.mk_model.specs.GlobalSteps.{change_replica, with_promise, with_base, with_adoption, HandedIn, nothing_handed, global_after, wiped, promised, promise_of, adopting, base_or_empty, awaits_enter, serving, is_adopted}
use Rattle.mk_epoch.specs.Changes.{ChangeView, change_for, asked_for, with_asked, grown_to, promised_to, made_as, adopted_by}
use Rattle.mk_epoch.specs.Standing.{ReplicasView, ReplicaStands, AllStand, MadeStands, ChangeStands, StandsFor, IsHandedIn, waits_for, now_serving}
use Rattle.mk_epoch.proofs.RowLaws.{same_or_not, eqb-same, eqb-apart, any_with, filter_with, filter_without, find_last, find_other, change_for-set_same, change_for-set_other, change_for-more, grown-length}

module _ {B : Type 0} (stands : B → BaseState → Type 0) where
  -- replicas
  pub all_at : (rs : List (Replica B)) (ss : List ReplicaState) → AllStand stands rs ss → (i : ℕ) (r : Replica B) → slice_get rs i ≡ Some r →
      (s : ReplicaState) × (slice_get ss i ≡ Some s) × ReplicaStands stands r s
  all_at [] [] h i r e = absurd (cc e)
  all_at [] (s ∷ ss) h i r e = absurd h
  all_at (x ∷ rs) [] h i r e = absurd h
  all_at (x ∷ rs) (s ∷ ss) h zero r e = (s, refl, subst (λ (y : Replica B). ReplicaStands stands y s) (cc e) h.0)
  all_at (x ∷ rs) (s ∷ ss) h (suc i) r e = all_at rs ss h.1 i r e

  all_set : (rs : List (Replica B)) (ss : List ReplicaState) → AllStand stands rs ss → (i : ℕ) (r : Replica B) (s : ReplicaState) → ReplicaStands stands r s →
      AllStand stands (slice_set rs i r) (slice_set ss i s)
  all_set [] [] h i r s k = tt
  all_set [] (t ∷ ss) h i r s k = absurd h
  all_set (x ∷ rs) [] h i r s k = absurd h
  all_set (x ∷ rs) (t ∷ ss) h zero r s k = (k, h.1)
  all_set (x ∷ rs) (t ∷ ss) h (suc i) r s k = (h.0, all_set rs ss h.1 i r s k)

  same_wait : (epoch : ℕ) (r : Replica B) (s : ReplicaState) → ReplicaStands stands r s → waits_for epoch r ≡ awaits_enter epoch s
  same_wait epoch r s h = ap (λ (p : Phase). is_adopted p && r.adopted == epoch) h.phase ∙ ap (λ n. is_adopted s.phase && n == epoch) h.adopted

  one_served : (epoch : ℕ) (r : Replica B) (s : ReplicaState) → ReplicaStands stands r s →
      ReplicaStands stands (if waits_for epoch r then now_serving r else r) (if awaits_enter epoch s then serving s else s)
  one_served epoch r s h = by (waits_for epoch r) (awaits_enter epoch s) (same_wait epoch r s h)
    where
      by : (b c : Bool) → b ≡ c → ReplicaStands stands (if b then now_serving r else r) (if c then serving s else s)
      by true true e = record { word = h.word; phase = refl; adopted = h.adopted; base = h.base }
      by false false e = h
      by true false e = absurd (cc e)
      by false true e = absurd (cc e)

  all_served : (epoch : ℕ) (rs : List (Replica B)) (ss : List ReplicaState) → AllStand stands rs ss → AllStand stands (change (waits_for epoch) now_serving rs) (change (awaits_enter epoch) serving ss)
  all_served epoch [] [] h = tt
  all_served epoch [] (t ∷ ss) h = absurd h
  all_served epoch (x ∷ rs) [] h = absurd h
  all_served epoch (x ∷ rs) (t ∷ ss) h = (one_served epoch x t h.0, all_served epoch rs ss h.1)

  pub all_first : (rs : List (Replica B)) (n : ℕ) → length rs ≡ n → Each (λ r. ReplicaStands stands r first_replica) rs → AllStand stands rs (replicate n first_replica)
  all_first [] zero e h = tt
  all_first (r ∷ rs) zero e h = absurd (omega (arith, e))
  all_first [] (suc n) e h = absurd (omega (arith, e))
  all_first (r ∷ rs) (suc n) e h = (h.0, all_first rs n (omega (arith, e)) h.1)

  -- promises
  stand_with : (ps : List (Promise B)) (ss : List PromiseState) (p : Promise B) (s : PromiseState) → Stand B stands ps ss → PromiseStands B stands p s → Stand B stands (ps ++ p ∷ []) (ss ++ s ∷ [])
  stand_with [] [] p s h k = (k, tt)
  stand_with [] (t ∷ ss) p s h k = absurd h
  stand_with (q ∷ ps) [] p s h k = absurd h
  stand_with (q ∷ ps) (t ∷ ss) p s h k = (h.0, stand_with ps ss p s h.1 k)

  -- the changes of all epochs, where one got a new row
  one_row : (changes : List (ChangeView B)) (epoch : ℕ) (row : ChangeView B) (state : EpochState) → epoch < length changes →
      ChangeStands stands row epoch state → ((e : ℕ) → (e ≡ epoch → ⊥) → ChangeStands stands (change_for e changes) e state) →
      (e : ℕ) → ChangeStands stands (change_for e (slice_set changes epoch row)) e state
  one_row changes epoch row state h here there e = elim (same_or_not e epoch) [
    | inl same ↦ subst (λ n. ChangeStands stands (change_for n (slice_set changes epoch row)) n state) (sym same) (subst (λ (c : ChangeView B). ChangeStands stands c epoch state) (sym (change_for-set_same changes epoch row h)) here)
    | inr apart ↦ subst (λ (c : ChangeView B). ChangeStands stands c e state) (sym (change_for-set_other changes epoch e row apart)) (there e apart)
  ]

  -- a line that does nothing to what was asked, promised, made and adopted
  same_changes : (c : ChangeView B) (e : ℕ) (old : EpochState) (rs : List ReplicaState) → ChangeStands stands c e old → ChangeStands stands c e (record old { replicas = rs })
  same_changes c e old rs h = record { asked = h.asked; promises = h.promises; made = h.made; adopters = h.adopters }

  module _ (old : ReplicasView B) (state : EpochState) (h : StandsFor stands old state) where
    -- asked
    abbrev pub asking : ℕ → EpochState
    asking epoch = record state { asked = state.asked ++ epoch ∷ [] }

    asked_here : (epoch : ℕ) (c : ChangeView B) → ChangeStands stands c epoch state → ChangeStands stands (asked_for c) epoch (asking epoch)
    asked_here epoch c k = record {
      asked = any_with (λ e. e == epoch) state.asked epoch ∙ ap (λ b. list_any (λ e. e == epoch) state.asked || b) (eqb-same epoch epoch refl) ∙ either (list_any (λ e. e == epoch) state.asked);
      promises = k.promises;
      made = k.made;
      adopters = k.adopters;
    }
      where
        either : (b : Bool) → (b || true) ≡ true
        either true = refl
        either false = refl

    asked_there : (epoch e : ℕ) (c : ChangeView B) → (e ≡ epoch → ⊥) → ChangeStands stands c e state → ChangeStands stands c e (asking epoch)
    asked_there epoch e c ne k = record {
      asked = any_with (λ n. n == e) state.asked epoch ∙ ap (λ b. list_any (λ n. n == e) state.asked || b) (eqb-apart epoch e (λ s. ne (sym s))) ∙ either (list_any (λ n. n == e) state.asked) ∙ k.asked;
      promises = k.promises;
      made = k.made;
      adopters = k.adopters;
    }
      where
        either : (b : Bool) → (b || false) ≡ b
        either true = refl
        either false = refl

    pub asked_stands : (epoch : ℕ) → StandsFor stands (record old { changes = with_asked epoch old.changes }) (asking epoch)
    asked_stands epoch = record {
      faults = h.faults;
      replicas = h.replicas;
      changes = one_row (grown_to epoch old.changes) epoch (asked_for (change_for epoch (grown_to epoch old.changes))) (asking epoch) (grown-length old.changes epoch)
          (asked_here epoch (change_for epoch (grown_to epoch old.changes)) (rows epoch))
          (λ e ne. asked_there epoch e (change_for e (grown_to epoch old.changes)) ne (rows e));
    }
      where
        rows : (e : ℕ) → ChangeStands stands (change_for e (grown_to epoch old.changes)) e state
        rows e = subst (λ (c : ChangeView B). ChangeStands stands c e state) (sym (change_for-more old.changes (epoch + 1 - length old.changes) e)) (h.changes e)

    -- promised
    abbrev pub giving : ℕ → PromiseState → EpochState
    giving epoch p = record state { promises = state.promises ++ record { epoch = epoch; promise = p } ∷ [] }

    pub promises_here : (epoch : ℕ) (p : PromiseState) → promises_for epoch (giving epoch p) ≡ promises_for epoch state ++ p ∷ []
    promises_here epoch p =
        ap (λ gs. map (λ (g : GivenPromise). g.promise) gs) (filter_with (λ (g : GivenPromise). g.epoch == epoch) state.promises (record { epoch = epoch; promise = p }) (eqb-same epoch epoch refl))
        ∙ map-append (λ (g : GivenPromise). g.promise) (filter (λ g. g.epoch == epoch) state.promises) (record { epoch = epoch; promise = p } ∷ [])

    promises_there : (epoch e : ℕ) (p : PromiseState) → (e ≡ epoch → ⊥) → promises_for e (giving epoch p) ≡ promises_for e state
    promises_there epoch e p ne =
        ap (λ gs. map (λ (g : GivenPromise). g.promise) gs) (filter_without (λ (g : GivenPromise). g.epoch == e) state.promises (record { epoch = epoch; promise = p }) (eqb-apart epoch e (λ s. ne (sym s))))

    given_here : (epoch : ℕ) (c : ChangeView B) (promise : Promise B) (p : PromiseState) → PromiseStands B stands promise p → ChangeStands stands c epoch state → ChangeStands stands (promised_to promise c) epoch (giving epoch p)
    given_here epoch c promise p k row = record {
      asked = row.asked;
      promises = subst (λ ps. Stand B stands (c.promises ++ promise ∷ []) ps) (sym (promises_here epoch p)) (stand_with c.promises (promises_for epoch state) promise p row.promises k);
      made = row.made;
      adopters = row.adopters;
    }

    given_there : (epoch e : ℕ) (c : ChangeView B) (p : PromiseState) → (e ≡ epoch → ⊥) → ChangeStands stands c e state → ChangeStands stands c e (giving epoch p)
    given_there epoch e c p ne row = record {
      asked = row.asked;
      promises = subst (λ ps. Stand B stands c.promises ps) (sym (promises_there epoch e p ne)) row.promises;
      made = row.made;
      adopters = row.adopters;
    }

    promise_stands : (r : ℕ) (handed : HandedIn) (promise : Promise B) (kept : Replica B) (s : ReplicaState) → slice_get old.replicas r ≡ Some kept → ReplicaStands stands kept s →
        IsHandedIn stands old.replicas r handed promise → PromiseStands B stands promise (promise_of r handed s)
    promise_stands r handed promise kept s at k in_hand = record {
      replica = in_hand.replica;
      adopted = in_hand.adopted kept at ∙ k.adopted;
      base = in_hand.base kept at s.base k.base;
      entries = in_hand.entries;
      marks = in_hand.marks;
    }

    pub promised_stands : (epoch r : ℕ) (handed : HandedIn) (promise : Promise B) (kept : Replica B) → slice_get old.replicas r ≡ Some kept → epoch < length old.changes →
        IsHandedIn stands old.replicas r handed promise →
        StandsFor stands (record old { replicas = slice_set old.replicas r (record kept { word = epoch; phase = Paused }); changes = slice_set old.changes epoch (promised_to promise (change_for epoch old.changes)) })
        (global_after state handed (PromiseLine epoch r))
    promised_stands epoch r handed promise kept at row in_hand =
        let found = all_at old.replicas state.replicas h.replicas r kept at in
        subst (λ o. StandsFor stands (record old { replicas = slice_set old.replicas r (record kept { word = epoch; phase = Paused }); changes = slice_set old.changes epoch (promised_to promise (change_for epoch old.changes)) }) (change_replica r (promised epoch) o (with_promise epoch r handed o state)))
        (sym found.1) (there found.0 found.2)
      where
        there : (s : ReplicaState) → ReplicaStands stands kept s →
            StandsFor stands (record old { replicas = slice_set old.replicas r (record kept { word = epoch; phase = Paused }); changes = slice_set old.changes epoch (promised_to promise (change_for epoch old.changes)) })
            (record (giving epoch (promise_of r handed s)) { replicas = slice_set state.replicas r (promised epoch s) })
        there s k = record {
          faults = h.faults;
          replicas = all_set old.replicas state.replicas h.replicas r (record kept { word = epoch; phase = Paused }) (promised epoch s) (record { word = refl; phase = refl; adopted = k.adopted; base = k.base });
          changes = one_row old.changes epoch (promised_to promise (change_for epoch old.changes)) (record (giving epoch (promise_of r handed s)) { replicas = slice_set state.replicas r (promised epoch s) }) row
              (same_changes (promised_to promise (change_for epoch old.changes)) epoch (giving epoch (promise_of r handed s)) (slice_set state.replicas r (promised epoch s))
              (given_here epoch (change_for epoch old.changes) promise (promise_of r handed s) (promise_stands r handed promise kept s at k in_hand) (h.changes epoch)))
              (λ e ne. same_changes (change_for e old.changes) e (giving epoch (promise_of r handed s)) (slice_set state.replicas r (promised epoch s)) (given_there epoch e (change_for e old.changes) (promise_of r handed s) ne (h.changes e)));
        }

    -- made
    abbrev pub making : ℕ → BaseState → EpochState
    making epoch base = record state { made = state.made ++ record { epoch = epoch; base = base } ∷ [] }

    found_none : (epoch : ℕ) → made_for epoch state ≡ None → find (λ (m : MadeBase). m.epoch == epoch) state.made ≡ None
    found_none epoch e = by (find (λ (m : MadeBase). m.epoch == epoch) state.made) e
      where
        by : (o : Option MadeBase) → option_map (λ (m : MadeBase). m.base) o ≡ None → o ≡ None
        by None k = refl
        by (Some m) k = absurd (cc k)

    made_here : (epoch : ℕ) (base : BaseState) → made_for epoch state ≡ None → made_for epoch (making epoch base) ≡ Some base
    made_here epoch base none =
        ap (option_map (λ (m : MadeBase). m.base)) (find_last (λ (m : MadeBase). m.epoch == epoch) state.made (record { epoch = epoch; base = base }) (found_none epoch none) (eqb-same epoch epoch refl))

    made_there : (epoch e : ℕ) (base : BaseState) → (e ≡ epoch → ⊥) → made_for e (making epoch base) ≡ made_for e state
    made_there epoch e base ne =
        ap (option_map (λ (m : MadeBase). m.base)) (find_other (λ (m : MadeBase). m.epoch == e) state.made (record { epoch = epoch; base = base }) (eqb-apart epoch e (λ s. ne (sym s))))

    pub made_stands : (epoch : ℕ) (made : B) (base : BaseState) → epoch < length old.changes → made_for epoch state ≡ None → stands made base →
        StandsFor stands (record old { changes = slice_set old.changes epoch (made_as made (change_for epoch old.changes)) }) (making epoch base)
    made_stands epoch made base row none k = record {
      faults = h.faults;
      replicas = h.replicas;
      changes = one_row old.changes epoch (made_as made (change_for epoch old.changes)) (making epoch base) row
          (record { asked = (h.changes epoch).asked; promises = (h.changes epoch).promises; made = subst (λ o. MadeStands stands (Some made) o) (sym (made_here epoch base none)) k; adopters = (h.changes epoch).adopters })
          (λ e ne. record { asked = (h.changes e).asked; promises = (h.changes e).promises; made = subst (λ o. MadeStands stands (change_for e old.changes).made o) (sym (made_there epoch e base ne)) (h.changes e).made; adopters = (h.changes e).adopters });
    }

    -- adopted
    abbrev pub joining : ℕ → ℕ → EpochState
    joining epoch r = record state { adoptions = state.adoptions ++ record { epoch = epoch; replica = r } ∷ [] }

    joined : (epoch e r q : ℕ) → ever_adopted e (joining epoch r) q ≡ (ever_adopted e state q || (epoch == e && r == q))
    joined epoch e r q = any_with (λ (a : Adoption). a.epoch == e && a.replica == q) state.adoptions (record { epoch = epoch; replica = r })

    joined_here : (epoch r : ℕ) (c : ChangeView B) → r < length c.adopters → ((q : ℕ) → ever_adopted epoch state q ≡ has_replica c.adopters q) → (q : ℕ) → ever_adopted epoch (joining epoch r) q ≡ has_replica (with_replica r c.adopters) q
    joined_here epoch r c few k q = elim (same_or_not q r) [
      | inl same ↦ joined epoch epoch r q ∙ ap (λ b. ever_adopted epoch state q || (b && r == q)) (eqb-same epoch epoch refl) ∙ ap (λ b. ever_adopted epoch state q || (true && b)) (eqb-same r q (sym same)) ∙ either (ever_adopted epoch state q)
          ∙ sym (has_same c.adopters r q same few)
      | inr apart ↦ joined epoch epoch r q ∙ ap (λ b. ever_adopted epoch state q || (b && r == q)) (eqb-same epoch epoch refl) ∙ ap (λ b. ever_adopted epoch state q || (true && b)) (eqb-apart r q (λ e. apart (sym e))) ∙ neither (ever_adopted epoch state q)
          ∙ k q ∙ sym (has_other c.adopters r q apart)
    ]
      where
        either : (b : Bool) → (b || (true && true)) ≡ true
        either true = refl
        either false = refl

        neither : (b : Bool) → (b || (true && false)) ≡ b
        neither true = refl
        neither false = refl

        has_same : (set : List Bool) (r q : ℕ) → q ≡ r → r < length set → has_replica (with_replica r set) q ≡ true
        has_same [] r q e few = absurd (omega arith)
        has_same (x ∷ set) zero zero e few = refl
        has_same (x ∷ set) zero (suc q) e few = absurd (omega (arith, e))
        has_same (x ∷ set) (suc r) zero e few = absurd (omega (arith, e))
        has_same (x ∷ set) (suc r) (suc q) e few = has_same set r q (omega (arith, e)) (omega (arith, few))

        has_other : (set : List Bool) (r q : ℕ) → (q ≡ r → ⊥) → has_replica (with_replica r set) q ≡ has_replica set q
        has_other [] r q ne = refl
        has_other (x ∷ set) zero zero ne = absurd (ne refl)
        has_other (x ∷ set) zero (suc q) ne = refl
        has_other (x ∷ set) (suc r) zero ne = refl
        has_other (x ∷ set) (suc r) (suc q) ne = has_other set r q (λ e. ne (ap suc e))

    joined_there : (epoch e r q : ℕ) → (e ≡ epoch → ⊥) → ever_adopted e (joining epoch r) q ≡ ever_adopted e state q
    joined_there epoch e r q ne =
        joined epoch e r q ∙ ap (λ b. ever_adopted e state q || (b && r == q)) (eqb-apart epoch e (λ s. ne (sym s))) ∙ neither (ever_adopted e state q)
      where
        neither : (b : Bool) → (b || (false && r == q)) ≡ b
        neither true = refl
        neither false = refl

    -- the base that was made, and the one that the state has
    both_made : (epoch : ℕ) (made : B) → (change_for epoch old.changes).made ≡ Some made → (base : BaseState) × (made_for epoch state ≡ Some base) × stands made base
    both_made epoch made e = by (made_for epoch state) refl (subst (λ o. MadeStands stands o (made_for epoch state)) e (h.changes epoch).made)
      where
        by : (o : Option BaseState) → made_for epoch state ≡ o → MadeStands stands (Some made) o → (base : BaseState) × (made_for epoch state ≡ Some base) × stands made base
        by None k m = absurd m
        by (Some base) k m = (base, k, m)

    pub adopted_stands : (epoch r : ℕ) (made taken : B) (kept : Replica B) → slice_get old.replicas r ≡ Some kept → epoch < length old.changes → r < length (change_for epoch old.changes).adopters →
        (change_for epoch old.changes).made ≡ Some made → ((base : BaseState) → stands made base → stands taken base) →
        StandsFor stands (record old { replicas = slice_set old.replicas r (record { word = epoch; phase = Adopted; adopted = epoch; base = taken }); changes = slice_set old.changes epoch (adopted_by r (change_for epoch old.changes)) })
        (global_after state nothing_handed (Adopt epoch r))
    adopted_stands epoch r made taken kept at row few was copy =
        let found = all_at old.replicas state.replicas h.replicas r kept at in
        let base = both_made epoch made was in
        subst (λ o. StandsFor stands new (with_adoption epoch r (change_replica r (adopting epoch (base_or_empty (made_for epoch state))) o state))) (sym found.1)
        (subst (λ o. StandsFor stands new (with_adoption epoch r (record state { replicas = slice_set state.replicas r (adopting epoch (base_or_empty o) found.0) }))) (sym base.1)
        (there found.0 base.0 (copy base.0 base.2)))
      where
        new : ReplicasView B
        new = record old { replicas = slice_set old.replicas r (record { word = epoch; phase = Adopted; adopted = epoch; base = taken }); changes = slice_set old.changes epoch (adopted_by r (change_for epoch old.changes)) }

        there : (s : ReplicaState) (base : BaseState) → stands taken base → StandsFor stands (record old { replicas = slice_set old.replicas r (record { word = epoch; phase = Adopted; adopted = epoch; base = taken }); changes = slice_set old.changes epoch (adopted_by r (change_for epoch old.changes)) })
            (record (joining epoch r) { replicas = slice_set state.replicas r (adopting epoch base s) })
        there s base k = record {
          faults = h.faults;
          replicas = all_set old.replicas state.replicas h.replicas r (record { word = epoch; phase = Adopted; adopted = epoch; base = taken }) (adopting epoch base s) (record { word = refl; phase = refl; adopted = refl; base = k });
          changes = one_row old.changes epoch (adopted_by r (change_for epoch old.changes)) (record (joining epoch r) { replicas = slice_set state.replicas r (adopting epoch base s) }) row
              (record { asked = (h.changes epoch).asked; promises = (h.changes epoch).promises; made = (h.changes epoch).made; adopters = joined_here epoch r (change_for epoch old.changes) few (h.changes epoch).adopters })
              (λ e ne. record { asked = (h.changes e).asked; promises = (h.changes e).promises; made = (h.changes e).made; adopters = λ q. joined_there epoch e r q ne ∙ (h.changes e).adopters q });
        }

    pub entered_stands : (epoch : ℕ) → StandsFor stands (record old { replicas = change (waits_for epoch) now_serving old.replicas }) (global_after state nothing_handed (Enter epoch))
    entered_stands epoch = record {
      faults = h.faults;
      replicas = all_served epoch old.replicas state.replicas h.replicas;
      changes = λ e. same_changes (change_for e old.changes) e state (change (awaits_enter epoch) serving state.replicas) (h.changes e);
    }

    pub wiped_stands : (r : ℕ) (kept : Replica B) (empty : B) → slice_get old.replicas r ≡ Some kept → stands empty empty_base →
        StandsFor stands (record old { replicas = slice_set old.replicas r (record kept { phase = Lacking; adopted = 0; base = empty }) }) (global_after state nothing_handed (Wipe r))
    wiped_stands r kept empty at k =
        let found = all_at old.replicas state.replicas h.replicas r kept at in
        subst (λ o. StandsFor stands (record old { replicas = slice_set old.replicas r (record kept { phase = Lacking; adopted = 0; base = empty }) }) (change_replica r wiped o state)) (sym found.1) (there found.0 found.2)
      where
        there : (s : ReplicaState) → ReplicaStands stands kept s → StandsFor stands (record old { replicas = slice_set old.replicas r (record kept { phase = Lacking; adopted = 0; base = empty }) }) (record state { replicas = slice_set state.replicas r (wiped s) })
        there s m = record {
          faults = h.faults;
          replicas = all_set old.replicas state.replicas h.replicas r (record kept { phase = Lacking; adopted = 0; base = empty }) (wiped s) (record { word = m.word; phase = refl; adopted = refl; base = k });
          changes = λ e. same_changes (change_for e old.changes) e state (slice_set state.replicas r (wiped s)) (h.changes e);
        }

    pub none_made : (epoch : ℕ) → (change_for epoch old.changes).made ≡ None → made_for epoch state ≡ None
    none_made epoch e = by (made_for epoch state) refl (subst (λ o. MadeStands stands o (made_for epoch state)) e (h.changes epoch).made)
      where
        by : (o : Option BaseState) → made_for epoch state ≡ o → MadeStands stands None o → made_for epoch state ≡ None
        by None k m = k
        by (Some base) k m = absurd m

    pub merged_stands : (epoch : ℕ) (made : B) → epoch < length old.changes → (change_for epoch old.changes).made ≡ None →
        stands made (merged state.faults epoch (promises_for epoch state)) →
        StandsFor stands (record old { changes = slice_set old.changes epoch (made_as made (change_for epoch old.changes)) }) (global_after state nothing_handed (Merge epoch))
    merged_stands epoch made row none k =
        subst (λ o. StandsFor stands (record old { changes = slice_set old.changes epoch (made_as made (change_for epoch old.changes)) }) (with_base epoch o state)) (sym (none_made epoch none))
        (made_stands epoch made (merged state.faults epoch (promises_for epoch state)) row (none_made epoch none) k)

  -- at the start
  pub first_stands : (f : ℕ) (rs : List (Replica B)) → AllStand stands rs (replicate (members f) first_replica) → StandsFor stands (record { faults = f; replicas = rs; changes = [] }) (first_epochs f)
  first_stands f rs h = record {
    faults = refl;
    replicas = h;
    changes = λ e. record { asked = refl; promises = tt; made = tt; adopters = λ r. sym (nobody r) };
  }
    where
      nobody : (r : ℕ) → has_replica no_replicas r ≡ false
      nobody r = by 7 r
        where
          by : (n r : ℕ) → slice_index_or (replicate n false) r false ≡ false
          by zero r = refl
          by (suc n) zero = refl
          by (suc n) (suc r) = by n r
