-- A base keeps every outcome of the base that it was built on.
use Rattle.std.proofs.Common.{◌≡◌, ◌<◌, ℕ, Bool, true, false, refl, arith, inl, inr, sym, ap, ◌∙◌, List, [], ◌∷◌, Option, Some, None, subst, cond, length}
use Rattle.std.specs.Prelude.{filter, option_and_then, is_some, ◌==◌}
use Rattle.std.proofs.lemmas.Bool.{eq-eqb, eqb-true}
use Rattle.std.proofs.lemmas.Option.{same_Some}
use Rattle.mk_lists.specs.Among.{Among}
use Rattle.mk_lists.proofs.Members.{Among-from_filter}
use Rattle.mk_txn.specs.declared.TxnId.{TxnId}
use Rattle.mk_txn.specs.declared.Outcome.{Outcome}
use Rattle.mk_words.specs.Bases.{BaseState, fate_in}
use Rattle.mk_words.specs.Promises.{PromiseState, chosen, counting, base_of, highest_adopted}
use Rattle.mk_model.specs.EpochState.{EpochState, MadeBase, promises_for, base_for}
use Rattle.mk_model.specs.Force.{source_of}
use Rattle.mk_merge_laws.proofs.Composed.{old_stay}
use Rattle.mk_epoch_laws.specs.BaseLaws.{IsMade}
use Rattle.mk_epoch_laws.specs.PathLaws.{outcome_in, AddsItsSource}
use Rattle.mk_epoch_laws.proofs.EpochFacts.{EpochFacts}
use Rattle.mk_epoch_laws.proofs.FactsKept.{given_of}
use Rattle.mk_epoch_laws.proofs.Paths.{made_or_first}
use Rattle.mk_epoch_laws.proofs.PromisesTaken.{highest_above, chosen_majority, chosen_member, highest_is}

-- the promises that count are there, and their base is that of the highest adopted epoch
counting_base : (cs : List PromiseState) (base : BaseState) → 0 < length cs → ((p : PromiseState) → Among p cs → p.adopted ≡ highest_adopted cs → p.base ≡ base) → base_of (counting cs) ≡ base
counting_base cs base some same = by (counting cs) refl
  where
    highest_there : (p : PromiseState) × Among p cs × (p.adopted ≡ highest_adopted cs)
    highest_there = elim (highest_is cs) [ inl none ↦ first cs some none | inr k ↦ k ]
      where
        first : (xs : List PromiseState) → 0 < length xs → highest_adopted xs ≡ 0 → (p : PromiseState) × Among p xs × (p.adopted ≡ highest_adopted xs)
        first [] h none = absurd (omega (arith, h))
        first (p ∷ xs) h none = (p, inl refl, let low = highest_above p (p ∷ xs) (inl refl) in omega (arith, low, none))

    not_empty : (qs : List PromiseState) → Among highest_there.0 qs → (q : PromiseState) × (rest : List PromiseState) × (qs ≡ q ∷ rest)
    not_empty [] a = absurd a
    not_empty (q ∷ rest) a = (q, rest, refl)

    kept : (xs : List PromiseState) → Among highest_there.0 xs → Among highest_there.0 (filter (λ p. p.adopted == highest_adopted cs) xs)
    kept [] a = absurd a
    kept (x ∷ xs) a = head (kept xs) (x.adopted == highest_adopted cs) refl a
      where
        head : (Among highest_there.0 xs → Among highest_there.0 (filter (λ p. p.adopted == highest_adopted cs) xs)) → (b : Bool) → (x.adopted == highest_adopted cs) ≡ b → Among highest_there.0 (x ∷ xs) →
            Among highest_there.0 (cond b (x ∷ filter (λ p. p.adopted == highest_adopted cs) xs) (filter (λ p. p.adopted == highest_adopted cs) xs))
        head again true k (inl e) = inl e
        head again true k (inr a) = inr (again a)
        head again false k (inl e) = absurd (cc (sym k ∙ eq-eqb x.adopted (highest_adopted cs) (ap (λ (p : PromiseState). p.adopted) e ∙ highest_there.2)))
        head again false k (inr a) = again a

    by : (qs : List PromiseState) → counting cs ≡ qs → base_of qs ≡ base
    by [] e = absurd (subst (Among highest_there.0) e (kept cs highest_there.1))
    by (q ∷ rest) e =
        let a = Among-from_filter (λ p. p.adopted == highest_adopted cs) q cs (subst (Among q) (sym e) (inl refl)) in
        same q a.0 (eqb-true q.adopted (highest_adopted cs) a.1)

module _ (state : EpochState) (h : EpochFacts state) where
  -- the promises that count have the base of the source
  pub counted_base : (m : MadeBase) → Among m state.made → (base : BaseState) → base_for (source_of state m.epoch) state ≡ Some base → base_of (counting (chosen state.faults m.epoch (promises_for m.epoch state))) ≡ base
  counted_base m a base k =
      let may = (h.well m a).could in
      let long = chosen_majority state.faults m.epoch (promises_for m.epoch state) (h.one_promise m.epoch) may in
      counting_base (chosen state.faults m.epoch (promises_for m.epoch state)) base (omega (arith, long))
      (λ p b top.
      let g = given_of m.epoch state p (chosen_member state.faults m.epoch (promises_for m.epoch state) (h.one_promise m.epoch) may p b) in
      let then = (h.given g.0 g.1).base_then in
      let adopted : g.0.promise.adopted ≡ source_of state m.epoch = ap (λ (x : PromiseState). x.adopted) g.3 ∙ top in
      ap (λ (x : PromiseState). x.base) (sym g.3) ∙ same_Some g.0.promise.base base (sym then ∙ ap (λ (n : ℕ). base_for n state) adopted ∙ k))

  -- a base that was made keeps the outcomes of the one that it was built on
  made_keeps : (m : MadeBase) → Among m state.made → (id : TxnId) (o : Outcome) → outcome_in state (source_of state m.epoch) id ≡ Some o → fate_in id m.base.list ≡ Some o
  made_keeps m a id o e = by (base_for (source_of state m.epoch) state) refl e
    where
      by : (b : Option BaseState) → base_for (source_of state m.epoch) state ≡ b → option_and_then (λ (x : BaseState). fate_in id x.list) b ≡ Some o → fate_in id m.base.list ≡ Some o
      by None k e = absurd (cc e)
      by (Some base) k e =
          ap (λ (x : BaseState). fate_in id x.list) (h.well m a).is_merged
          ∙ old_stay state.faults m.epoch (counting (chosen state.faults m.epoch (promises_for m.epoch state))) id o (ap (λ (x : BaseState). fate_in id x.list) (counted_base m a base k) ∙ e)

  -- and what it adds is of that one's epoch, so of an attempt of an epoch below it says the same
  pub source_kept : (epoch_of : TxnId → ℕ) → AddsItsSource state epoch_of → (e : ℕ) → IsMade state e → 0 < e → (id : TxnId) → epoch_of id < source_of state e →
      outcome_in state e id ≡ outcome_in state (source_of state e) id
  source_kept epoch_of adds e is up id lt = by (outcome_in state (source_of state e) id) refl
    where
      same_epoch_kept : (o : Outcome) → outcome_in state (source_of state e) id ≡ Some o → outcome_in state e id ≡ Some o
      same_epoch_kept o k = elim (made_or_first state e is) [
        | inl first ↦ absurd (omega (arith, first, up))
        | inr m ↦
            ap (option_and_then (λ (x : BaseState). fate_in id x.list)) m.3
            ∙ made_keeps m.0 m.1 id o (ap (λ (n : ℕ). outcome_in state (source_of state n) id) m.2 ∙ k)
      ]

      by : (o : Option Outcome) → outcome_in state (source_of state e) id ≡ o → outcome_in state e id ≡ o
      by (Some o) k = same_epoch_kept o k
      by None k = absent (outcome_in state e id) refl
        where
          absent : (p : Option Outcome) → outcome_in state e id ≡ p → p ≡ None
          absent None q = refl
          absent (Some o) q = elim (adds e id is up (ap is_some q)) [ inl there ↦ absurd (cc (sym there ∙ ap is_some k)) | inr same ↦ absurd (omega (arith, lt, same)) ]
