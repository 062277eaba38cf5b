-- What bases list was handed in with promises, whatever that was.
use Rattle.std.proofs.Common.{◌≡◌, ℕ, Bool, true, false, refl, inl, inr, sym, ap, List, [], ◌∷◌, ◌++◌, Option, Some, None, subst, cond, map}
use Rattle.std.specs.Prelude.{flat_map, option_map, find, ◌==◌}
use Rattle.std.proofs.lemmas.Option.{same_Some}
use Rattle.mk_lists.specs.Among.{Among, Among-append, Among-append_left, Among-append_right}
use Rattle.mk_lists.proofs.Members.{Among-flat_map, Among-from_filter, Among-from_flat_map, Among-from_map}
use Rattle.mk_lists.proofs.Lookups.{find_tells}
use Rattle.mk_txn.specs.Transactions.{Transaction}
use Rattle.mk_words.specs.declared.Entry.{Entry}
use Rattle.mk_words.specs.declared.Fated.{Fated}
use Rattle.mk_words.specs.Bases.{BaseState, empty_base}
use Rattle.mk_words.specs.Promises.{PromiseState, promised_txns, can_merge, chosen, counting, highest_adopted, base_of}
use Rattle.mk_words.specs.Merging.{merged, reported_txns}
use Rattle.mk_merge_laws.proofs.Orders.{ordered_from}
use Rattle.mk_words.specs.declared.GlobalLine.{GlobalLine}
use Rattle.mk_model.specs.EpochState.{EpochState, GivenPromise, MadeBase, first_epochs, promises_for, made_for, base_for}
use Rattle.mk_model.specs.GlobalAnswers.{global_answer, is_accepted}
use Rattle.mk_model.specs.GlobalSteps.{HandedIn, global_after}
use Rattle.mk_epoch_laws.specs.Turns.{Always}
use Rattle.mk_epoch_laws.specs.FitLaws.{txns_in, handed_txns, BasesListHanded}
use Rattle.mk_epoch_laws.proofs.LineNews.{made_news}
use Rattle.mk_epoch_laws.proofs.EpochFacts.{EpochFacts}
use Rattle.mk_epoch_laws.proofs.FactsKept.{given_of, facts_first}
use Rattle.mk_epoch_laws.proofs.PromisesTaken.{chosen_member}
use Rattle.mk_epoch_laws.proofs.Extending.{line_extends}
use Rattle.mk_epoch_laws.proofs.Turning.{turns_keep}

-- a transaction of a promise's entries was handed in
pub handed_here : (state : EpochState) (g : GivenPromise) → Among g state.promises → (t : Transaction) → Among t (txns_in g.promise.entries) → Among t (handed_txns state)
handed_here state g at t a = Among-flat_map (λ (x : GivenPromise). txns_in x.promise.entries) t g state.promises at a

-- the base of a promise lists what was handed in
module _ (state : EpochState) (facts : EpochFacts state) (listed : BasesListHanded state) where
  base_listed : (epoch : ℕ) (base : BaseState) → base_for epoch state ≡ Some base → (f : Fated) → Among f base.list → Among f.txn (handed_txns state)
  base_listed epoch base e f a = by (epoch == 0) e
    where
      from_made : (o : Option MadeBase) → find (λ (m : MadeBase). m.epoch == epoch) state.made ≡ o → option_map (λ (m : MadeBase). m.base) o ≡ Some base → Among f.txn (handed_txns state)
      from_made None k e = absurd (cc e)
      from_made (Some m) k e = listed m (find_tells (λ (m : MadeBase). m.epoch == epoch) state.made m k).0 f (subst (λ (b : BaseState). Among f b.list) (sym (same_Some m.base base e)) a)

      by : (b : Bool) → cond b (Some empty_base) (made_for epoch state) ≡ Some base → Among f.txn (handed_txns state)
      by true e = absurd (subst (λ (b : BaseState). Among f b.list) (sym (same_Some empty_base base e)) a)
      by false e = from_made (find (λ (m : MadeBase). m.epoch == epoch) state.made) refl e

  -- all that an epoch's promises speak of was handed in
  pub promised_known : (epoch : ℕ) (p : PromiseState) → Among p (promises_for epoch state) → (t : Transaction) → Among t (promised_txns p) → Among t (handed_txns state)
  promised_known epoch p at t a =
      let g = given_of epoch state p at in
      elim (Among-append t (map (λ (f : Fated). f.txn) p.base.list) (map (λ (e : Entry). e.txn) p.entries) a) [
        | inl old ↦
            let f = Among-from_map (λ (f : Fated). f.txn) t p.base.list old in
            subst (λ x. Among x (handed_txns state)) f.2
            (base_listed p.adopted p.base (subst (λ (x : PromiseState). base_for x.adopted state ≡ Some x.base) g.3 (facts.given g.0 g.1).base_then) f.0 f.1)
        | inr new ↦ handed_here state g.0 g.1 t (subst (λ (x : PromiseState). Among t (txns_in x.entries)) (sym g.3) new)
      ]

  -- what is merged lists what the promises speak of
  merged_known : (epoch : ℕ) → can_merge state.faults epoch (promises_for epoch state) ≡ true → (f : Fated) → Among f (merged state.faults epoch (promises_for epoch state)).list → Among f.txn (handed_txns state)
  merged_known epoch may f a =
      let ps = counting (chosen state.faults epoch (promises_for epoch state)) in
      let t = Among-from_map _ f (reported_txns ps) a in
      let k = ordered_from t.0 (map (λ (x : Fated). x.txn) (base_of ps).list ++ flat_map (λ (p : PromiseState). map (λ (e : Entry). e.txn) p.entries) ps) t.1 in
      subst (λ x. Among x (handed_txns state)) (ap (λ (x : Fated). x.txn) t.2)
      (elim (Among-append t.0 (map (λ (x : Fated). x.txn) (base_of ps).list) (flat_map (λ (p : PromiseState). map (λ (e : Entry). e.txn) p.entries) ps) k) [
        | inl old ↦ from_base ps (λ p b. b) t.0 old
        | inr new ↦ let p = Among-from_flat_map (λ (p : PromiseState). map (λ (e : Entry). e.txn) p.entries) t.0 ps new in
            promised_known epoch p.0 (counted p.0 p.1) t.0 (Among-append_right t.0 (map (λ (x : Fated). x.txn) p.0.base.list) (map (λ (e : Entry). e.txn) p.0.entries) p.2)
      ])
    where
      counted : (p : PromiseState) → Among p (counting (chosen state.faults epoch (promises_for epoch state))) → Among p (promises_for epoch state)
      counted p b = chosen_member state.faults epoch (promises_for epoch state) (facts.one_promise epoch) may p (Among-from_filter (λ (x : PromiseState). x.adopted == (highest_adopted (chosen state.faults epoch (promises_for epoch state)))) p (chosen state.faults epoch (promises_for epoch state)) b).0

      from_base : (qs : List PromiseState) → ((p : PromiseState) → Among p qs → Among p (counting (chosen state.faults epoch (promises_for epoch state)))) → (t : Transaction) → Among t (map (λ (x : Fated). x.txn) (base_of qs).list) → Among t (handed_txns state)
      from_base [] into t b = absurd b
      from_base (p ∷ qs) into t b = promised_known epoch p (counted p (into p (inl refl))) t (Among-append_left t (map (λ (x : Fated). x.txn) p.base.list) (map (λ (e : Entry). e.txn) p.entries) b)

  -- one accepted line more
  module _ (handed : HandedIn) (line : GlobalLine) (is : is_accepted (global_answer state line) ≡ true) where
    stays : (t : Transaction) → Among t (handed_txns state) → Among t (handed_txns (global_after state handed line))
    stays t a =
        let g = Among-from_flat_map (λ (x : GivenPromise). txns_in x.promise.entries) t state.promises a in
        let more = (line_extends state handed line).more_promises in
        handed_here (global_after state handed line) g.0 (subst (Among g.0) (sym more.1) (Among-append_left g.0 state.promises more.0 g.1)) t g.2

    pub listed_after : BasesListHanded (global_after state handed line)
    listed_after m a f b = elim (made_news state handed line is m a) [
      | inl old ↦ stays f.txn (listed m old f b)
      | inr new ↦ stays f.txn (merged_known m.epoch new.2 f (subst (λ (x : BaseState). Among f x.list) (sym new.3) b))
    ]

pub bases_list_handed : Always BasesListHanded
bases_list_handed f turns answered =
    turns_keep BasesListHanded (λ s facts handed line is h. listed_after s facts h handed line is) (first_epochs f) (facts_first f) turns answered (λ m none. absurd none)
