-- What a base lists are transactions of attempts, of epochs not above its source, and what it adds is of its source.
use Rattle.std.proofs.Common.{◌≡◌, ◌⊎◌, ◌<◌, ◌≤◌, ℕ, zero, suc, true, arith, inl, inr, sym, ap, ◌∙◌, List, [], Option, Some, subst}
use Rattle.std.specs.Prelude.{is_some, option_map, option_and_then}
use Rattle.std.proofs.lemmas.List.{append-nil}
use Rattle.mk_lists.specs.Among.{Among}
use Rattle.mk_lists.proofs.Lookups.{find-from_Among, find_tells}
use Rattle.mk_lists.proofs.Members.{Among-from_flat_map, Among-from_map}
use Rattle.mk_txn.specs.declared.TxnId.{TxnId}
use Rattle.mk_txn.specs.Transactions.{Transaction, same_id}
use Rattle.mk_txn.proofs.IdOrder.{same_id-tells, same_id-itself}
use Rattle.mk_words.specs.declared.Entry.{Entry}
use Rattle.mk_words.specs.Entries.{is_entry_of}
use Rattle.mk_words.specs.declared.Fated.{Fated}
use Rattle.mk_words.specs.Bases.{BaseState, fate_in}
use Rattle.mk_words.specs.Promises.{PromiseState}
use Rattle.mk_merge_laws.specs.Composition.{Report, NothingElse}
use Rattle.mk_model.specs.ColumnState.{attempt_of}
use Rattle.mk_model.specs.EpochState.{EpochState, GivenPromise, MadeBase}
use Rattle.mk_model.specs.Force.{source_of}
use Rattle.mk_epoch_laws.specs.Turns.{Always}
use Rattle.mk_epoch_laws.specs.BaseLaws.{IsMade, BasesMade, CountedOf, CountedAreGiven, counted_for}
use Rattle.mk_epoch_laws.specs.FitLaws.{txns_in, BasesListHanded}
use Rattle.mk_epoch_laws.specs.PathLaws.{outcome_in}
use Rattle.mk_epoch_laws.proofs.EpochFacts.{EpochFacts}
use Rattle.mk_epoch_laws.proofs.Paths.{made_or_first, at_most, below, further_made}
use Rattle.mk_history.specs.Histories.{History}
use Rattle.mk_history.specs.Wholes.{last_state}
use Rattle.mk_history.specs.Legality.{IsLegal}
use Rattle.mk_run_laws.specs.RunEvents.{turns_of}
use Rattle.mk_run_laws.specs.Ends.{last_moment, run_epoch}
use Rattle.mk_run_laws.specs.Joins.{EpochsJoin}
use Rattle.mk_run_laws.proofs.Lines.{lines_are_turns}
use Rattle.mk_run_laws.proofs.Teachings.{found_once, base_there}
use Rattle.mk_base_laws.specs.Freezing.{IsPromisedOf, PromisedAreOfEpoch}
use Rattle.mk_base_laws.specs.Members.{BasesAddTheirSource, IsMemberOf, BaseMembers}
use Rattle.mk_base_laws.proofs.Walking.{facts_after_rounds}

-- a law of epoch changes at the end of a run
at_end : (P : EpochState → Type 0) → Always P → (run : History) → IsLegal run → P (last_state run).epochs
at_end P always run legal = let l = lines_are_turns run run.rounds legal in subst P l.1 (always run.faults (turns_of run run.rounds) l.0)

-- a member has an outcome
listed_some : (list : List Fated) (f : Fated) → Among f list → is_some (fate_in f.txn.id list) ≡ true
listed_some list f a =
    let k = find-from_Among (λ (x : Fated). same_id x.txn.id f.txn.id) list f a (same_id-itself f.txn.id) in
    ap (λ (o : Option Fated). is_some (option_map (λ (x : Fated). x.outcome) o)) k.1

module _ (promised : PromisedAreOfEpoch) (join : EpochsJoin) (run : History) (legal : IsLegal run) where
  -- an entry that was handed in at all
  of_promise : (given : GivenPromise) → Among given (last_state run).epochs.promises → (entry : Entry) → Among entry given.promise.entries → IsPromisedOf run given entry
  of_promise given a entry m = promised run legal run.rounds [] (sym (append-nil run.rounds)) given a entry m

  epoch_of : (given : GivenPromise) (entry : Entry) → IsPromisedOf run given entry → run_epoch run entry.txn.id ≡ given.promise.adopted
  epoch_of given entry p = join run legal p.column p.in_run entry.txn.id p.attempt p.found (ap is_some p.stamped) ∙ p.same_epoch

  module _ (counted : Always CountedAreGiven) (nothing_else : (f epoch : ℕ) (promises : List PromiseState) → NothingElse f epoch promises) where
    adds_made : (m : MadeBase) → Among m (last_state run).epochs.made → (id : TxnId) → is_some (fate_in id m.base.list) ≡ true →
        (is_some (outcome_in (last_state run).epochs (source_of (last_state run).epochs m.epoch) id) ≡ true) ⊎ (run_epoch run id ≡ source_of (last_state run).epochs m.epoch)
    adds_made m a id some =
        let state = (last_state run).epochs in
        let ct = at_end CountedAreGiven counted run legal m a in
        let made = ap (λ (b : BaseState). is_some (fate_in id b.list)) (sym ct.list) ∙ some in
        elim (nothing_else state.faults m.epoch (counted_for state m.epoch) id made) [
          | inl old ↦ inl (ap (λ (o : Option BaseState). is_some (option_and_then (λ (b : BaseState). fate_in id b.list) o)) ct.base ∙ old)
          | inr report ↦ inr (reported ct report)
        ]
      where
        reported : CountedOf (last_state run).epochs m → Report (counted_for (last_state run).epochs m.epoch) id → run_epoch run id ≡ source_of (last_state run).epochs m.epoch
        reported ct report =
            let p = report.promise in
            let given : GivenPromise = record { epoch = m.epoch; promise = p } in
            let f = find_tells (is_entry_of id) p.entries report.entry report.handed in
            let of = of_promise given (ct.given p (ct.taken p report.given)) report.entry f.0 in
            ap (run_epoch run) (sym (same_id-tells report.entry.txn.id id f.1)) ∙ epoch_of given report.entry of ∙ ct.source p report.given

    pub adds : (made : ℕ) (id : TxnId) → IsMade (last_state run).epochs made → 0 < made → is_some (outcome_in (last_state run).epochs made id) ≡ true →
        (is_some (outcome_in (last_state run).epochs (source_of (last_state run).epochs made) id) ≡ true) ⊎ (run_epoch run id ≡ source_of (last_state run).epochs made)
    adds made id is up some = elim (made_or_first (last_state run).epochs made is) [
      | inl first ↦ absurd (omega (arith, first, up))
      | inr m ↦ subst
          (λ (n : ℕ). (is_some (outcome_in (last_state run).epochs (source_of (last_state run).epochs n) id) ≡ true) ⊎ (run_epoch run id ≡ source_of (last_state run).epochs n)) m.2
          (adds_made m.0 m.1 id (ap (λ (o : Option BaseState). is_some (option_and_then (λ (b : BaseState). fate_in id b.list) o)) (sym m.3) ∙ some))
    ]

    facts : EpochFacts (last_state run).epochs
    facts = facts_after_rounds run legal run.rounds [] (sym (append-nil run.rounds))

    -- whatever a base says is of an attempt of its source's epoch or one below
    bounded : (limit made : ℕ) (id : TxnId) → made ≤ limit → IsMade (last_state run).epochs made → 0 < made → is_some (outcome_in (last_state run).epochs made id) ≡ true →
        run_epoch run id ≤ source_of (last_state run).epochs made
    bounded zero made id le is up some = absurd (omega (arith, le, up))
    bounded (suc limit) made id le is up some = elim (adds made id is up some) [
      | inr same ↦ omega (arith, same)
      | inl there ↦
          let state = (last_state run).epochs in
          let low = below state facts made is up in
          elim (at_most 0 (source_of state made) (omega arith)) [
            | inl first ↦ absurd (cc (sym (ap (λ (n : ℕ). is_some (outcome_in state n id)) first) ∙ there))
            | inr high ↦
                let further = further_made state facts made is in
                let again = bounded limit (source_of state made) id (omega (arith, le, low)) further high there in
                let lower = below state facts (source_of state made) further high in
                omega (arith, again, lower)
          ]
    ]

    pub member : Always BasesMade → Always BasesListHanded → (made : MadeBase) → Among made (last_state run).epochs.made → (f : Fated) → Among f made.base.list → IsMemberOf run made f
    member bases handed made a f m =
        let state = (last_state run).epochs in
        let well = at_end BasesMade bases run legal in
        let from = Among-from_flat_map (λ (g : GivenPromise). txns_in g.promise.entries) f.txn state.promises (at_end BasesListHanded handed run legal made a f m) in
        let entry = Among-from_map (λ (e : Entry). e.txn) f.txn from.0.promise.entries from.2 in
        let p = of_promise from.0 from.1 entry.0 entry.1 in
        let up = (well.well made a).after_first in
        let base = base_there state made up (ap (option_map (λ (x : MadeBase). x.base)) (found_once state.made well.once made a)) in
        let some = ap (λ (o : Option BaseState). is_some (option_and_then (λ (b : BaseState). fate_in f.txn.id b.list) o)) base ∙ listed_some made.base.list f m in
        let low = bounded made.epoch made.epoch f.txn.id (omega arith) (ap is_some base) up some in
        let id_is : entry.0.txn.id ≡ f.txn.id = ap (λ (t : Transaction). t.id) entry.2 in
        let epoch = join run legal p.column p.in_run entry.0.txn.id p.attempt p.found (ap is_some p.stamped) in
        let same = ap (run_epoch run) (sym id_is) ∙ epoch in
        record {
          column = p.column;
          in_run = p.in_run;
          attempt = p.attempt;
          found = subst (λ (i : TxnId). attempt_of (last_moment run p.column).column i ≡ Some p.attempt) id_is p.found;
          stamped = p.stamped ∙ ap (λ (t : Transaction). Some t) entry.2;
          below = omega (arith, low, same);
        }

pub bases_add_their_source : PromisedAreOfEpoch → EpochsJoin → Always CountedAreGiven → ((f epoch : ℕ) (promises : List PromiseState) → NothingElse f epoch promises) → BasesAddTheirSource
bases_add_their_source promised join counted nothing_else run legal made id is up some = adds promised join run legal counted nothing_else made id is up some

pub base_members : PromisedAreOfEpoch → EpochsJoin → Always CountedAreGiven → ((f epoch : ℕ) (promises : List PromiseState) → NothingElse f epoch promises) →
    Always BasesMade → Always BasesListHanded → BaseMembers
base_members promised join counted nothing_else bases handed run legal made a f m = member promised join run legal counted nothing_else bases handed made a f m
