-- What replicas hand in makes promises of which a base may be made.
use Rattle.std.proofs.Common.{◌≡◌, ℕ, Bool, true, false, refl, inl, inr, sym, ap, ◌∙◌, List, [], ◌∷◌, ◌++◌, Option, Some, subst, cond}
use Rattle.std.specs.Prelude.{◌⊎◌, flat_map}
use Rattle.std.proofs.lemmas.Option.{same_Some}
use Rattle.mk_lists.specs.Among.{Among, Each, Among-append_left, Among-append_right}
use Rattle.mk_lists.proofs.Members.{Among-from_flat_map}
use Rattle.mk_merge_laws.proofs.Counting.{AreCoherent-within}
use Rattle.mk_txn.specs.Transactions.{Transaction, AreCoherent}
use Rattle.mk_words.specs.Entries.{HasDistinctIds}
use Rattle.mk_words.specs.Bases.{BaseState}
use Rattle.mk_words.specs.Promises.{PromiseState, EntryFits, ArePromises, promised_txns}
use Rattle.mk_words.specs.declared.GlobalLine.{GlobalLine}
use Rattle.mk_words.specs.declared.GlobalLine.TheVariants.{Wipe, Ask, Promise as PromiseLine, Merge, Adopt, Enter}
use Rattle.mk_model.specs.EpochState.{EpochState, GivenPromise, first_epochs, promises_for, base_for}
use Rattle.mk_model.specs.GlobalAnswers.{global_answer, is_accepted}
use Rattle.mk_model.specs.GlobalSteps.{HandedIn, global_after, IsAnswer}
use Rattle.mk_epoch_laws.specs.Turns.{GlobalTurn, after_turn, after_turns, EachAnswered}
use Rattle.mk_epoch_laws.specs.FitLaws.{txns_in, handed_txns, BasesListHanded, MayHandIn, LineFits, EachFits, IsReached, FirstIsReached, NextIsReached, PromisesAreFit, HandedInIsCoherent}
use Rattle.mk_epoch_laws.proofs.LineNews.{promise_news}
use Rattle.mk_epoch_laws.proofs.EpochFacts.{EpochFacts}
use Rattle.mk_epoch_laws.proofs.FactsKept.{given_of, facts_first}
use Rattle.mk_epoch_laws.proofs.Turning.{answer_given, facts_turn}
use Rattle.mk_epoch_laws.proofs.HandedTxns.{handed_here, promised_known, listed_after}

-- what is known of all that was handed in
pub record FitFacts (state : EpochState) : Type 0 where
  pub ids : (g : GivenPromise) → Among g state.promises → HasDistinctIds g.promise.entries
  pub fit : (g : GivenPromise) → Among g state.promises → Each (EntryFits g.promise.base) g.promise.entries
  pub coherent : AreCoherent (handed_txns state)
  pub listed : BasesListHanded state

module _ (state : EpochState) (facts : EpochFacts state) (h : FitFacts state) where
  pub are_promises : (epoch : ℕ) → ArePromises (promises_for epoch state)
  are_promises epoch = record {
    distinct_replicas = facts.one_promise epoch;
    distinct_ids = each (λ p. HasDistinctIds p.entries) (promises_for epoch state) (λ p a. let g = given_of epoch state p a in subst (λ (x : PromiseState). HasDistinctIds x.entries) g.3 (h.ids g.0 g.1));
    one_base = λ p q a b same. one p q a b same;
    coherent = AreCoherent-within (flat_map promised_txns (promises_for epoch state)) (handed_txns state)
        (λ t a. let k = Among-from_flat_map promised_txns t (promises_for epoch state) a in promised_known state facts h.listed epoch k.0 k.1 t k.2) h.coherent;
    entries_fit = each (λ p. Each (EntryFits p.base) p.entries) (promises_for epoch state) (λ p a. let g = given_of epoch state p a in subst (λ (x : PromiseState). Each (EntryFits x.base) x.entries) g.3 (h.fit g.0 g.1));
  }
    where
      each : (P : PromiseState → Type 0) (ps : List PromiseState) → ((p : PromiseState) → Among p ps → P p) → Each P ps
      each P [] k = tt
      each P (p ∷ ps) k = (k p (inl refl), each P ps (λ q a. k q (inr a)))

      then_based : (p : PromiseState) → Among p (promises_for epoch state) → base_for p.adopted state ≡ Some p.base
      then_based p a = let g = given_of epoch state p a in subst (λ (x : PromiseState). base_for x.adopted state ≡ Some x.base) g.3 (facts.given g.0 g.1).base_then

      one : (p q : PromiseState) → Among p (promises_for epoch state) → Among q (promises_for epoch state) → p.adopted ≡ q.adopted → p.base ≡ q.base
      one p q a b same = some (sym (then_based p a) ∙ ap (λ n. base_for n state) same ∙ then_based q b)
        where
          some : ◌≡◌ {A = Option BaseState} (Some p.base) (Some q.base) → p.base ≡ q.base
          some e = same_Some p.base q.base e

  -- one accepted line more
  module _ (handed : HandedIn) (line : GlobalLine) (is : is_accepted (global_answer state line) ≡ true) (fits : LineFits state handed line) where
    known_after : (t : Transaction) → Among t (handed_txns (global_after state handed line)) → Among t (handed_txns state)
        ⊎ ((epoch r : ℕ) × (line ≡ PromiseLine epoch r) × Among t (txns_in handed.entries))
    known_after t a =
        let g = Among-from_flat_map (λ (x : GivenPromise). txns_in x.promise.entries) t (global_after state handed line).promises a in
        elim (promise_news state handed line is g.0 g.1) [
          | inl old ↦ inl (handed_here state g.0 old t g.2)
          | inr new ↦ inr (g.0.epoch, g.0.promise.replica, new.0, subst (λ (p : PromiseState). Among t (txns_in p.entries)) (sym new.1.2) g.2)
        ]

    may_hand : (epoch r : ℕ) → line ≡ PromiseLine epoch r → MayHandIn state r handed.entries
    may_hand epoch r same = subst (λ l. LineFits state handed l) same fits

    no_promise : ((epoch r : ℕ) → line ≡ PromiseLine epoch r → ⊥) → AreCoherent (handed_txns (global_after state handed line))
    no_promise never = AreCoherent-within (handed_txns (global_after state handed line)) (handed_txns state)
        (λ t a. elim (known_after t a) [ inl old ↦ old | inr new ↦ absurd (never new.0 new.1 new.2) ]) h.coherent

    a_promise : (epoch r : ℕ) → line ≡ PromiseLine epoch r → AreCoherent (handed_txns (global_after state handed line))
    a_promise epoch r same = AreCoherent-within (handed_txns (global_after state handed line)) (handed_txns state ++ txns_in handed.entries)
        (λ t a. elim (known_after t a) [ inl old ↦ Among-append_left t (handed_txns state) (txns_in handed.entries) old | inr new ↦ Among-append_right t (handed_txns state) (txns_in handed.entries) new.3 ])
        (may_hand epoch r same).coherent

    coherent_after : (l : GlobalLine) → line ≡ l → AreCoherent (handed_txns (global_after state handed line))
    coherent_after (Wipe q) same = no_promise (λ epoch r e. absurd (cc (sym same ∙ e)))
    coherent_after (Ask e) same = no_promise (λ epoch r e. absurd (cc (sym same ∙ e)))
    coherent_after (PromiseLine epoch r) same = a_promise epoch r same
    coherent_after (Merge e) same = no_promise (λ epoch r e. absurd (cc (sym same ∙ e)))
    coherent_after (Adopt e q) same = no_promise (λ epoch r e. absurd (cc (sym same ∙ e)))
    coherent_after (Enter e) same = no_promise (λ epoch r e. absurd (cc (sym same ∙ e)))

    pub fit_after : FitFacts (global_after state handed line)
    fit_after = record {
      ids = λ g a. elim (promise_news state handed line is g a) [
        | inl old ↦ h.ids g old
        | inr new ↦ subst (λ (p : PromiseState). HasDistinctIds p.entries) new.1.2 (may_hand g.epoch g.promise.replica new.0).distinct_ids
      ];
      fit = λ g a. elim (promise_news state handed line is g a) [
        | inl old ↦ h.fit g old
        | inr new ↦ subst (λ (p : PromiseState). Each (EntryFits p.base) p.entries) new.1.2 ((may_hand g.epoch g.promise.replica new.0).entries_fit new.1.0 new.1.1)
      ];
      coherent = coherent_after line refl;
      listed = listed_after state facts h.listed handed line is;
    }

pub fit_first : (f : ℕ) → FitFacts (first_epochs f)
fit_first f = record {
  ids = λ g none. absurd none;
  fit = λ g none. absurd none;
  coherent = record { one_of_a_number = λ a b none. absurd none; one_of_a_stamp = λ a b none. absurd none };
  listed = λ m none. absurd none;
}

fit_turn : (state : EpochState) → EpochFacts state → FitFacts state → (turn : GlobalTurn) → IsAnswer state turn.line turn.answer → LineFits state turn.handed turn.line → FitFacts (after_turn state turn)
fit_turn state facts h turn answered fits = by (is_accepted turn.answer) refl
  where
    by : (b : Bool) → is_accepted turn.answer ≡ b → FitFacts (cond b (global_after state turn.handed turn.line) state)
    by true e = fit_after state facts h turn.handed turn.line (answer_given state turn.line turn.answer answered e) fits
    by false e = h

fit_turns : (state : EpochState) → EpochFacts state → FitFacts state → (turns : List GlobalTurn) → EachAnswered state turns → EachFits state turns →
    EpochFacts (after_turns state turns) × FitFacts (after_turns state turns)
fit_turns state facts h [] answered fits = (facts, h)
fit_turns state facts h (turn ∷ turns) answered fits =
    fit_turns (after_turn state turn) (facts_turn state facts turn answered.0) (fit_turn state facts h turn answered.0 fits.0) turns answered.1 fits.1

reached_facts : (state : EpochState) → IsReached state → EpochFacts state × FitFacts state
reached_facts state r =
    subst (λ s. EpochFacts s × FitFacts s) r.4 (fit_turns (first_epochs r.0) (facts_first r.0) (fit_first r.0) r.1 r.2 r.3)

answered_more : (state : EpochState) (turns : List GlobalTurn) (turn : GlobalTurn) → EachAnswered state turns → IsAnswer (after_turns state turns) turn.line turn.answer → EachAnswered state (turns ++ turn ∷ [])
answered_more state [] turn h k = (k, tt)
answered_more state (t ∷ turns) turn h k = (h.0, answered_more (after_turn state t) turns turn h.1 k)

fits_more : (state : EpochState) (turns : List GlobalTurn) (turn : GlobalTurn) → EachFits state turns → LineFits (after_turns state turns) turn.handed turn.line → EachFits state (turns ++ turn ∷ [])
fits_more state [] turn h k = (k, tt)
fits_more state (t ∷ turns) turn h k = (h.0, fits_more (after_turn state t) turns turn h.1 k)

after_more : (state : EpochState) (turns : List GlobalTurn) (turn : GlobalTurn) → after_turns state (turns ++ turn ∷ []) ≡ after_turn (after_turns state turns) turn
after_more state [] turn = refl
after_more state (t ∷ turns) turn = after_more (after_turn state t) turns turn

pub first_is_reached : FirstIsReached
first_is_reached f = (f, [], tt, tt, refl)

pub next_is_reached : NextIsReached
next_is_reached state handed line answer after r fits step =
    let turn : GlobalTurn = record { handed = handed; line = line; answer = answer } in (
      r.0,
      r.1 ++ turn ∷ [],
      answered_more (first_epochs r.0) r.1 turn r.2 (subst (λ s. IsAnswer s line answer) (sym r.4) step.answered),
      fits_more (first_epochs r.0) r.1 turn r.3 (subst (λ s. LineFits s handed line) (sym r.4) fits),
      after_more (first_epochs r.0) r.1 turn ∙ ap (λ s. after_turn s turn) r.4 ∙ sym step.after,
    )

pub promises_are_fit : PromisesAreFit
promises_are_fit state r epoch = let k = reached_facts state r in are_promises state k.0 k.1 epoch

pub handed_in_is_coherent : HandedInIsCoherent
handed_in_is_coherent state r = (reached_facts state r).1.coherent
