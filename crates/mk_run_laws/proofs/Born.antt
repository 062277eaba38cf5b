-- How a replica comes by an epoch that it never had: by its adoption alone. A base that was made stays.
use Rattle.std.proofs.Common.{◌≡◌, ◌⊎◌, ℕ, Bool, true, false, refl, arith, inl, inr, sym, ap, ◌∙◌, List, [], ◌∷◌, Option, Some, None, subst, cond}
use Rattle.std.specs.Prelude.{slice_get, slice_set, find, option_map, is_some, not, ◌++◌, ◌==◌}
use Rattle.std.proofs.lemmas.Bool.{and_parts, cases_eq}
use Rattle.std.proofs.lemmas.Option.{same_Some, slice_get_within}
use Rattle.mk_lists.proofs.Places.{slice_get-set_other, slice_get-set_same}
use Rattle.mk_lists.proofs.Changes.{slice_get-change, slice_get-from_change}
use Rattle.mk_lists.proofs.Lookups.{find-append_some}
use Rattle.mk_epoch_laws.proofs.LineNews.{promise_done}
use Rattle.mk_words.specs.Bases.{BaseState}
use Rattle.mk_words.specs.declared.Phase.{Phase}
use Rattle.mk_words.specs.declared.Phase.TheVariants.{Serving, Paused, Adopted, Lacking}
use Rattle.mk_words.specs.declared.GlobalEntry.{GlobalEntry}
use Rattle.mk_words.specs.declared.GlobalLine.{GlobalLine}
use Rattle.mk_words.specs.declared.GlobalLine.TheVariants.{Wipe, Ask, Promise, Merge, Adopt, Enter}
use Rattle.mk_words.specs.declared.GlobalAnswer.TheVariants.{Ok as Done, Unmade, Old}
use Rattle.mk_words.specs.Merging.{merged}
use Rattle.mk_model.specs.EpochState.{EpochState, ReplicaState, MadeBase, made_for, promises_for}
use Rattle.mk_model.specs.GlobalAnswers.{global_answer, promise_answer, adopt_answer, is_too_old, lacks, is_accepted}
use Rattle.mk_model.specs.GlobalSteps.{HandedIn, global_after, change_replica, wiped, promised, with_promise, with_base, adopting, base_or_empty, serving, is_adopted, with_adoption, awaits_enter}
use Rattle.mk_history.specs.declared.RoundLog.{RoundLog}
use Rattle.mk_history.specs.Histories.{History}
use Rattle.mk_history.specs.Wholes.{WholeState, after_logs, after_global, globals_through, after_round, state_through, handed_in}
use Rattle.mk_run_laws.proofs.Standing.{At, HasIt, at_set}

-- the replica does not have the epoch
abbrev pub NotIt : ℕ → ReplicaState → Type 0
NotIt e x = (lacks x.phase ≡ true) ⊎ (x.adopted ≡ e → ⊥)

-- a line leaves it so, or is its adoption
abbrev pub Born : EpochState → GlobalLine → (e r : ℕ) → List ReplicaState → Type 0
Born state line e r xs = At (NotIt e) r xs ⊎ ((line ≡ Adopt e r) × ((base : BaseState) × (made_for e state ≡ Some base)) × At (HasIt e) r xs)

entered_not : (e epoch : ℕ) (x z : ReplicaState) → (x ≡ z) ⊎ ((awaits_enter epoch x ≡ true) × (serving x ≡ z)) → NotIt e x → NotIt e z
entered_not e epoch x z (inl k) h = subst (NotIt e) k h
entered_not e epoch x z (inr k) h = subst (NotIt e) k.1 (by h)
  where
    waits : (phase : Phase) → is_adopted phase ≡ true → lacks phase ≡ true → ⊥
    waits Adopted a l = cc l
    waits Serving a l = cc a
    waits Paused a l = cc a
    waits Lacking a l = cc a

    by : NotIt e x → NotIt e (serving x)
    by (inl lost) = absurd (waits x.phase (and_parts (is_adopted x.phase) (x.adopted == epoch) k.0).0 lost)
    by (inr apart) = inr apart

adopt_made : (state : EpochState) (epoch : ℕ) (x : ReplicaState) → is_accepted (adopt_answer state epoch (Some x)) ≡ true → (base : BaseState) × (made_for epoch state ≡ Some base)
adopt_made state epoch x is = by (made_for epoch state) refl is
  where
    by : (o : Option BaseState) → made_for epoch state ≡ o →
        is_accepted (cond (not (is_some o)) Unmade (cond (is_too_old x epoch) (Old x.word) Done)) ≡ true →
        (base : BaseState) × (made_for epoch state ≡ Some base)
    by None k is = absurd (cc is)
    by (Some base) k is = (base, k)

module _ (state : EpochState) (handed : HandedIn) (e r : ℕ) where
  pub line_born : (line : GlobalLine) → is_accepted (global_answer state line) ≡ true → At (NotIt e) r state.replicas → Born state line e r (global_after state handed line).replicas
  line_born (Wipe q) is h = by (slice_get state.replicas q) refl
    where
      by : (o : Option ReplicaState) → slice_get state.replicas q ≡ o → Born state (Wipe q) e r (change_replica q wiped o state).replicas
      by None at = inl h
      by (Some x) at = inl (at_set (NotIt e) (NotIt e) state.replicas q x (wiped x) at r (λ _ _. inl refl) (λ _ z k. k) h)
  line_born (Adopt epoch q) is h = by (slice_get state.replicas q) refl is
    where
      by : (o : Option ReplicaState) → slice_get state.replicas q ≡ o → is_accepted (adopt_answer state epoch o) ≡ true →
          Born state (Adopt epoch q) e r (with_adoption epoch q (change_replica q (adopting epoch (base_or_empty (made_for epoch state))) o state)).replicas
      by None at is = absurd (cc is)
      by (Some x) at is = elim (cases_eq epoch e) [
        | inr apart ↦ inl (at_set (NotIt e) (NotIt e) state.replicas q x taken at r (λ _ _. inr apart) (λ _ z k. k) h)
        | inl same ↦ elim (cases_eq r q) [
          | inl here ↦ inr (
            (λ i. Adopt (same i) (sym here i)),
            subst (λ (n : ℕ). (base : BaseState) × (made_for n state ≡ Some base)) same (adopt_made state epoch x is),
            (taken, ap (slice_get (slice_set state.replicas q taken)) here ∙ slice_get-set_same state.replicas q taken (slice_get_within state.replicas q x at), (omega (arith, same), refl, same)),
          )
          | inr other ↦ inl (h.0, slice_get-set_other state.replicas q r taken other ∙ h.1, h.2)
        ]
      ]
        where
          taken : ReplicaState
          taken = adopting epoch (base_or_empty (made_for epoch state)) x
  line_born (Promise epoch q) is h = by (slice_get state.replicas q) refl is
    where
      by : (o : Option ReplicaState) → slice_get state.replicas q ≡ o → is_accepted (promise_answer state epoch o) ≡ true →
          Born state (Promise epoch q) e r (change_replica q (promised epoch) o (with_promise epoch q handed o state)).replicas
      by None at is = absurd (cc is)
      by (Some x) at is = inl (at_set (NotIt e) (NotIt e) state.replicas q x (promised epoch x) at r (λ _ k. kept k) (λ _ z k. k) h)
        where
          kept : NotIt e x → NotIt e (promised epoch x)
          kept (inl lost) = absurd (cc (sym (promise_done state epoch x is).0 ∙ lost))
          kept (inr apart) = inr apart
  line_born (Ask epoch) is h = inl h
  line_born (Merge epoch) is h = by (made_for epoch state)
    where
      by : (o : Option BaseState) → Born state (Merge epoch) e r (with_base epoch o state).replicas
      by None = inl h
      by (Some base) = inl h
  line_born (Enter epoch) is (x, at, h) =
      let t = slice_get-change (awaits_enter epoch) serving state.replicas r x at in
      let k = slice_get-from_change (awaits_enter epoch) serving state.replicas r t.0 t.1 in
      let old = subst (NotIt e) (same_Some x k.0 (sym at ∙ k.1)) h in
      inl (t.0, t.1, entered_not e epoch k.0 t.0 k.2 old)

-- ---- bases stay

found_later : (e : ℕ) (made more : List MadeBase) (base : BaseState) → option_map (λ (m : MadeBase). m.base) (find (λ (m : MadeBase). m.epoch == e) made) ≡ Some base →
    option_map (λ (m : MadeBase). m.base) (find (λ (m : MadeBase). m.epoch == e) (made ++ more)) ≡ Some base
found_later e made more base k = by (find (λ (m : MadeBase). m.epoch == e) made) refl k
  where
    by : (o : Option MadeBase) → find (λ (m : MadeBase). m.epoch == e) made ≡ o → option_map (λ (m : MadeBase). m.base) o ≡ Some base →
        option_map (λ (m : MadeBase). m.base) (find (λ (m : MadeBase). m.epoch == e) (made ++ more)) ≡ Some base
    by None f k = absurd (cc k)
    by (Some m) f k = ap (option_map (λ (x : MadeBase). x.base)) (find-append_some (λ (x : MadeBase). x.epoch == e) made more m f) ∙ k

module _ (e : ℕ) (base : BaseState) where
  abbrev pub IsMade : EpochState → Type 0
  IsMade state = made_for e state ≡ Some base

  changed_made : (q : ℕ) (f : ReplicaState → ReplicaState) (o : Option ReplicaState) (state : EpochState) → IsMade state → IsMade (change_replica q f o state)
  changed_made q f None state k = k
  changed_made q f (Some x) state k = k

  promise_made : (epoch q : ℕ) (handed : HandedIn) (o : Option ReplicaState) (state : EpochState) → IsMade state → IsMade (with_promise epoch q handed o state)
  promise_made epoch q handed None state k = k
  promise_made epoch q handed (Some x) state k = k

  line_made : (state : EpochState) (handed : HandedIn) (line : GlobalLine) → IsMade state → IsMade (global_after state handed line)
  line_made state handed (Wipe q) k = changed_made q wiped (slice_get state.replicas q) state k
  line_made state handed (Ask epoch) k = k
  line_made state handed (Promise epoch q) k =
      changed_made q (promised epoch) (slice_get state.replicas q) (with_promise epoch q handed (slice_get state.replicas q) state)
      (promise_made epoch q handed (slice_get state.replicas q) state k)
  line_made state handed (Merge epoch) k = by (made_for epoch state)
    where
      by : (o : Option BaseState) → IsMade (with_base epoch o state)
      by (Some b) = k
      by None = found_later e state.made (record { epoch = epoch; base = merged state.faults epoch (promises_for epoch state) } ∷ []) base k
  line_made state handed (Adopt epoch q) k = changed_made q (adopting epoch (base_or_empty (made_for epoch state))) (slice_get state.replicas q) state k
  line_made state handed (Enter epoch) k = k

  pub global_made : (run : History) (state : WholeState) (entry : GlobalEntry) → IsMade state.epochs → IsMade (after_global run state entry).epochs
  global_made run state entry k = by (is_accepted entry.answer)
    where
      by : (b : Bool) → IsMade (cond b (global_after state.epochs (handed_in state entry.line) entry.line) state.epochs)
      by true = line_made state.epochs (handed_in state entry.line) entry.line k
      by false = k

  pub globals_made : (run : History) (entries : List GlobalEntry) (state : WholeState) → IsMade state.epochs → IsMade (globals_through run state entries).epochs
  globals_made run [] state k = k
  globals_made run (entry ∷ entries) state k = globals_made run entries (after_global run state entry) (global_made run state entry k)

  pub rounds_made : (run : History) (rounds : List RoundLog) (state : WholeState) → IsMade state.epochs → IsMade (state_through run state rounds).epochs
  rounds_made run [] state k = k
  rounds_made run (round ∷ rounds) state k = rounds_made run rounds (after_round run round state) (globals_made run round.globals (after_logs run round state) k)
