-- Where a replica stands to an epoch that it once served: it has it still, or it is past it for good.
use Rattle.std.proofs.Common.{◌≡◌, ◌⊎◌, ◌<◌, ◌≤◌, ℕ, Bool, true, false, refl, arith, inl, inr, sym, ap, ◌∙◌, List, [], ◌∷◌, ◌++◌, Option, Some, None, subst, cond, not, ◌||◌}
use Rattle.std.specs.Prelude.{slice_get, slice_set, nat_le, nat_lt, is_some, ◌==◌}
use Rattle.std.proofs.lemmas.Bool.Decides.{nat_tests}
use Rattle.std.proofs.lemmas.Bool.{and_parts, cases_eq}
use Rattle.std.proofs.lemmas.Option.{same_Some, slice_get_within}
use Rattle.mk_lists.proofs.Places.{slice_get-set_other, slice_get-set_same}
use Rattle.mk_lists.proofs.Changes.{slice_get-change, slice_get-from_change}
use Rattle.mk_epoch_laws.proofs.Turning.{answer_given}
use Rattle.mk_epoch_laws.proofs.LineNews.{promise_done}
use Rattle.mk_words.specs.declared.Phase.{Phase}
use Rattle.mk_words.specs.declared.Phase.TheVariants.{Serving, Paused, Adopted, Lacking}
use Rattle.mk_words.specs.Bases.{BaseState}
use Rattle.mk_words.specs.declared.GlobalEntry.{GlobalEntry}
use Rattle.mk_words.specs.declared.GlobalLine.{GlobalLine}
use Rattle.mk_words.specs.declared.GlobalLine.TheVariants.{Wipe, Ask, Promise, Merge, Adopt, Enter}
use Rattle.mk_words.specs.declared.GlobalAnswer.TheVariants.{Ok as Done, Unmade, Old}
use Rattle.mk_model.specs.EpochState.{EpochState, ReplicaState, made_for}
use Rattle.mk_model.specs.GlobalAnswers.{global_answer, promise_answer, adopt_answer, is_too_old, lacks, is_accepted}
use Rattle.mk_model.specs.GlobalSteps.{HandedIn, global_after, change_replica, wiped, promised, with_promise, with_base, adopting, base_or_empty, serving, is_adopted, with_adoption, awaits_enter}
use Rattle.mk_column_laws.specs.Moments.{has_number}
use Rattle.mk_history.specs.Histories.{History}
use Rattle.mk_history.specs.Legality.{EachGlobalAnswered}
use Rattle.mk_history.specs.Wholes.{WholeState, after_global, globals_through, handed_in}
use Rattle.mk_run_laws.specs.RunEvents.{emptied_by, emptied_in}

-- the replica has the epoch
abbrev pub HasIt : ℕ → ReplicaState → Type 0
HasIt e x = (e ≤ x.word) × (lacks x.phase ≡ false) × (x.adopted ≡ e)

-- the replica lost its state since, or is above the epoch
abbrev pub IsPast : ℕ → ReplicaState → Type 0
IsPast e x = (e ≤ x.word) × ((lacks x.phase ≡ true) ⊎ (e < x.adopted))

-- it has it and was not reset, or is past it
abbrev pub Stands : ℕ → Bool → ReplicaState → Type 0
Stands e left x = (HasIt e x × (left ≡ false)) ⊎ IsPast e x

-- a fact of the replica at this place
abbrev pub At : (ReplicaState → Type 0) → ℕ → List ReplicaState → Type 0
At P r xs = (x : ReplicaState) × (slice_get xs r ≡ Some x) × P x

-- one place is set
pub at_set : (P Q : ReplicaState → Type 0) (xs : List ReplicaState) (q : ℕ) (x y : ReplicaState) → slice_get xs q ≡ Some x → (r : ℕ) →
    (r ≡ q → P x → Q y) → ((r ≡ q → ⊥) → (z : ReplicaState) → P z → Q z) → At P r xs → At Q r (slice_set xs q y)
at_set P Q xs q x y at r here there (z, is, h) = elim (cases_eq r q) [
  | inl same ↦ (
    y,
    subst (λ (n : ℕ). slice_get (slice_set xs q y) n ≡ Some y) (sym same) (slice_get-set_same xs q y (slice_get_within xs q x at)),
    here same (subst P (same_Some z x (sym is ∙ ap (slice_get xs) same ∙ at)) h),
  )
  | inr apart ↦ (z, slice_get-set_other xs q r y apart ∙ is, there apart z h)
]

-- nothing is there at a place
pub at_none : (P Q : ReplicaState → Type 0) (xs : List ReplicaState) (q : ℕ) → slice_get xs q ≡ None → (r : ℕ) → ((r ≡ q → ⊥) → (z : ReplicaState) → P z → Q z) → At P r xs → At Q r xs
at_none P Q xs q none r there (z, is, h) = (z, is, there (λ same. absurd (cc (sym is ∙ ap (slice_get xs) same ∙ none))) z h)

-- ---- the flag

flag-other : (q r : ℕ) (left : Bool) → (r ≡ q → ⊥) → left ≡ false → (left || has_number (q ∷ []) r) ≡ false
flag-other q r left apart e = by (q == r) refl
  where
    by : (b : Bool) → (q == r) ≡ b → (left || (b || false)) ≡ false
    by true k = absurd (apart (let tells = k in grind (arith, nat_tests, tells)))
    by false k = grind (arith, e)

flag-none : (r : ℕ) (left : Bool) → left ≡ false → (left || has_number [] r) ≡ false
flag-none r left e = grind (arith, e)

other : (e q r : ℕ) (left : Bool) → (r ≡ q → ⊥) → (z : ReplicaState) → Stands e left z → Stands e (left || has_number (q ∷ []) r) z
other e q r left apart z (inl h) = inl (h.0, flag-other q r left apart h.1)
other e q r left apart z (inr h) = inr h

same : (e r : ℕ) (left : Bool) (z : ReplicaState) → Stands e left z → Stands e (left || has_number [] r) z
same e r left z (inl h) = inl (h.0, flag-none r left h.1)
same e r left z (inr h) = inr h

-- ---- one replica

wiped_stands : (e : ℕ) (left flag : Bool) (x : ReplicaState) → Stands e left x → Stands e flag (wiped x)
wiped_stands e left flag x (inl h) = inr (h.0.0, inl refl)
wiped_stands e left flag x (inr h) = inr (h.0, inl refl)

promised_stands : (e epoch : ℕ) (left flag : Bool) (x : ReplicaState) → lacks x.phase ≡ false → x.word < epoch → (left ≡ false → flag ≡ false) → Stands e left x → Stands e flag (promised epoch x)
promised_stands e epoch left flag x there up keeps (inl h) = inl ((let le = h.0.0 in omega (arith, le, up), refl, h.0.2), keeps h.1)
promised_stands e epoch left flag x there up keeps (inr (le, inl lost)) = absurd (cc (sym there ∙ lost))
promised_stands e epoch left flag x there up keeps (inr (le, inr beyond)) = inr (omega (arith, le, up), inr beyond)

-- an adoption is of an epoch above
above : (e epoch : ℕ) (x : ReplicaState) → is_too_old x epoch ≡ false → ((lacks x.phase ≡ false) × (e ≤ x.adopted)) ⊎ ((lacks x.phase ≡ true) × (e ≤ x.word)) → e < epoch
above e epoch x may (inl h) = by (lacks x.phase) h.0 may
  where
    by : (b : Bool) → b ≡ false → cond b (nat_le epoch x.word) (nat_lt epoch x.word || nat_le epoch x.adopted) ≡ false → e < epoch
    by true k is = absurd (cc k)
    by false k is = let le = h.1 in grind (arith, nat_tests, is, le)
above e epoch x may (inr h) = by (lacks x.phase) h.0 may
  where
    by : (b : Bool) → b ≡ true → cond b (nat_le epoch x.word) (nat_lt epoch x.word || nat_le epoch x.adopted) ≡ false → e < epoch
    by true k is = let le = h.1 in grind (arith, nat_tests, is, le)
    by false k is = absurd (cc k)

adopted_stands : (e epoch : ℕ) (base : BaseState) (left flag : Bool) (x : ReplicaState) → is_too_old x epoch ≡ false → Stands e left x → Stands e flag (adopting epoch base x)
adopted_stands e epoch base left flag x may h = let up = by h in inr (omega (arith, up), inr up)
  where
    of_phase : (b : Bool) → lacks x.phase ≡ b → e ≤ x.word → (b ≡ false → e ≤ x.adopted) → e < epoch
    of_phase true k le has = above e epoch x may (inr (k, le))
    of_phase false k le has = above e epoch x may (inl (k, has refl))

    by : Stands e left x → e < epoch
    by (inl h) = above e epoch x may (inl (h.0.1, (let a = h.0.2 in omega (arith, a))))
    by (inr (le, inl lost)) = above e epoch x may (inr (lost, le))
    by (inr (le, inr beyond)) = of_phase (lacks x.phase) refl le (λ k. omega (arith, beyond))

-- ---- one line

pub adopt_may : (state : EpochState) (epoch : ℕ) (x : ReplicaState) → is_accepted (adopt_answer state epoch (Some x)) ≡ true → is_too_old x epoch ≡ false
adopt_may state epoch x is = by (not (is_some (made_for epoch state))) (is_too_old x epoch) is
  where
    by : (a b : Bool) → is_accepted (cond a Unmade (cond b (Old x.word) Done)) ≡ true → b ≡ false
    by true b is = absurd (cc is)
    by false true is = absurd (cc is)
    by false false is = refl

entered_stands : (e epoch : ℕ) (left : Bool) (x z : ReplicaState) → (x ≡ z) ⊎ ((awaits_enter epoch x ≡ true) × (serving x ≡ z)) → Stands e left x → Stands e left z
entered_stands e epoch left x z (inl k) h = subst (Stands e left) k h
entered_stands e epoch left x z (inr k) h = subst (Stands e left) k.1 (by h)
  where
    waits : (phase : Phase) → is_adopted phase ≡ true → lacks phase ≡ true → ⊥
    waits Adopted a l = cc l
    waits Serving a l = cc a
    waits Paused a l = cc a
    waits Lacking a l = cc a

    by : Stands e left x → Stands e left (serving x)
    by (inl h) = inl ((h.0.0, refl, h.0.2), h.1)
    by (inr (le, inl lost)) = absurd (waits x.phase (and_parts (is_adopted x.phase) (x.adopted == epoch) k.0).0 lost)
    by (inr (le, inr beyond)) = inr (le, inr beyond)

module _ (state : EpochState) (handed : HandedIn) (e r : ℕ) (left : Bool) where
  pub line_stands : (line : GlobalLine) → is_accepted (global_answer state line) ≡ true → At (Stands e left) r state.replicas →
      At (Stands e (left || has_number (emptied_by line) r)) r (global_after state handed line).replicas
  line_stands (Wipe q) is h = by (slice_get state.replicas q) refl
    where
      by : (o : Option ReplicaState) → slice_get state.replicas q ≡ o → At (Stands e (left || has_number (q ∷ []) r)) r (change_replica q wiped o state).replicas
      by None at = at_none (Stands e left) (Stands e (left || has_number (q ∷ []) r)) state.replicas q at r (other e q r left) h
      by (Some x) at =
          at_set (Stands e left) (Stands e (left || has_number (q ∷ []) r)) state.replicas q x (wiped x) at r
          (λ k. wiped_stands e left (left || has_number (q ∷ []) r) x) (other e q r left) h
  line_stands (Adopt epoch q) is h = by (slice_get state.replicas q) refl is
    where
      by : (o : Option ReplicaState) → slice_get state.replicas q ≡ o → is_accepted (adopt_answer state epoch o) ≡ true →
          At (Stands e (left || has_number (q ∷ []) r)) r (with_adoption epoch q (change_replica q (adopting epoch (base_or_empty (made_for epoch state))) o state)).replicas
      by None at is = absurd (cc is)
      by (Some x) at is =
          let base = base_or_empty (made_for epoch state) in
          at_set (Stands e left) (Stands e (left || has_number (q ∷ []) r)) state.replicas q x (adopting epoch base x) at r
          (λ k. adopted_stands e epoch base left (left || has_number (q ∷ []) r) x (adopt_may state epoch x is)) (other e q r left) h
  line_stands (Promise epoch q) is h = by (slice_get state.replicas q) refl is
    where
      by : (o : Option ReplicaState) → slice_get state.replicas q ≡ o → is_accepted (promise_answer state epoch o) ≡ true →
          At (Stands e (left || has_number [] r)) r (change_replica q (promised epoch) o (with_promise epoch q handed o state)).replicas
      by None at is = absurd (cc is)
      by (Some x) at is =
          let may = promise_done state epoch x is in
          at_set (Stands e left) (Stands e (left || has_number [] r)) state.replicas q x (promised epoch x) at r
          (λ k. promised_stands e epoch left (left || has_number [] r) x may.0 may.1 (flag-none r left)) (λ _. same e r left) h
  line_stands (Ask epoch) is h = (h.0, h.1, same e r left h.0 h.2)
  line_stands (Merge epoch) is h = by (made_for epoch state)
    where
      by : (o : Option BaseState) → At (Stands e (left || has_number [] r)) r (with_base epoch o state).replicas
      by None = (h.0, h.1, same e r left h.0 h.2)
      by (Some base) = (h.0, h.1, same e r left h.0 h.2)
  line_stands (Enter epoch) is (x, at, h) =
      let t = slice_get-change (awaits_enter epoch) serving state.replicas r x at in
      let k = slice_get-from_change (awaits_enter epoch) serving state.replicas r t.0 t.1 in
      let old = subst (Stands e left) (same_Some x k.0 (sym at ∙ k.1)) h in
      (t.0, t.1, same e r left t.0 (entered_stands e epoch left k.0 t.0 k.2 old))

-- ---- the lines of a round

has_number-append : (one later : List ℕ) (r : ℕ) (left : Bool) → ((left || has_number one r) || has_number later r) ≡ (left || has_number (one ++ later) r)
has_number-append [] later r left = grind arith
has_number-append (q ∷ one) later r left = by (q == r) (has_number one r) (has_number later r) (has_number (one ++ later) r) (has_number-append one later r false) left
  where
    by : (a b d x : Bool) → ((false || b) || d) ≡ (false || x) → (l : Bool) → ((l || (a || b)) || d) ≡ (l || (a || x))
    by a b d x k true = refl
    by true b d x k false = refl
    by false b d x k false = k

pub lines_stand : (run : History) (entries : List GlobalEntry) (state : WholeState) → EachGlobalAnswered run state entries → (e r : ℕ) (left : Bool) →
    At (Stands e left) r state.epochs.replicas → At (Stands e (left || has_number (emptied_in entries) r)) r (globals_through run state entries).epochs.replicas
lines_stand run [] state answered e r left h = (h.0, h.1, same e r left h.0 h.2)
lines_stand run (entry ∷ entries) state answered e r left h =
    let emptied = cond (is_accepted entry.answer) (emptied_by entry.line) [] in
    let k = lines_stand run entries (after_global run state entry) answered.1 e r (left || has_number emptied r) (by (is_accepted entry.answer) refl) in
    subst (λ (b : Bool). At (Stands e b) r (globals_through run (after_global run state entry) entries).epochs.replicas) (has_number-append emptied (emptied_in entries) r left) k
  where
    by : (b : Bool) → is_accepted entry.answer ≡ b →
        At (Stands e (left || has_number (cond b (emptied_by entry.line) []) r)) r (cond b (global_after state.epochs (handed_in state entry.line) entry.line) state.epochs).replicas
    by true is = line_stands state.epochs (handed_in state entry.line) e r left entry.line (answer_given state.epochs entry.line entry.answer answered.0 is) h
    by false is = (h.0, h.1, same e r left h.0 h.2)
