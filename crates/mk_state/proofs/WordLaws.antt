-- The words that are kept, behind a global line.
use Rattle.std.proofs.Common.{inl, inr, ◌≡◌, ◌∙◌, ℕ, zero, suc, Bool, true, false, refl, sym, ap, subst, arith, List, [], ◌∷◌, length, Option, Some, None, if◌then◌else◌}
use Rattle.std.specs.Prelude.{◌==◌, not, slice_get, slice_set, option_map, unwrap_or, nat_le, nat_lt, is_some, Result, Ok, Err, IfOk, OnOk}
use Rattle.std.proofs.lemmas.Bool.Decides.{nat_tests}
use Rattle.mk_lists.specs.Changed.{change}
use Rattle.mk_quorum.specs.Sizes.{majority_of}
use Rattle.mk_words.specs.Bases.{BaseState}
use Rattle.mk_words.specs.Merging.{merged}
use Rattle.mk_words.specs.Promises.{can_merge, leader_of}
use Rattle.mk_words.specs.declared.GlobalLine.{GlobalLine}
use Rattle.mk_words.specs.declared.GlobalLine.TheVariants.{Wipe, Ask, Promise, Merge, Adopt, Enter}
use Rattle.mk_words.specs.declared.GlobalAnswer.{GlobalAnswer}
use Rattle.mk_words.specs.declared.GlobalAnswer.TheVariants.{Ok as Done, Counts, Entered, Unasked, Unmade, Lacking, Old, WordFault, Short}
use Rattle.mk_model.specs.EpochState.{EpochState, ReplicaState, made_for, was_asked, promises_for, adopters}
use Rattle.mk_model.specs.GlobalAnswers.{global_answer, promise_answer, adopt_answer, merge_answer, merge_refusal, enter_answer, counts_of, is_accepted, writes_word, lacks, is_too_old}
use Rattle.mk_model.specs.GlobalSteps.{HandedIn, IsAnswer, global_after, global_outcome, change_replica, with_promise, with_base, with_adoption, base_or_empty, awaits_enter, serving, wiped, promised, adopting}
use Rattle.mk_epoch.specs.declared.replica.Replica.{Replica}
use Rattle.mk_epoch.specs.Standing.{ReplicasView, AllStand, StandsFor, word_at}
use Rattle.mk_history.specs.Histories.{History}
use Rattle.mk_history.specs.Wholes.{WholeState, handed_in}
use Rattle.mk_txn.specs.declared.NoMemory.{NoMemory}
use Rattle.mk_state.specs.Standings.{WholeView, MayDo}
use Rattle.mk_state.specs.Words.{IsWordFor, writes_word_of, IsWrittenBy, IsWordAfter, HasFaulted, KeepsWords}
use Rattle.mk_state.proofs.LineLaws.{Answers}

-- the word of a replica
abbrev word_in : List ReplicaState → ℕ → ℕ
word_in replicas r = unwrap_or (option_map (λ (replica : ReplicaState). replica.word) (slice_get replicas r)) 0

-- what is kept as the words are the words
stand-word : {B : Type 0} (stands : B → BaseState → Type 0) (kept : List (Replica B)) (states : List ReplicaState) → AllStand stands kept states → (r : ℕ) → word_at kept r ≡ word_in states r
stand-word stands [] [] h r = refl
stand-word stands [] (state ∷ states) h r = absurd h
stand-word stands (replica ∷ kept) [] h r = absurd h
stand-word stands (replica ∷ kept) (state ∷ states) h zero = h.0.word
stand-word stands (replica ∷ kept) (state ∷ states) h (suc r) = stand-word stands kept states h.1 r

set-elsewhere : (xs : List ReplicaState) (q r : ℕ) (x : ReplicaState) → (q ≡ r → ⊥) → word_in (slice_set xs q x) r ≡ word_in xs r
set-elsewhere [] q r x other = refl
set-elsewhere (y ∷ xs) zero zero x other = absurd (other refl)
set-elsewhere (y ∷ xs) zero (suc r) x other = refl
set-elsewhere (y ∷ xs) (suc q) zero x other = refl
set-elsewhere (y ∷ xs) (suc q) (suc r) x other = set-elsewhere xs q r x (λ e. other (ap suc e))

set-alike : (xs : List ReplicaState) (q r : ℕ) (x y : ReplicaState) → slice_get xs q ≡ Some x → y.word ≡ x.word → word_in (slice_set xs q y) r ≡ word_in xs r
set-alike [] q r x y at same = refl
set-alike (z ∷ xs) zero zero x y at same = let here : z ≡ x = cc in same ∙ ap (λ (w : ReplicaState). w.word) (sym here)
set-alike (z ∷ xs) zero (suc r) x y at same = refl
set-alike (z ∷ xs) (suc q) zero x y at same = refl
set-alike (z ∷ xs) (suc q) (suc r) x y at same = set-alike xs q r x y at same

set-here : (xs : List ReplicaState) (q : ℕ) (x y : ReplicaState) → slice_get xs q ≡ Some x → word_in (slice_set xs q y) q ≡ y.word
set-here [] q x y at = absurd (cc)
set-here (z ∷ xs) zero x y at = refl
set-here (z ∷ xs) (suc q) x y at = set-here xs q x y at

-- a change of another replica, and one that keeps the word
change-elsewhere : (q r : ℕ) (f : ReplicaState → ReplicaState) (found : Option ReplicaState) (state : EpochState) → (q ≡ r → ⊥) →
    word_in (change_replica q f found state).replicas r ≡ word_in state.replicas r
change-elsewhere q r f (Some x) state other = set-elsewhere state.replicas q r (f x) other
change-elsewhere q r f None state other = refl

wiped-alike : (q r : ℕ) (found : Option ReplicaState) (state : EpochState) → slice_get state.replicas q ≡ found →
    word_in (change_replica q wiped found state).replicas r ≡ word_in state.replicas r
wiped-alike q r (Some x) state at = set-alike state.replicas q r x (wiped x) at refl
wiped-alike q r None state at = refl

promise-alike : (epoch q r : ℕ) (handed : HandedIn) (found : Option ReplicaState) (state : EpochState) → word_in (with_promise epoch q handed found state).replicas r ≡ word_in state.replicas r
promise-alike epoch q r handed (Some x) state = refl
promise-alike epoch q r handed None state = refl

made-alike : (epoch r : ℕ) (base : Option BaseState) (state : EpochState) → word_in (with_base epoch base state).replicas r ≡ word_in state.replicas r
made-alike epoch r (Some base) state = refl
made-alike epoch r None state = refl

serving-alike : (b : Bool) (x : ReplicaState) → (if b then serving x else x).word ≡ x.word
serving-alike true x = refl
serving-alike false x = refl

entered-alike : (epoch : ℕ) (xs : List ReplicaState) (r : ℕ) → word_in (change (awaits_enter epoch) serving xs) r ≡ word_in xs r
entered-alike epoch [] r = refl
entered-alike epoch (x ∷ xs) zero = serving-alike (awaits_enter epoch x) x
entered-alike epoch (x ∷ xs) (suc r) = entered-alike epoch xs r

differs : (q r : ℕ) → q == r ≡ false → q ≡ r → ⊥
differs q r e same = grind (arith, nat_tests)

-- a line that was done leaves all words but that which it writes
after-elsewhere : (state : EpochState) (handed : HandedIn) (line : GlobalLine) (r : ℕ) → writes_word_of line r ≡ false →
    word_in (global_after state handed line).replicas r ≡ word_in state.replicas r
after-elsewhere state handed (Wipe q) r e = wiped-alike q r (slice_get state.replicas q) state refl
after-elsewhere state handed (Ask epoch) r e = refl
after-elsewhere state handed (Promise epoch q) r e =
    change-elsewhere q r (promised epoch) (slice_get state.replicas q) (with_promise epoch q handed (slice_get state.replicas q) state) (differs q r e)
    ∙ promise-alike epoch q r handed (slice_get state.replicas q) state
after-elsewhere state handed (Merge epoch) r e = made-alike epoch r (made_for epoch state) state
after-elsewhere state handed (Adopt epoch q) r e =
    change-elsewhere q r (adopting epoch (base_or_empty (made_for epoch state))) (slice_get state.replicas q) state (differs q r e)
after-elsewhere state handed (Enter epoch) r e = entered-alike epoch state.replicas r

outcome-elsewhere : (state : EpochState) (handed : HandedIn) (line : GlobalLine) (answer : GlobalAnswer) (r : ℕ) → writes_word_of line r ≡ false →
    word_in (global_outcome state handed line answer).replicas r ≡ word_in state.replicas r
outcome-elsewhere state handed line answer r e = by (is_accepted answer)
  where
    by : (b : Bool) → word_in (if b then global_after state handed line else state).replicas r ≡ word_in state.replicas r
    by true = after-elsewhere state handed line r e
    by false = refl

-- a promise that is given writes the epoch
promise-writes : (state : EpochState) (handed : HandedIn) (epoch r : ℕ) → Done ≡ promise_answer state epoch (slice_get state.replicas r) →
    word_in (global_after state handed (Promise epoch r)).replicas r ≡ epoch
promise-writes state handed epoch r done = by (slice_get state.replicas r) refl done
  where
    by : (found : Option ReplicaState) → slice_get state.replicas r ≡ found → Done ≡ promise_answer state epoch found →
        word_in (change_replica r (promised epoch) found (with_promise epoch r handed found state)).replicas r ≡ epoch
    by (Some x) at told = set-here state.replicas r x (promised epoch x) at
    by None at told = absurd (cc)

adopt-writes : (state : EpochState) (handed : HandedIn) (epoch r : ℕ) → Done ≡ adopt_answer state epoch (slice_get state.replicas r) →
    word_in (global_after state handed (Adopt epoch r)).replicas r ≡ epoch
adopt-writes state handed epoch r done = by (slice_get state.replicas r) refl done
  where
    base : BaseState
    base = base_or_empty (made_for epoch state)

    by : (found : Option ReplicaState) → slice_get state.replicas r ≡ found → Done ≡ adopt_answer state epoch found →
        word_in (with_adoption epoch r (change_replica r (adopting epoch base) found state)).replicas r ≡ epoch
    by (Some x) at told = set-here state.replicas r x (adopting epoch base x) at
    by None at told = absurd (cc)

-- ---- answers

-- the answers of a line that writes a word
abbrev IsOfWord : GlobalAnswer → Type 0
IsOfWord (Counts commits aborts) = ⊥
IsOfWord (Entered k) = ⊥
IsOfWord answer = Unit {0}

by-tests : (P : GlobalAnswer → Type 0) (b c : Bool) (x y z : GlobalAnswer) → P x → P y → P z → P (if b then x else if c then y else z)
by-tests P true c x y z p q r = p
by-tests P false true x y z p q r = q
by-tests P false false x y z p q r = r

promise-of-word : (state : EpochState) (epoch : ℕ) (found : Option ReplicaState) → IsOfWord (promise_answer state epoch found)
promise-of-word state epoch None = tt
promise-of-word state epoch (Some x) = by (not (was_asked epoch state))
  where
    by : (b : Bool) → IsOfWord (if b then Unasked else if lacks x.phase then Lacking else if nat_le epoch x.word then Old x.word else Done)
    by true = tt
    by false = by-tests IsOfWord (lacks x.phase) (nat_le epoch x.word) Lacking (Old x.word) Done tt tt tt

adopt-of-word : (state : EpochState) (epoch : ℕ) (found : Option ReplicaState) → IsOfWord (adopt_answer state epoch found)
adopt-of-word state epoch None = tt
adopt-of-word state epoch (Some x) = by-tests IsOfWord (not (is_some (made_for epoch state))) (is_too_old x epoch) Unmade (Old x.word) Done tt tt tt

-- a line's answer where no word fails is no fault
abbrev IsNoFault : GlobalAnswer → Type 0
IsNoFault WordFault = ⊥
IsNoFault answer = Unit {0}

merge-no-fault : (state : EpochState) (epoch : ℕ) (base : Option BaseState) → IsNoFault (merge_answer state epoch base)
merge-no-fault state epoch (Some base) = tt
merge-no-fault state epoch None = by (slice_get state.replicas (leader_of state.faults epoch))
  where
    by : (leader : Option ReplicaState) → IsNoFault (merge_refusal state epoch leader)
    by None = tt
    by (Some x) = more (not (can_merge state.faults epoch (promises_for epoch state)))
      where
        more : (b : Bool) → IsNoFault (if b then Short (length (promises_for epoch state)) else if lacks x.phase then Lacking else if nat_lt epoch x.word then Old x.word
            else counts_of (merged state.faults epoch (promises_for epoch state)))
        more true = tt
        more false = by-tests IsNoFault (lacks x.phase) (nat_lt epoch x.word) Lacking (Old x.word) (counts_of (merged state.faults epoch (promises_for epoch state))) tt tt tt

enter-no-fault : (state : EpochState) (epoch : ℕ) → IsNoFault (enter_answer state epoch)
enter-no-fault state epoch = by (nat_lt (adopters epoch state) (majority_of state.faults))
  where
    by : (b : Bool) → IsNoFault (if b then Short (adopters epoch state) else Entered (adopters epoch state))
    by true = tt
    by false = tt

-- an answer that the state allows is no fault where the line writes no word
no-fault : (state : EpochState) (line : GlobalLine) (answer : GlobalAnswer) → IsAnswer state line answer → writes_word line ≡ false → IsNoFault (global_answer state line) → IsNoFault answer
no-fault state line answer (inl same) none given = subst IsNoFault (sym same) given
no-fault state line answer (inr fault) none given = (let bad : true ≡ false = sym fault.1 ∙ none in absurd (cc))

faults-stay : (answer : GlobalAnswer) (old new : ℕ) → IsNoFault answer → new ≡ old → HasFaulted answer old new
faults-stay Done old new h e = e
faults-stay (Counts commits aborts) old new h e = e
faults-stay (Entered k) old new h e = e
faults-stay Unasked old new h e = e
faults-stay Unmade old new h e = e
faults-stay Lacking old new h e = e
faults-stay (Old word) old new h e = e
faults-stay WordFault old new h e = absurd h
faults-stay (Short k) old new h e = e

of-word : (state : EpochState) (line : GlobalLine) (answer : GlobalAnswer) → IsAnswer state line answer → IsOfWord (global_answer state line) → IsOfWord answer
of-word state line answer (inl same) given = subst IsOfWord (sym same) given
of-word state line answer (inr fault) given = subst IsOfWord (sym fault.0) tt

done-exactly : (state : EpochState) (line : GlobalLine) → IsAnswer state line Done → Done ≡ global_answer state line
done-exactly state line (inl same) = same
done-exactly state line (inr fault) = (let bad : Done ≡ WordFault = fault.0 in absurd (cc))

-- ---- what is kept

module _ {W : Type 0} (kept : W → ℕ) (sets : W → Option ℕ) (faults : W → ℕ) (old new : W) where
  written-faults : (epoch : ℕ) (answer : GlobalAnswer) → IsWrittenBy kept sets faults epoch answer old new → HasFaulted answer (faults old) (faults new)
  written-faults epoch Done h = h.2
  written-faults epoch (Counts commits aborts) h = ap faults h
  written-faults epoch (Entered k) h = ap faults h
  written-faults epoch Unasked h = ap faults h
  written-faults epoch Unmade h = ap faults h
  written-faults epoch Lacking h = ap faults h
  written-faults epoch (Old word) h = ap faults h
  written-faults epoch WordFault h = h.2
  written-faults epoch (Short k) h = ap faults h

  -- the faults rose exactly where the answer says so
  pub told-faults : (state : EpochState) (line : GlobalLine) (answer : GlobalAnswer) → IsAnswer state line answer → IsWordAfter kept sets faults line answer old new →
      HasFaulted answer (faults old) (faults new)
  told-faults state (Promise epoch r) answer told h = written-faults epoch answer h
  told-faults state (Adopt epoch r) answer told h = written-faults epoch answer h
  told-faults state (Wipe r) answer told h = faults-stay answer (faults old) (faults new) (no-fault state (Wipe r) answer told refl tt) (ap faults h)
  told-faults state (Ask epoch) answer told h = faults-stay answer (faults old) (faults new) (no-fault state (Ask epoch) answer told refl tt) (ap faults h)
  told-faults state (Merge epoch) answer told h =
      faults-stay answer (faults old) (faults new) (no-fault state (Merge epoch) answer told refl (merge-no-fault state epoch (made_for epoch state))) (ap faults h)
  told-faults state (Enter epoch) answer told h =
      faults-stay answer (faults old) (faults new) (no-fault state (Enter epoch) answer told refl (enter-no-fault state epoch)) (ap faults h)

module _ {B : Type 0} (stands : B → BaseState → Type 0) (before after : ReplicasView B) (state : EpochState) (handed : HandedIn) (line : GlobalLine) (answer : GlobalAnswer)
    (stood : StandsFor stands before state) (later : StandsFor stands after (global_outcome state handed line answer)) where
  -- all words stay but that which the line writes
  pub words-stay : KeepsWords line before after
  words-stay r e =
      stand-word stands after.replicas (global_outcome state handed line answer).replicas later.replicas r
      ∙ outcome-elsewhere state handed line answer r e
      ∙ sym (stand-word stands before.replicas state.replicas stood.replicas r)

  -- and this one too where the line was refused
  refused-stay : (r : ℕ) → is_accepted answer ≡ false → word_at after.replicas r ≡ word_at before.replicas r
  refused-stay r e =
      stand-word stands after.replicas (global_outcome state handed line answer).replicas later.replicas r
      ∙ ap (λ (b : Bool). word_in (if b then global_after state handed line else state).replicas r) e
      ∙ sym (stand-word stands before.replicas state.replicas stood.replicas r)

module _ {B W : Type 0} (stands : B → BaseState → Type 0) (before after : ReplicasView B) (state : EpochState) (handed : HandedIn)
    (kept : W → ℕ) (sets : W → Option ℕ) (faults : W → ℕ) (old new : W) (stood : StandsFor stands before state) where
  -- a word that the line may have written is what is kept as it
  reads-written : (line : GlobalLine) (epoch r : ℕ) (answer : GlobalAnswer) → IsOfWord answer → StandsFor stands after (global_outcome state handed line answer) →
      (answer ≡ Done → word_in (global_after state handed line).replicas r ≡ epoch) →
      IsWrittenBy kept sets faults epoch answer old new → kept old ≡ word_at before.replicas r → kept new ≡ word_at after.replicas r
  reads-written line epoch r Done of later writes h read = h.0 ∙ sym (stand-word stands after.replicas (global_after state handed line).replicas later.replicas r ∙ writes refl)
  reads-written line epoch r WordFault of later writes h read = h.0 ∙ read ∙ sym (refused-stay stands before after state handed line WordFault stood later r refl)
  reads-written line epoch r (Counts commits aborts) of later writes h read = absurd of
  reads-written line epoch r (Entered k) of later writes h read = absurd of
  reads-written line epoch r Unasked of later writes h read = ap kept h ∙ read ∙ sym (refused-stay stands before after state handed line Unasked stood later r refl)
  reads-written line epoch r Unmade of later writes h read = ap kept h ∙ read ∙ sym (refused-stay stands before after state handed line Unmade stood later r refl)
  reads-written line epoch r Lacking of later writes h read = ap kept h ∙ read ∙ sym (refused-stay stands before after state handed line Lacking stood later r refl)
  reads-written line epoch r (Old word) of later writes h read = ap kept h ∙ read ∙ sym (refused-stay stands before after state handed line (Old word) stood later r refl)
  reads-written line epoch r (Short k) of later writes h read = ap kept h ∙ read ∙ sym (refused-stay stands before after state handed line (Short k) stood later r refl)

  -- the line's word reads what is kept as it, as before
  pub word-reads : (line : GlobalLine) (answer : GlobalAnswer) → IsAnswer state line answer → StandsFor stands after (global_outcome state handed line answer) → after.faults ≡ before.faults →
      IsWordAfter kept sets faults line answer old new → IsWordFor line before (kept old) → IsWordFor line after (kept new)
  word-reads (Wipe r) answer told later same h read = tt
  word-reads (Ask epoch) answer told later same h read = tt
  word-reads (Enter epoch) answer told later same h read = tt
  word-reads (Promise epoch r) answer told later same h read =
      reads-written (Promise epoch r) epoch r answer (of-word state (Promise epoch r) answer told (promise-of-word state epoch (slice_get state.replicas r))) later
      (λ e. promise-writes state handed epoch r (done-exactly state (Promise epoch r) (subst (λ (a : GlobalAnswer). IsAnswer state (Promise epoch r) a) e told))) h read
  word-reads (Adopt epoch r) answer told later same h read =
      reads-written (Adopt epoch r) epoch r answer (of-word state (Adopt epoch r) answer told (adopt-of-word state epoch (slice_get state.replicas r))) later
      (λ e. adopt-writes state handed epoch r (done-exactly state (Adopt epoch r) (subst (λ (a : GlobalAnswer). IsAnswer state (Adopt epoch r) a) e told))) h read
  word-reads (Merge epoch) answer told later same h read =
      ap kept h ∙ read
      ∙ sym (words-stay stands before after state handed (Merge epoch) answer stood later (leader_of before.faults epoch) refl)
      ∙ ap (λ (f : ℕ). word_at after.replicas (leader_of f epoch)) (sym same)

-- ---- what a call promises of the words

module _ {B W : Type 0} (stands : B → BaseState → Type 0) (kept : W → ℕ) (sets : W → Option ℕ) (faults : W → ℕ) (before after : WholeView B) (old new : W) (line : GlobalLine)
    (r : Result GlobalAnswer NoMemory) (may : (run : History) × (state : WholeState) × MayDo stands run state before line) where
  pub line-faults : IfOk r (Answers stands before after line) → IfOk r (λ answer. IsWordAfter kept sets faults line answer old new) → IfOk r (λ answer. HasFaulted answer (faults old) (faults new))
  line-faults done word = by r done word
    where
      by : (r : Result GlobalAnswer NoMemory) → IfOk r (Answers stands before after line) → IfOk r (λ answer. IsWordAfter kept sets faults line answer old new) →
          IfOk r (λ answer. HasFaulted answer (faults old) (faults new))
      by (Ok answer) d w = told-faults kept sets faults old new may.1.epochs line answer (d may.0 may.1 may.2).answered w
      by (Err error) d w = tt

  pub line-reads : IsWordFor line before.epochs (kept old) → IfOk r (Answers stands before after line) → IfOk r (λ answer. IsWordAfter kept sets faults line answer old new) →
      OnOk r (IsWordFor line after.epochs (kept new))
  line-reads read done word = by r done word
    where
      by : (r : Result GlobalAnswer NoMemory) → IfOk r (Answers stands before after line) → IfOk r (λ answer. IsWordAfter kept sets faults line answer old new) →
          OnOk r (IsWordFor line after.epochs (kept new))
      by (Ok answer) d w =
          let was = d may.0 may.1 may.2 in
          word-reads stands before.epochs after.epochs may.1.epochs (handed_in may.1 line) kept sets faults old new may.2.within.epochs line answer was.answered was.within.epochs
          (was.within.sizes.changes ∙ sym may.2.within.sizes.changes) w read
      by (Err error) d w = tt

  pub line-keeps : IfOk r (Answers stands before after line) → OnOk r (KeepsWords line before.epochs after.epochs)
  line-keeps done = by r done
    where
      by : (r : Result GlobalAnswer NoMemory) → IfOk r (Answers stands before after line) → OnOk r (KeepsWords line before.epochs after.epochs)
      by (Ok answer) d = words-stay stands before.epochs after.epochs may.1.epochs (handed_in may.1 line) line answer may.2.within.epochs (d may.0 may.1 may.2).within.epochs
      by (Err error) d = tt
