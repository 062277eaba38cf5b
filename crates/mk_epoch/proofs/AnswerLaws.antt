-- What each line answers, by what is kept.
use Rattle.std.proofs.Common.{Bor, ◌≡◌, ◌≤◌, ◌<◌, ℕ, zero, suc, Bool, true, false, refl, arith, inl, inr, sym, ap, ◌∙◌, List, [], ◌∷◌, Option, Some, None, subst, length}
use Rattle.std.specs.Prelude.{slice_get, unwrap_or, option_map, option_copied, ◌+◌, ◌%◌, ◌==◌, ◌&&◌, ◌||◌, not, nat_le, nat_lt, slice_set, is_some, IsSome, if◌then◌else◌, Result, Ok, Err, OnOk, OnErr, IfErr}
use Rattle.std.proofs.lemmas.Bool.Decides.{nat_tests}
use Rattle.std.specs.List.{list_any}
use Rattle.mk_lists.specs.Changed.{change}
use Rattle.mk_quorum.specs.Sizes.{members, majority_of}
use Rattle.mk_quorum.specs.Counts.{count_below}
use Rattle.mk_quorum.specs.ReplicaSets.{has_replica}
use Rattle.mk_words.specs.declared.Phase.{Phase}
use Rattle.mk_words.specs.declared.Phase.TheVariants.{Paused, Adopted, Lacking as HasLost}
use Rattle.mk_merge.specs.declared.Promise.{Promise}
use Rattle.mk_words.specs.Bases.{BaseState, empty_base}
use Rattle.mk_words.specs.Promises.{PromiseState, ArePromises, can_merge, leader_of}
use Rattle.mk_merge.specs.Keepings.{Stand}
use Rattle.mk_words.specs.Merging.{merged}
use Rattle.mk_words.specs.declared.GlobalLine.{GlobalLine}
use Rattle.mk_words.specs.declared.GlobalLine.TheVariants.{Wipe, Ask, Promise as PromiseLine, Merge, Adopt, Enter}
use Rattle.mk_words.specs.declared.GlobalAnswer.{GlobalAnswer}
use Rattle.mk_words.specs.declared.GlobalAnswer.TheVariants.{Ok as Done, Entered, Unasked as NobodyAsked, Unmade as NoneMade, Lacking as LacksState, Old as TooOld, WordFault as WordFailed, Short as TooFew}
use Rattle.mk_epoch.specs.declared.EpochError.{EpochError}
use Rattle.mk_epoch.specs.declared.EpochError.TheVariants.{Unasked, Unmade, Lacking, Old, WordFault, Short, NoMemory}
use Rattle.mk_epoch.specs.declared.replica.Replica.{Replica}
use Rattle.mk_model.specs.EpochState.{EpochState, ReplicaState, promises_for, made_for, adopters, ever_adopted}
use Rattle.mk_model.specs.GlobalAnswers.{global_answer, is_accepted, writes_word, lacks, promise_answer, adopt_answer, merge_answer, merge_refusal, counts_of}
use Rattle.mk_model.specs.GlobalSteps.{HandedIn, GlobalStep, global_after, nothing_handed, with_base}
use Rattle.mk_epoch.specs.Changes.{change_for, with_asked, promised_to, made_as, adopted_by}
use Rattle.mk_epoch.specs.Standing.{ReplicasView, MadeStands, StandsFor, IsHandedIn, word_at, waits_for, now_serving, refusal_of, IsEarly, IsFault, Does, Merges, told, done}
use Rattle.mk_epoch.proofs.RowLaws.{promised-below}
use Rattle.mk_epoch.proofs.StandingLaws.{all_at, none_made, asked_stands, promised_stands, merged_stands, adopted_stands, entered_stands, wiped_stands}

pub some_same : {X : Type 0} (x y : X) → ◌≡◌ {A = Option X} (Some x) (Some y) → x ≡ y
some_same x y e = cc e

pub le_holds : (a b : ℕ) → a ≤ b → nat_le a b ≡ true
le_holds a b h = grind (arith, nat_tests)

pub le_fails : (a b : ℕ) → b < a → nat_le a b ≡ false
le_fails a b h = grind (arith, nat_tests)

pub lt_holds : (a b : ℕ) → a < b → nat_lt a b ≡ true
lt_holds a b h = grind (arith, nat_tests)

pub lt_fails : (a b : ℕ) → b ≤ a → nat_lt a b ≡ false
lt_fails a b h = grind (arith, nat_tests)

-- what is borrowed is there
pub some_made : {X : Type 0} (o : Option (Bor X)) (made : Option X) → is_some o ≡ true → option_copied o ≡ made → is_some made ≡ true
some_made {X = X} o made there e = subst (λ m. is_some m ≡ true) e (by o there)
  where
    by : (o : Option (Bor X)) → is_some o ≡ true → is_some (option_copied o) ≡ true
    by None t = t
    by (Some x) t = refl

pub promise_by : Bool → Phase → ℕ → ℕ → GlobalAnswer
promise_by asked phase word epoch =
    if not asked then NobodyAsked else if lacks phase then LacksState else if nat_le epoch word then TooOld word else Done

pub adopt_by : Bool → Phase → ℕ → ℕ → ℕ → GlobalAnswer
adopt_by made phase word adopted epoch =
    if not made then NoneMade
    else if (if lacks phase then nat_le epoch word else nat_lt epoch word || nat_le epoch adopted) then TooOld word
    else Done

pub not_asked : (phase : Phase) (word epoch : ℕ) → promise_by false phase word epoch ≡ NobodyAsked
unfolding promise_by
not_asked phase word epoch = refl

pub promise_lacking : (asked : Bool) (phase : Phase) (word epoch : ℕ) → asked ≡ true → lacks phase ≡ true → promise_by asked phase word epoch ≡ LacksState
unfolding promise_by
promise_lacking asked phase word epoch a l = ap (λ b. promise_by b phase word epoch) a ∙ ap (λ b. if b then LacksState else if nat_le epoch word then TooOld word else Done) l

pub promise_old : (asked : Bool) (phase : Phase) (word epoch : ℕ) → asked ≡ true → lacks phase ≡ false → nat_le epoch word ≡ true → promise_by asked phase word epoch ≡ TooOld word
unfolding promise_by
promise_old asked phase word epoch a l o =
    ap (λ b. promise_by b phase word epoch) a ∙ ap (λ b. if b then LacksState else if nat_le epoch word then TooOld word else Done) l
    ∙ ap (λ b. if b then TooOld word else Done) o

pub promise_done : (asked : Bool) (phase : Phase) (word epoch : ℕ) → asked ≡ true → lacks phase ≡ false → nat_le epoch word ≡ false → promise_by asked phase word epoch ≡ Done
unfolding promise_by
promise_done asked phase word epoch a l o =
    ap (λ b. promise_by b phase word epoch) a ∙ ap (λ b. if b then LacksState else if nat_le epoch word then TooOld word else Done) l
    ∙ ap (λ b. if b then TooOld word else Done) o

pub adopt_old : (made : Bool) (phase : Phase) (word adopted epoch : ℕ) → made ≡ true → (if lacks phase then nat_le epoch word else nat_lt epoch word || nat_le epoch adopted) ≡ true → adopt_by made phase word adopted epoch ≡ TooOld word
unfolding adopt_by
adopt_old made phase word adopted epoch m o = ap (λ b. adopt_by b phase word adopted epoch) m ∙ ap (λ b. if b then TooOld word else Done) o

pub adopt_done : (made : Bool) (phase : Phase) (word adopted epoch : ℕ) → made ≡ true → (if lacks phase then nat_le epoch word else nat_lt epoch word || nat_le epoch adopted) ≡ false → adopt_by made phase word adopted epoch ≡ Done
unfolding adopt_by
adopt_done made phase word adopted epoch m o = ap (λ b. adopt_by b phase word adopted epoch) m ∙ ap (λ b. if b then TooOld word else Done) o

-- a replica that is not past an epoch has no higher word
pub not_past : (phase : Phase) (word adopted epoch : ℕ) → (if lacks phase then nat_le epoch word else nat_lt epoch word || nat_le epoch adopted) ≡ false → word ≤ epoch
not_past phase word adopted epoch e = by (lacks phase) e
  where
    by : (b : Bool) → (if b then nat_le epoch word else nat_lt epoch word || nat_le epoch adopted) ≡ false → word ≤ epoch
    by true k = omega (arith, low epoch word k)
      where
        low : (a b : ℕ) → nat_le a b ≡ false → b < a
        low a b k = grind (arith, nat_tests)
    by false k = either (nat_lt epoch word) refl k
      where
        lower : (a b : ℕ) → nat_lt a b ≡ false → b ≤ a
        lower a b k = grind (arith, nat_tests)

        either : (b : Bool) → nat_lt epoch word ≡ b → (b || nat_le epoch adopted) ≡ false → word ≤ epoch
        either true e k = absurd (cc k)
        either false e k = lower epoch word e

pub word_of : {B : Type 0} (replicas : List (Replica B)) (r : ℕ) (kept : Replica B) → slice_get replicas r ≡ Some kept → word_at replicas r ≡ kept.word
word_of {B} replicas r kept at = by (slice_get replicas r) at
  where
    by : (o : Option (Replica B)) → o ≡ Some kept → unwrap_or (option_map (λ (replica : Replica B). replica.word) o) 0 ≡ kept.word
    by None e = absurd (cc e)
    by (Some k) e = ap (λ (x : Replica B). x.word) (some_same k kept e)

module _ {B : Type 0} (stands : B → BaseState → Type 0) where
  same_length : (ps : List (Promise B)) (ss : List PromiseState) → Stand B stands ps ss → length ss ≡ length ps
  same_length [] [] h = refl
  same_length [] (s ∷ ss) h = absurd h
  same_length (p ∷ ps) [] h = absurd h
  same_length (p ∷ ps) (s ∷ ss) h = ap suc (same_length ps ss h.1)

  same_leader : (leader : ℕ) (ps : List (Promise B)) (ss : List PromiseState) → Stand B stands ps ss → list_any (λ s. s.replica == leader) ss ≡ list_any (λ p. p.replica == leader) ps
  same_leader leader [] [] h = refl
  same_leader leader [] (s ∷ ss) h = absurd h
  same_leader leader (p ∷ ps) [] h = absurd h
  same_leader leader (p ∷ ps) (s ∷ ss) h =
      ap (λ n. n == leader || list_any (λ s. s.replica == leader) ss) (sym h.0.replica) ∙ ap (λ b. p.replica == leader || b) (same_leader leader ps ss h.1)

  same_made : (o : Option B) (p : Option BaseState) → MadeStands stands o p → is_some p ≡ is_some o
  same_made None None m = refl
  same_made None (Some b) m = absurd m
  same_made (Some b) None m = absurd m
  same_made (Some b) (Some c) m = refl

  module _ (old : ReplicasView B) (state : EpochState) (h : StandsFor stands old state) where
    pub promise_answered : (epoch r : ℕ) (kept : Replica B) → slice_get old.replicas r ≡ Some kept →
        global_answer state (PromiseLine epoch r) ≡ promise_by (change_for epoch old.changes).asked kept.phase kept.word epoch
    unfolding promise_by
    promise_answered epoch r kept at =
        let found = all_at stands old.replicas state.replicas h.replicas r kept at in
        ap (promise_answer state epoch) found.1
        ∙ ap (λ b. promise_by b found.0.phase found.0.word epoch) (h.changes epoch).asked
        ∙ ap (λ p. promise_by (change_for epoch old.changes).asked p found.0.word epoch) (sym found.2.phase)
        ∙ ap (λ w. promise_by (change_for epoch old.changes).asked kept.phase w epoch) (sym found.2.word)

    pub adopt_answered : (epoch r : ℕ) (kept : Replica B) → slice_get old.replicas r ≡ Some kept →
        global_answer state (Adopt epoch r) ≡ adopt_by (is_some (change_for epoch old.changes).made) kept.phase kept.word kept.adopted epoch
    unfolding adopt_by
    adopt_answered epoch r kept at =
        let found = all_at stands old.replicas state.replicas h.replicas r kept at in
        ap (adopt_answer state epoch) found.1
        ∙ ap (λ b. adopt_by b found.0.phase found.0.word found.0.adopted epoch) (same_made (change_for epoch old.changes).made (made_for epoch state) (h.changes epoch).made)
        ∙ ap (λ p. adopt_by (is_some (change_for epoch old.changes).made) p found.0.word found.0.adopted epoch) (sym found.2.phase)
        ∙ ap (λ w. adopt_by (is_some (change_for epoch old.changes).made) kept.phase w found.0.adopted epoch) (sym found.2.word)
        ∙ ap (λ a. adopt_by (is_some (change_for epoch old.changes).made) kept.phase kept.word a epoch) (sym found.2.adopted)

    pub can_by : (epoch : ℕ) → can_merge state.faults epoch (promises_for epoch state)
        ≡ (nat_le (majority_of old.faults) (length (change_for epoch old.changes).promises) && list_any (λ p. p.replica == leader_of old.faults epoch) (change_for epoch old.changes).promises)
    can_by epoch =
        ap (λ f. can_merge f epoch (promises_for epoch state)) h.faults
        ∙ ap (λ n. nat_le (majority_of old.faults) n && list_any (λ s. s.replica == leader_of old.faults epoch) (promises_for epoch state)) (same_length (change_for epoch old.changes).promises (promises_for epoch state) (h.changes epoch).promises)
        ∙ ap (λ b. nat_le (majority_of old.faults) (length (change_for epoch old.changes).promises) && b) (same_leader (leader_of old.faults epoch) (change_for epoch old.changes).promises (promises_for epoch state) (h.changes epoch).promises)

    -- of a base that was not made
    merge_by : (epoch : ℕ) → (change_for epoch old.changes).made ≡ None → global_answer state (Merge epoch) ≡ merge_refusal state epoch (slice_get state.replicas (leader_of state.faults epoch))
    merge_by epoch none = ap (merge_answer state epoch) (none_made stands old state h epoch none)

    pub merge_short : (epoch : ℕ) → (change_for epoch old.changes).made ≡ None → can_merge state.faults epoch (promises_for epoch state) ≡ false →
        global_answer state (Merge epoch) ≡ TooFew (length (change_for epoch old.changes).promises)
    merge_short epoch none cannot = merge_by epoch none ∙ by (slice_get state.replicas (leader_of state.faults epoch)) ∙ ap TooFew (same_length (change_for epoch old.changes).promises (promises_for epoch state) (h.changes epoch).promises)
      where
        by : (o : Option ReplicaState) → merge_refusal state epoch o ≡ TooFew (length (promises_for epoch state))
        by None = refl
        by (Some leader) = ap (λ b. if not b then TooFew (length (promises_for epoch state)) else if lacks leader.phase then LacksState else if nat_lt epoch leader.word then TooOld leader.word else counts_of (merged state.faults epoch (promises_for epoch state))) cannot

    module _ (epoch : ℕ) (none : (change_for epoch old.changes).made ≡ None) (can : can_merge state.faults epoch (promises_for epoch state) ≡ true) (kept : Replica B) (at : slice_get old.replicas (leader_of old.faults epoch) ≡ Some kept) where
      led : global_answer state (Merge epoch) ≡ (if lacks kept.phase then LacksState else if nat_lt epoch kept.word then TooOld kept.word else counts_of (merged state.faults epoch (promises_for epoch state)))
      led =
          let found = all_at stands old.replicas state.replicas h.replicas (leader_of old.faults epoch) kept at in
          merge_by epoch none
          ∙ ap (λ f. merge_refusal state epoch (slice_get state.replicas (leader_of f epoch))) h.faults
          ∙ ap (merge_refusal state epoch) found.1
          ∙ ap (λ b. if not b then TooFew (length (promises_for epoch state)) else if lacks found.0.phase then LacksState else if nat_lt epoch found.0.word then TooOld found.0.word else counts_of (merged state.faults epoch (promises_for epoch state))) can
          ∙ ap (λ p. if lacks p then LacksState else if nat_lt epoch found.0.word then TooOld found.0.word else counts_of (merged state.faults epoch (promises_for epoch state))) (sym found.2.phase)
          ∙ ap (λ w. if lacks kept.phase then LacksState else if nat_lt epoch w then TooOld w else counts_of (merged state.faults epoch (promises_for epoch state))) (sym found.2.word)

      pub merge_lacking : lacks kept.phase ≡ true → global_answer state (Merge epoch) ≡ LacksState
      merge_lacking l = led ∙ ap (λ b. if b then LacksState else if nat_lt epoch kept.word then TooOld kept.word else counts_of (merged state.faults epoch (promises_for epoch state))) l

      pub merge_old : lacks kept.phase ≡ false → nat_lt epoch kept.word ≡ true → global_answer state (Merge epoch) ≡ TooOld kept.word
      merge_old l o = led ∙ ap (λ b. if b then LacksState else if nat_lt epoch kept.word then TooOld kept.word else counts_of (merged state.faults epoch (promises_for epoch state))) l
          ∙ ap (λ b. if b then TooOld kept.word else counts_of (merged state.faults epoch (promises_for epoch state))) o

      pub merge_counts : lacks kept.phase ≡ false → nat_lt epoch kept.word ≡ false → global_answer state (Merge epoch) ≡ counts_of (merged state.faults epoch (promises_for epoch state))
      merge_counts l o = led ∙ ap (λ b. if b then LacksState else if nat_lt epoch kept.word then TooOld kept.word else counts_of (merged state.faults epoch (promises_for epoch state))) l
          ∙ ap (λ b. if b then TooOld kept.word else counts_of (merged state.faults epoch (promises_for epoch state))) o

    -- how many ever adopted
    pub adopters_by : (epoch : ℕ) → adopters epoch state ≡ count_below (members old.faults) (has_replica (change_for epoch old.changes).adopters)
    adopters_by epoch = ap (λ f. count_below (members f) (ever_adopted epoch state)) h.faults ∙ same_count (members old.faults) (ever_adopted epoch state) (has_replica (change_for epoch old.changes).adopters) (h.changes epoch).adopters
      where
        same_count : (n : ℕ) (p q : ℕ → Bool) → ((r : ℕ) → p r ≡ q r) → count_below n p ≡ count_below n q
        same_count zero p q e = refl
        same_count (suc n) p q e = ap (λ b. (if b then 1 else 0) + count_below n p) (e n) ∙ ap (λ k. (if q n then 1 else 0) + k) (same_count n p q e)

    -- a line that is refused
    pub refused : (handed : HandedIn) (line : GlobalLine) (answer : GlobalAnswer) → answer ≡ global_answer state line → is_accepted answer ≡ false →
        (after : EpochState) × GlobalStep state handed line answer after × StandsFor stands old after
    refused handed line answer e no_change = (state, record { answered = inl e; after = sym (ap (λ b. if b then global_after state handed line else state) no_change) }, h)

    -- a line whose word fails
    pub word_failed : (handed : HandedIn) (line : GlobalLine) → writes_word line ≡ true → global_answer state line ≡ Done →
        (after : EpochState) × GlobalStep state handed line WordFailed after × StandsFor stands old after
    word_failed handed line w e = (state, record { answered = inr (refl, w, e); after = refl }, h)

    -- a line that is done
    pub accepted : (handed : HandedIn) (line : GlobalLine) (answer : GlobalAnswer) (new : ReplicasView B) → answer ≡ global_answer state line → is_accepted answer ≡ true → StandsFor stands new (global_after state handed line) →
        (after : EpochState) × GlobalStep state handed line answer after × StandsFor stands new after
    accepted handed line answer new e yes_done k = (global_after state handed line, record { answered = inl e; after = sym (ap (λ b. if b then global_after state handed line else state) yes_done) }, k)

-- a call that is refused before anything is taken
pub early : {B : Type 0} (stands : B → BaseState → Type 0) (old : ReplicasView B) (handed : HandedIn) (line : GlobalLine) (error : EpochError) → IsEarly error →
    ((state : EpochState) → StandsFor stands old state → refusal_of error ≡ Some (global_answer state line)) → Does stands old old handed line (refusal_of error)
early stands old handed line NoMemory is k = absurd is
early stands old handed line WordFault is k = absurd is
early stands old handed line Unasked is k = λ state h. refused stands old state h handed line NobodyAsked (some_same NobodyAsked _ (k state h)) refl
early stands old handed line Unmade is k = λ state h. refused stands old state h handed line NoneMade (some_same NoneMade _ (k state h)) refl
early stands old handed line Lacking is k = λ state h. refused stands old state h handed line LacksState (some_same LacksState _ (k state h)) refl
early stands old handed line (Old word) is k = λ state h. refused stands old state h handed line (TooOld word) (some_same (TooOld word) _ (k state h)) refl
early stands old handed line (Short count) is k = λ state h. refused stands old state h handed line (TooFew count) (some_same (TooFew count) _ (k state h)) refl

-- a base that was made is there
pub is_made : {B : Type 0} (stands : B → BaseState → Type 0) (o : Option B) (made : B) (p : Option BaseState) → o ≡ Some made → MadeStands stands o p → (base : BaseState) × (p ≡ Some base) × stands made base
is_made {B = B} stands o made None e m = absurd (subst (λ (x : Option B). MadeStands stands x None) e m)
is_made {B = B} stands o made (Some base) e m = (base, refl, subst (λ (x : Option B). MadeStands stands x (Some base)) e m)

module _ {B : Type 0} (stands : B → BaseState → Type 0) (old : ReplicasView B) where
  -- a merge that makes a base
  pub merges : (epoch : ℕ) (made : B) (answer : GlobalAnswer) (new : ReplicasView B) → epoch < length old.changes → (change_for epoch old.changes).made ≡ None →
      ((state : EpochState) → StandsFor stands old state → ArePromises (promises_for epoch state) → stands made (merged state.faults epoch (promises_for epoch state))) →
      ((state : EpochState) → StandsFor stands old state → global_answer state (Merge epoch) ≡ counts_of (merged state.faults epoch (promises_for epoch state))) →
      ((base : BaseState) → stands made base → answer ≡ counts_of base) →
      new ≡ record old { changes = slice_set old.changes epoch (made_as made (change_for epoch old.changes)) } →
      Merges stands old new epoch (Some answer)
  merges epoch made answer new row none base line counts is state h fit =
      let k = base state h fit in
      let same = counts (merged state.faults epoch (promises_for epoch state)) k in
      accepted stands old state h nothing_handed (Merge epoch) answer new (same ∙ sym (line state h)) (ap is_accepted same)
      (subst (λ (v : ReplicasView B). StandsFor stands v (global_after state nothing_handed (Merge epoch))) (sym is) (merged_stands stands old state h epoch made row none k))

  -- a call that finds no memory, where the line would have been done
  pub unfinished : (handed : HandedIn) (line : GlobalLine) (answer : GlobalAnswer) → is_accepted answer ≡ true → ((state : EpochState) → StandsFor stands old state → ◌≡◌ {A = Option GlobalAnswer} (Some answer) (Some (global_answer state line))) → Does stands old old handed line None
  unfinished handed line answer yes_done k = (refl, λ state h. ap is_accepted (sym (some_same answer (global_answer state line) (k state h))) ∙ yes_done)

  -- a call whose word fails or that finds no memory
  pub faulty : (handed : HandedIn) (line : GlobalLine) (error : EpochError) → IsFault error → writes_word line ≡ true → ((state : EpochState) → StandsFor stands old state → ◌≡◌ {A = Option GlobalAnswer} (Some Done) (Some (global_answer state line))) →
      Does stands old old handed line (refusal_of error)
  faulty handed line error (inl e) w k = subst (λ x. Does stands old old handed line (refusal_of x)) (sym e) (λ state h. word_failed stands old state h handed line w (sym (some_same Done (global_answer state line) (k state h))))
  faulty handed line error (inr e) w k = subst (λ x. Does stands old old handed line (refusal_of x)) (sym e) (unfinished handed line Done refl k)

  pub promises : (epoch r : ℕ) (handed : HandedIn) (promise : Promise B) (new : ReplicasView B) → epoch < length old.changes → IsHandedIn stands old.replicas r handed promise →
      ((state : EpochState) → StandsFor stands old state → ◌≡◌ {A = Option GlobalAnswer} (Some Done) (Some (global_answer state (PromiseLine epoch r)))) →
      (kept : Replica B) × (slice_get old.replicas r ≡ Some kept) × (new ≡ record old { replicas = slice_set old.replicas r (record kept { word = epoch; phase = Paused }); changes = slice_set old.changes epoch (promised_to promise (change_for epoch old.changes)) }) →
      Does stands old new handed (PromiseLine epoch r) (Some Done)
  promises epoch r handed promise new row in_hand line k state h =
      accepted stands old state h handed (PromiseLine epoch r) Done new (some_same Done _ (line state h)) refl
      (subst (λ (v : ReplicasView B). StandsFor stands v (global_after state handed (PromiseLine epoch r))) (sym k.2) (promised_stands stands old state h epoch r handed promise k.0 k.1 row in_hand))

  -- a call that keeps a promise, fails at the word, or finds no memory
  pub promised_or_not : (epoch r : ℕ) (handed : HandedIn) (promise : Promise B) (new : ReplicasView B) (result : Result (Unit {0}) EpochError) → epoch < length old.changes → IsHandedIn stands old.replicas r handed promise →
      ((state : EpochState) → StandsFor stands old state → ◌≡◌ {A = Option GlobalAnswer} (Some Done) (Some (global_answer state (PromiseLine epoch r)))) →
      OnOk result ((kept : Replica B) × (slice_get old.replicas r ≡ Some kept) × (new ≡ record old { replicas = slice_set old.replicas r (record kept { word = epoch; phase = Paused }); changes = slice_set old.changes epoch (promised_to promise (change_for epoch old.changes)) })) →
      OnErr result (new ≡ old) → IfErr result IsFault → Does stands old new handed (PromiseLine epoch r) (told done result)
  promised_or_not epoch r handed promise new (Ok x) row in_hand line ok err fault = promises epoch r handed promise new row in_hand line ok
  promised_or_not epoch r handed promise new (Err error) row in_hand line ok err fault =
      subst (λ (v : ReplicasView B). Does stands old v handed (PromiseLine epoch r) (refusal_of error)) (sym err) (faulty handed (PromiseLine epoch r) error fault refl line)

  pub adopts : (epoch r : ℕ) (taken : B) (new : ReplicasView B) → epoch < length old.changes → IsSome (change_for epoch old.changes).made →
      ((made : B) → (change_for epoch old.changes).made ≡ Some made → (base : BaseState) → stands made base → stands taken base) →
      ((state : EpochState) → StandsFor stands old state → ◌≡◌ {A = Option GlobalAnswer} (Some Done) (Some (global_answer state (Adopt epoch r)))) →
      (r < 7) × (length (change_for epoch old.changes).adopters ≡ 7) →
      (kept : Replica B) × (slice_get old.replicas r ≡ Some kept) × (new ≡ record old { replicas = slice_set old.replicas r (record { word = epoch; phase = Adopted; adopted = epoch; base = taken }); changes = slice_set old.changes epoch (adopted_by r (change_for epoch old.changes)) }) →
      Does stands old new nothing_handed (Adopt epoch r) (Some Done)
  adopts epoch r taken new row some copy line few k state h =
      let made = there (change_for epoch old.changes).made some in
      accepted stands old state h nothing_handed (Adopt epoch r) Done new (some_same Done _ (line state h)) refl
      (subst (λ (v : ReplicasView B). StandsFor stands v (global_after state nothing_handed (Adopt epoch r))) (sym k.2)
      (adopted_stands stands old state h epoch r made.0 taken k.0 k.1 row (omega (arith, few.0, few.1)) made.1 (copy made.0 made.1)))
    where
      there : (o : Option B) → IsSome o → (made : B) × (o ≡ Some made)
      there None some = absurd (cc some)
      there (Some made) some = (made, refl)

  pub wipes : (r : ℕ) (empty : B) (new : ReplicasView B) → stands empty empty_base →
      (kept : Replica B) × (slice_get old.replicas r ≡ Some kept) × (new ≡ record old { replicas = slice_set old.replicas r (record kept { phase = HasLost; adopted = 0; base = empty }) }) →
      Does stands old new nothing_handed (Wipe r) (Some Done)
  wipes r empty new e k state h =
      accepted stands old state h nothing_handed (Wipe r) Done new refl refl
      (subst (λ (v : ReplicasView B). StandsFor stands v (global_after state nothing_handed (Wipe r))) (sym k.2) (wiped_stands stands old state h r k.0 empty k.1 e))

  pub asks : (epoch : ℕ) (new : ReplicasView B) → new ≡ record old { changes = with_asked epoch old.changes } → Does stands old new nothing_handed (Ask epoch) (Some Done)
  asks epoch new is state h =
      accepted stands old state h nothing_handed (Ask epoch) Done new refl refl
      (subst (λ (v : ReplicasView B). StandsFor stands v (global_after state nothing_handed (Ask epoch))) (sym is) (asked_stands stands old state h epoch))

  pub enters : (epoch count : ℕ) (new : ReplicasView B) → ((state : EpochState) → StandsFor stands old state → count ≡ adopters epoch state) → majority_of old.faults ≤ count →
      new ≡ record old { replicas = change (waits_for epoch) now_serving old.replicas } → Does stands old new nothing_handed (Enter epoch) (Some (Entered count))
  enters epoch count new counts enough is state h =
      accepted stands old state h nothing_handed (Enter epoch) (Entered count) new
      (sym (ap (λ b. if b then TooFew (adopters epoch state) else Entered (adopters epoch state)) (lt_fails (adopters epoch state) (majority_of state.faults) (omega (arith, enough, counts state h, h.faults))) ∙ ap Entered (sym (counts state h)))) refl
      (subst (λ (v : ReplicasView B). StandsFor stands v (global_after state nothing_handed (Enter epoch))) (sym is) (entered_stands stands old state h epoch))

module _ {B : Type 0} (stands : B → BaseState → Type 0) (old : ReplicasView B) (f epoch : ℕ) (size : f ≡ old.faults) (ps : List (Promise B)) (given : ps ≡ (change_for epoch old.changes).promises) where
  pub can_tell : (state : EpochState) → StandsFor stands old state → can_merge state.faults epoch (promises_for epoch state) ≡ (nat_le (majority_of f) (length ps) && list_any (λ p. p.replica == leader_of f epoch) ps)
  can_tell state h =
      can_by stands old state h epoch
      ∙ sym (ap (λ n. nat_le (majority_of n) (length ps) && list_any (λ p. p.replica == leader_of n epoch) ps) size
      ∙ ap (λ qs. nat_le (majority_of old.faults) (length qs) && list_any (λ (p : Promise B). p.replica == leader_of old.faults epoch) qs) given)

  pub too_few : (change_for epoch old.changes).made ≡ None → nat_le (majority_of f) (length ps) ≡ false → (state : EpochState) → StandsFor stands old state → TooFew (length ps) ≡ global_answer state (Merge epoch)
  too_few none few state h =
      ap (λ qs. TooFew (length qs)) given
      ∙ sym (merge_short stands old state h epoch none (can_tell state h ∙ ap (λ b. b && list_any (λ p. p.replica == leader_of f epoch) ps) few))

  pub not_led : (change_for epoch old.changes).made ≡ None → list_any (λ p. p.replica == leader_of f epoch) ps ≡ false → (state : EpochState) → StandsFor stands old state → TooFew (length ps) ≡ global_answer state (Merge epoch)
  not_led none few state h =
      ap (λ qs. TooFew (length qs)) given
      ∙ sym (merge_short stands old state h epoch none (can_tell state h ∙ ap (λ b. nat_le (majority_of f) (length ps) && b) few ∙ neither (nat_le (majority_of f) (length ps))))
    where
      neither : (b : Bool) → (b && false) ≡ false
      neither true = refl
      neither false = refl

  module _ (enough : nat_le (majority_of f) (length ps) ≡ true) (led : list_any (λ p. p.replica == leader_of f epoch) ps ≡ true) where
    pub can : (state : EpochState) → StandsFor stands old state → can_merge state.faults epoch (promises_for epoch state) ≡ true
    can state h = can_tell state h ∙ ap (λ b. b && list_any (λ p. p.replica == leader_of f epoch) ps) enough ∙ led

    -- where a majority has promised, the change has its place
    pub enough-below : epoch < length old.changes
    enough-below = promised-below old.changes epoch (subst (λ (qs : List (Promise B)). 0 < length qs) given (some_promised f (length ps) enough))
      where
        some_promised : (f n : ℕ) → nat_le (majority_of f) n ≡ true → 0 < n
        some_promised f n e = omega (arith, tells (majority_of f) n e)
          where
            tells : (a b : ℕ) → nat_le a b ≡ true → a ≤ b
            tells a b e = grind (arith, nat_tests)

    module _ (none : (change_for epoch old.changes).made ≡ None) (n : ℕ) (count : n ≡ members f) (kept : Replica B) (at : slice_get old.replicas (epoch % n) ≡ Some kept) where
      leads : slice_get old.replicas (leader_of old.faults epoch) ≡ Some kept
      leads = subst (λ g. slice_get old.replicas (leader_of g epoch) ≡ Some kept) size (subst (λ m. slice_get old.replicas (epoch % m) ≡ Some kept) count at)

      pub leader_lacks : lacks kept.phase ≡ true → (state : EpochState) → StandsFor stands old state → LacksState ≡ global_answer state (Merge epoch)
      leader_lacks l state h = sym (merge_lacking stands old state h epoch none (can state h) kept leads l)

      module _ (word : ℕ) (reads : word ≡ word_at old.replicas (leader_of old.faults epoch)) (has : lacks kept.phase ≡ false) where
        same_word : word ≡ kept.word
        same_word = reads ∙ word_of old.replicas (leader_of old.faults epoch) kept leads

        pub leader_past : epoch < word → (state : EpochState) → StandsFor stands old state → TooOld word ≡ global_answer state (Merge epoch)
        leader_past past state h = ap TooOld same_word ∙ sym (merge_old stands old state h epoch none (can state h) kept leads has (lt_holds epoch kept.word (omega (arith, past, same_word))))

        pub leader_may : word ≤ epoch → (state : EpochState) → StandsFor stands old state → global_answer state (Merge epoch) ≡ counts_of (merged state.faults epoch (promises_for epoch state))
        leader_may may state h = merge_counts stands old state h epoch none (can state h) kept leads has (lt_fails epoch kept.word (omega (arith, may, same_word)))
