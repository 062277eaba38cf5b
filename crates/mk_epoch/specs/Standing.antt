-- What is kept of the epoch machine, the states that it stands for, and what a call does to them.
use Rattle.std.specs.Prelude.{◌≡◌, ◌⊎◌, ℕ, ◌≤◌, nat_le, Bool, true, ◌&&◌, ◌==◌, List, [], ◌∷◌, length, filter, slice_get, Option, Some, None, option_map, unwrap_or, Result, Ok, Err}
use Rattle.mk_quorum.specs.Sizes.{members}
use Rattle.mk_quorum.specs.ReplicaSets.{has_replica}
use Rattle.mk_merge.specs.declared.Promise.{Promise}
use Rattle.mk_words.specs.declared.Phase.TheVariants.{Serving}
use Rattle.mk_words.specs.Bases.{BaseState}
use Rattle.mk_words.specs.Promises.{ArePromises}
use Rattle.mk_merge.specs.Keepings.{Stand}
use Rattle.mk_words.specs.declared.GlobalLine.{GlobalLine}
use Rattle.mk_words.specs.declared.GlobalLine.TheVariants.{Merge}
use Rattle.mk_words.specs.declared.GlobalAnswer.{GlobalAnswer}
use Rattle.mk_words.specs.declared.GlobalAnswer.TheVariants.{Ok as Done, Counts, Unasked as NobodyAsked, Unmade as NoneMade, Lacking as LacksState, Old as TooOld, WordFault as WordFailed, Short as TooFew}
use Rattle.mk_epoch.specs.declared.EpochError.{EpochError}
use Rattle.mk_epoch.specs.declared.EpochError.TheVariants.{Unasked, Unmade, Lacking, Old, WordFault, Short, NoMemory}
use Rattle.mk_epoch.specs.declared.replica.Replica.{Replica}
use Rattle.mk_model.specs.EpochState.{EpochState, ReplicaState, was_asked, promises_for, made_for, ever_adopted}
use Rattle.mk_model.specs.GlobalAnswers.{global_answer, is_accepted}
use Rattle.mk_model.specs.GlobalSteps.{HandedIn, nothing_handed, GlobalStep, is_adopted}
use Rattle.mk_epoch.specs.Changes.{ChangeView, change_for}

-- what is kept: the size, the replicas by number, and the changes by epoch
pub record ReplicasView (B : Type 0) : Type 0 where
  pub faults : ℕ
  pub replicas : List (Replica B)
  pub changes : List (ChangeView B)

-- the number in a replica's word
abbrev pub word_at : {B : Type 0} → List (Replica B) → ℕ → ℕ
word_at {B = B} replicas r = unwrap_or (option_map (λ (replica : Replica B). replica.word) (slice_get replicas r)) 0

-- what is kept at all times: of an epoch at most the replicas promised whose words have reached it
pub record IsKept {B : Type 0} (kept : ReplicasView B) : Type 0 where
  pub small : kept.faults ≤ 3
  pub members : length kept.replicas ≡ members kept.faults
  pub promised : (epoch : ℕ) → length (change_for epoch kept.changes).promises ≤ length (filter (λ (r : Replica B). nat_le epoch r.word) kept.replicas)
  pub adopters : (epoch : ℕ) → length (change_for epoch kept.changes).adopters ≡ 7

-- the replica has this word, phase, epoch and base
pub record ReplicaStands {B : Type 0} (stands : B → BaseState → Type 0) (replica : Replica B) (state : ReplicaState) : Type 0 where
  pub word : replica.word ≡ state.word
  pub phase : replica.phase ≡ state.phase
  pub adopted : replica.adopted ≡ state.adopted
  pub base : stands replica.base state.base

-- one for each, in order
abbrev pub AllStand : {B : Type 0} → (B → BaseState → Type 0) → List (Replica B) → List ReplicaState → Type 0
AllStand stands [] [] = Unit {0}
AllStand stands [] (state ∷ states) = ⊥
AllStand stands (replica ∷ replicas) [] = ⊥
AllStand stands (replica ∷ replicas) (state ∷ states) = ReplicaStands stands replica state × AllStand stands replicas states

-- a base that was made stands for the one that the state has
abbrev pub MadeStands : {B : Type 0} → (B → BaseState → Type 0) → Option B → Option BaseState → Type 0
MadeStands stands None None = Unit {0}
MadeStands stands None (Some base) = ⊥
MadeStands stands (Some made) None = ⊥
MadeStands stands (Some made) (Some base) = stands made base

-- what is kept of a change is what the state has of it
pub record ChangeStands {B : Type 0} (stands : B → BaseState → Type 0) (change : ChangeView B) (epoch : ℕ) (state : EpochState) : Type 0 where
  pub asked : was_asked epoch state ≡ change.asked
  pub promises : Stand B stands change.promises (promises_for epoch state)
  pub made : MadeStands stands change.made (made_for epoch state)
  pub adopters : (r : ℕ) → ever_adopted epoch state r ≡ has_replica change.adopters r

-- what is kept stands for this state
pub record StandsFor {B : Type 0} (stands : B → BaseState → Type 0) (kept : ReplicasView B) (state : EpochState) : Type 0 where
  pub faults : state.faults ≡ kept.faults
  pub replicas : AllStand stands kept.replicas state.replicas
  pub changes : (epoch : ℕ) → ChangeStands stands (change_for epoch kept.changes) epoch state

-- the answer of a line that is refused so; want of memory is no answer of a line
abbrev pub refusal_of : EpochError → Option GlobalAnswer
refusal_of Unasked = Some NobodyAsked
refusal_of Unmade = Some NoneMade
refusal_of Lacking = Some LacksState
refusal_of (Old word) = Some (TooOld word)
refusal_of WordFault = Some WordFailed
refusal_of (Short count) = Some (TooFew count)
refusal_of NoMemory = None

-- the error is this answer, and so neither want of memory nor a fault of the word
abbrev pub IsRefusal : EpochError → GlobalAnswer → Type 0
IsRefusal NoMemory answer = ⊥
IsRefusal WordFault answer = ⊥
IsRefusal error answer = refusal_of error ≡ Some answer

-- the error is neither want of memory nor a fault of the word
abbrev pub IsEarly : EpochError → Type 0
IsEarly NoMemory = ⊥
IsEarly WordFault = ⊥
IsEarly error = Unit {0}

-- the error is want of memory or a fault of the word
abbrev pub IsFault : EpochError → Type 0
IsFault error = (error ≡ WordFault) ⊎ (error ≡ NoMemory)

-- what a call's result tells as a line's answer
abbrev pub told : {X : Type 0} → (X → GlobalAnswer) → Result X EpochError → Option GlobalAnswer
told answer (Ok x) = Some (answer x)
told answer (Err error) = refusal_of error

-- a call that has nothing to tell but that it was done
abbrev pub done : {X : Type 0} → X → GlobalAnswer
done x = Done

-- the commits and the aborts
abbrev pub counts : ℕ × ℕ → GlobalAnswer
counts pair = Counts pair.0 pair.1

-- the call is a step of the epoch machine with this line, for every state that is stood for; a call that finds no
-- memory leaves all as it was, and the line would have been done
abbrev pub Does : {B : Type 0} → (B → BaseState → Type 0) → ReplicasView B → ReplicasView B → HandedIn → GlobalLine → Option GlobalAnswer → Type 0
Does stands old new handed line (Some answer) =
    (state : EpochState) → StandsFor stands old state → (after : EpochState) × GlobalStep state handed line answer after × StandsFor stands new after
Does stands old new handed line None =
    (new ≡ old) × ((state : EpochState) → StandsFor stands old state → is_accepted (global_answer state line) ≡ true)

-- the same of a merge, for every state whose promises are such as bases are made of
abbrev pub Merges : {B : Type 0} → (B → BaseState → Type 0) → ReplicasView B → ReplicasView B → ℕ → Option GlobalAnswer → Type 0
Merges stands old new epoch (Some answer) =
    (state : EpochState) → StandsFor stands old state → ArePromises (promises_for epoch state) →
    (after : EpochState) × GlobalStep state nothing_handed (Merge epoch) answer after × StandsFor stands new after
Merges stands old new epoch None =
    (new ≡ old) × ((state : EpochState) → StandsFor stands old state → is_accepted (global_answer state (Merge epoch)) ≡ true)

-- the promise is the replica's, with what it hands in
pub record IsHandedIn {B : Type 0} (stands : B → BaseState → Type 0) (replicas : List (Replica B)) (r : ℕ) (handed : HandedIn) (promise : Promise B) : Type 0 where
  pub replica : promise.replica ≡ r
  pub adopted : (kept : Replica B) → slice_get replicas r ≡ Some kept → promise.adopted ≡ kept.adopted
  pub base : (kept : Replica B) → slice_get replicas r ≡ Some kept → (b : BaseState) → stands kept.base b → stands promise.base b
  pub entries : promise.entries ≡ handed.entries
  pub marks : promise.marks ≡ handed.marks

-- the replica has adopted this epoch and waits for its Enter
abbrev pub waits_for : {B : Type 0} → ℕ → Replica B → Bool
waits_for epoch replica = is_adopted replica.phase && replica.adopted == epoch

-- the replica serves the epoch that it has adopted
abbrev pub now_serving : {B : Type 0} → Replica B → Replica B
now_serving replica = record replica { phase = Serving }
