-- What is so of every base that was made, and of who holds and serves it.
use Rattle.std.specs.Prelude.{◌≡◌, ◌⊎◌, ◌≤◌, ◌<◌, ℕ, true, false, List, ◌∷◌, length, map, Some, is_some}
use Rattle.mk_lists.specs.Among.{Among, AllDistinct}
use Rattle.mk_quorum.specs.Sizes.{majority_of}
use Rattle.mk_words.specs.declared.Phase.TheVariants.{Serving}
use Rattle.mk_words.specs.Bases.{BaseState}
use Rattle.mk_words.specs.Promises.{PromiseState, chosen, counting, base_of, leader_of}
use Rattle.mk_words.specs.Merging.{merged, merged_from}
use Rattle.mk_merge_laws.specs.Composition.{AreOfReplicas}
use Rattle.mk_model.specs.EpochState.{EpochState, ReplicaState, GivenPromise, MadeBase, Adoption, first_epochs, promises_for, base_for, adopters}
use Rattle.mk_model.specs.GlobalAnswers.{lacks}
use Rattle.mk_model.specs.Force.{source_of}
use Rattle.mk_epoch_laws.specs.Turns.{GlobalTurn, after_turns, EachAnswered, WasEntered, Resets}
use Rattle.mk_epoch_laws.specs.WordLaws.{IsAt, EverHad}

-- the epoch has a base; epoch 0 has one from the start
abbrev pub IsMade : EpochState → ℕ → Type 0
IsMade state epoch = is_some (base_for epoch state) ≡ true

-- a majority ever adopted the epoch; all had epoch 0 from the start
abbrev pub IsHeld : EpochState → ℕ → Type 0
IsHeld state epoch = (epoch ≡ 0) ⊎ (majority_of state.faults ≤ adopters epoch state)

-- the promises of which the base of this epoch is made: the leader's, and the first f others
abbrev pub taken_for : EpochState → ℕ → List PromiseState
taken_for state epoch = chosen state.faults epoch (promises_for epoch state)

-- a base that was made is the merge of a majority's promises, the leader's among them, and built on an earlier base
pub record IsWellMade (state : EpochState) (made : MadeBase) : Type 0 where
  pub after_first : 0 < made.epoch
  pub is_merged : made.base ≡ merged state.faults made.epoch (promises_for made.epoch state)
  pub of_majority : length (taken_for state made.epoch) ≡ majority_of state.faults
  pub of_different : AllDistinct (map (λ p. p.replica) (taken_for state made.epoch))
  pub of_leader : Among (leader_of state.faults made.epoch) (map (λ p. p.replica) (taken_for state made.epoch))
  pub on_earlier : source_of state made.epoch < made.epoch
  pub on_made : IsMade state (source_of state made.epoch)

-- each base was made well, and once
pub record BasesMade (state : EpochState) : Type 0 where
  pub well : (made : MadeBase) → Among made state.made → IsWellMade state made
  pub once : AllDistinct (map (λ m. m.epoch) state.made)

-- a base that was made stays, and so do the promises that it was made of
abbrev pub BasesStay : EpochState → EpochState → Type 0
BasesStay early late =
    (made : MadeBase) → Among made early.made →
    Among made late.made × (taken_for late made.epoch ≡ taken_for early made.epoch)

-- what was promised, adopted, held by a majority and made stays so
pub record KeptGrows (early late : EpochState) : Type 0 where
  pub same_faults : late.faults ≡ early.faults
  pub promises : (given : GivenPromise) → Among given early.promises → Among given late.promises
  pub had : (r epoch : ℕ) → EverHad early r epoch → EverHad late r epoch
  pub held : (epoch : ℕ) → IsHeld early epoch → IsHeld late epoch
  pub bases : (epoch : ℕ) (base : BaseState) → base_for epoch early ≡ Some base → base_for epoch late ≡ Some base

-- the promises that count for the base of this epoch: of those of which it is made the ones of the highest adopted epoch
abbrev pub counted_for : EpochState → ℕ → List PromiseState
counted_for state epoch = counting (taken_for state epoch)

-- a base that was made is the merge of the promises that count: they are of different replicas, were given for its epoch,
-- and are all those of its source's epoch among the promises of which it is made; their base is its source's
pub record CountedOf (state : EpochState) (made : MadeBase) : Type 0 where
  pub of_replicas : AreOfReplicas state.faults (counted_for state made.epoch)
  pub source : (p : PromiseState) → Among p (counted_for state made.epoch) → p.adopted ≡ source_of state made.epoch
  pub all : (p : PromiseState) → Among p (taken_for state made.epoch) → p.adopted ≡ source_of state made.epoch → Among p (counted_for state made.epoch)
  pub taken : (p : PromiseState) → Among p (counted_for state made.epoch) → Among p (taken_for state made.epoch)
  pub base : base_for (source_of state made.epoch) state ≡ Some (base_of (counted_for state made.epoch))
  pub given : (p : PromiseState) → Among p (taken_for state made.epoch) → Among (record { epoch = made.epoch; promise = p }) state.promises
  pub list : made.base ≡ merged_from state.faults made.epoch (counted_for state made.epoch)

-- so each base is made of promises that were given
abbrev pub CountedAreGiven : EpochState → Type 0
CountedAreGiven state = (made : MadeBase) → Among made state.made → CountedOf state made

-- a replica holds the base of its epoch, what was adopted was made, and a promise hands in the base of its replica's epoch
pub record BasesHeld (state : EpochState) : Type 0 where
  pub by_replica : (r : ℕ) (replica : ReplicaState) → IsAt state r replica → base_for replica.adopted state ≡ Some replica.base
  pub by_adoption : (adoption : Adoption) → Among adoption state.adoptions → IsMade state adoption.epoch
  pub by_promise : (given : GivenPromise) → Among given state.promises → base_for given.promise.adopted state ≡ Some given.promise.base

-- a replica serves epoch 0 or one that a line entered
abbrev pub ServingWasEntered : Type 0
ServingWasEntered =
    (f : ℕ) (turns : List GlobalTurn) → EachAnswered (first_epochs f) turns →
    (r : ℕ) (replica : ReplicaState) → IsAt (after_turns (first_epochs f) turns) r replica → replica.phase ≡ Serving →
    (replica.adopted ≡ 0) ⊎ WasEntered replica.adopted turns

-- an epoch that a line entered has a base, and a majority ever adopted it
abbrev pub EnteredWasHeld : Type 0
EnteredWasHeld =
    (f : ℕ) (turns : List GlobalTurn) → EachAnswered (first_epochs f) turns → (epoch : ℕ) → WasEntered epoch turns →
    IsHeld (after_turns (first_epochs f) turns) epoch × IsMade (after_turns (first_epochs f) turns) epoch

-- what a replica had when it was reset it never has again: from then on it lacks its state or has a higher epoch
abbrev pub ResetForGood : Type 0
ResetForGood =
    (f : ℕ) (turns : List GlobalTurn) (reset : GlobalTurn) (more : List GlobalTurn) → EachAnswered (first_epochs f) turns →
    EachAnswered (after_turns (first_epochs f) turns) (reset ∷ more) →
    (r : ℕ) (before after : ReplicaState) → IsAt (after_turns (first_epochs f) turns) r before → lacks before.phase ≡ false → Resets r reset →
    IsAt (after_turns (after_turns (first_epochs f) turns) (reset ∷ more)) r after →
    (lacks after.phase ≡ true) ⊎ (before.adopted < after.adopted)
