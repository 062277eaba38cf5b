-- What a replica's word, phase and adopted epoch say of its promises and adoptions.
use Rattle.std.specs.Prelude.{◌≡◌, ◌⊎◌, ◌≤◌, ◌<◌, ℕ, false, map, Some, slice_get}
use Rattle.mk_lists.specs.Among.{Among, AllDistinct}
use Rattle.mk_quorum.specs.Sizes.{members}
use Rattle.mk_words.specs.declared.Phase.{Phase}
use Rattle.mk_words.specs.declared.Phase.TheVariants.{Serving, Paused, Adopted, Lacking}
use Rattle.mk_words.specs.Bases.{empty_base}
use Rattle.mk_model.specs.EpochState.{EpochState, ReplicaState, GivenPromise, promises_for}
use Rattle.mk_model.specs.GlobalAnswers.{lacks}

-- the replica of this number is in this state
abbrev pub IsAt : EpochState → ℕ → ReplicaState → Type 0
IsAt state r replica = slice_get state.replicas r ≡ Some replica

-- the replica once adopted the epoch; each had epoch 0 from the start
abbrev pub EverHad : EpochState → ℕ → ℕ → Type 0
EverHad state r epoch = (epoch ≡ 0) ⊎ Among (record { epoch = epoch; replica = r }) state.adoptions

-- no epoch that a replica ever adopted or promised is above its word
abbrev pub WordsBound : EpochState → Type 0
WordsBound state =
    (r : ℕ) (replica : ReplicaState) → IsAt state r replica →
    ((epoch : ℕ) → EverHad state r epoch → epoch ≤ replica.word)
    × ((given : GivenPromise) → Among given state.promises → given.promise.replica ≡ r → given.epoch ≤ replica.word)

-- words never fall, and replicas stay
abbrev pub WordsRise : EpochState → EpochState → Type 0
WordsRise early late =
    (r : ℕ) (before : ReplicaState) → IsAt early r before → (after : ReplicaState) × IsAt late r after × (before.word ≤ after.word)

-- what each phase says of word, adopted epoch and base
abbrev pub PhaseFits : ReplicaState → Phase → Type 0
PhaseFits replica Serving = replica.word ≡ replica.adopted
PhaseFits replica Adopted = replica.word ≡ replica.adopted
PhaseFits replica Paused = replica.adopted < replica.word
PhaseFits replica Lacking = (replica.adopted ≡ 0) × (replica.base ≡ empty_base)

-- a replica that serves or waits has its word's epoch, one that pauses promised a higher one, one that lost its state has none
abbrev pub PhaseAndWord : EpochState → Type 0
PhaseAndWord state = (r : ℕ) (replica : ReplicaState) → IsAt state r replica → PhaseFits replica replica.phase

-- the epoch of a replica with state is one that it adopted, and the highest of those
abbrev pub AdoptedOnTop : EpochState → Type 0
AdoptedOnTop state =
    (r : ℕ) (replica : ReplicaState) → IsAt state r replica → lacks replica.phase ≡ false →
    EverHad state r replica.adopted × ((epoch : ℕ) → EverHad state r epoch → epoch ≤ replica.adopted)

-- no replica adopts an epoch twice
abbrev pub AdoptsOnce : EpochState → Type 0
AdoptsOnce state = AllDistinct state.adoptions

-- a promise is of an epoch above the one that its replica had then, and its replica never adopts an epoch between the two
abbrev pub PromiseGap : EpochState → Type 0
PromiseGap state =
    (given : GivenPromise) → Among given state.promises →
    (given.promise.adopted < given.epoch) × EverHad state given.promise.replica given.promise.adopted
    × ((epoch : ℕ) → EverHad state given.promise.replica epoch → (epoch ≤ given.promise.adopted) ⊎ (given.epoch ≤ epoch))

-- who gave a promise is one of the replicas
abbrev pub PromisersAreThere : EpochState → Type 0
PromisersAreThere state = (given : GivenPromise) → Among given state.promises → given.promise.replica < members state.faults

-- a replica gives one promise for an epoch at most
abbrev pub OnePromiseEach : EpochState → Type 0
OnePromiseEach state = (epoch : ℕ) → AllDistinct (map (λ p. p.replica) (promises_for epoch state))
