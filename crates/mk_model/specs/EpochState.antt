-- What an epoch change goes by: of each replica its word, phase, epoch and base, and of the whole what was asked,
-- promised, made and adopted. A wipe takes nothing from the last three.
use Rattle.std.specs.Prelude.{ℕ, Bool, ◌&&◌, ◌==◌, List, [], filter, map, replicate, Option, Some, find, option_map, if◌then◌else◌}
use Rattle.std.specs.List.{list_any}
use Rattle.mk_quorum.specs.Counts.{count_below}
use Rattle.mk_quorum.specs.Sizes.{members}
use Rattle.mk_words.specs.declared.Phase.{Phase}
use Rattle.mk_words.specs.declared.Phase.TheVariants.{Serving}
use Rattle.mk_trim.specs.declared.ReplicaView.{ReplicaView}
use Rattle.mk_words.specs.Bases.{BaseState, empty_base, kept_of}
use Rattle.mk_words.specs.Promises.{PromiseState}

-- a replica: its epoch word, its phase, the epoch that it has adopted, and that epoch's base
pub record ReplicaState : Type 0 where
  pub word : ℕ
  pub phase : Phase
  pub adopted : ℕ
  pub base : BaseState

-- a promise, and the epoch for which it was given
pub record GivenPromise : Type 0 where
  pub epoch : ℕ
  pub promise : PromiseState

-- a base, and the epoch for which it was made
pub record MadeBase : Type 0 where
  pub epoch : ℕ
  pub base : BaseState

-- a replica that once adopted an epoch
pub record Adoption : Type 0 where
  pub epoch : ℕ
  pub replica : ℕ

-- the whole; what was asked, promised, made and adopted stands in order
pub record EpochState : Type 0 where
  pub faults : ℕ
  pub replicas : List ReplicaState
  pub asked : List ℕ
  pub promises : List GivenPromise
  pub made : List MadeBase
  pub adoptions : List Adoption

-- at the start each replica serves epoch 0, and its word reads 0
abbrev pub first_replica : ReplicaState
first_replica = record { word = 0; phase = Serving; adopted = 0; base = empty_base }

-- nothing was asked, promised, made or adopted
abbrev pub first_epochs : ℕ → EpochState
first_epochs f = record { faults = f; replicas = replicate (members f) first_replica; asked = []; promises = []; made = []; adoptions = [] }

-- what columns see of a replica
abbrev pub view_of : ReplicaState → ReplicaView
view_of replica = record { phase = replica.phase; epoch = replica.adopted; fates = kept_of replica.base }

-- what columns see of the replicas, by number
abbrev pub views_of : EpochState → List ReplicaView
views_of state = map view_of state.replicas

-- somebody asked for this epoch
abbrev pub was_asked : ℕ → EpochState → Bool
was_asked epoch state = list_any (λ e. e == epoch) state.asked

-- the promises given for an epoch, in order
abbrev pub promises_for : ℕ → EpochState → List PromiseState
promises_for epoch state = map (λ g. g.promise) (filter (λ g. g.epoch == epoch) state.promises)

-- the base of an epoch that a line can name, where it was made
abbrev pub made_for : ℕ → EpochState → Option BaseState
made_for epoch state = option_map (λ m. m.base) (find (λ m. m.epoch == epoch) state.made)

-- the base of an epoch; epoch 0 counts as made, with the empty base
abbrev pub base_for : ℕ → EpochState → Option BaseState
base_for epoch state = if epoch == 0 then Some empty_base else made_for epoch state

-- the replica once adopted the epoch
abbrev pub ever_adopted : ℕ → EpochState → ℕ → Bool
ever_adopted epoch state r = list_any (λ a. a.epoch == epoch && a.replica == r) state.adoptions

-- how many replicas ever adopted the epoch, also if they were wiped afterwards
abbrev pub adopters : ℕ → EpochState → ℕ
adopters epoch state = count_below (members state.faults) (ever_adopted epoch state)
