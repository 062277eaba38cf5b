-- Which bases are in force: epoch 0's, those that a majority ever adopted, and those on which a base in force was built.
use Rattle.std.specs.Prelude.{◌≡◌, ◌⊎◌, ◌≤◌, ℕ, List, [], ◌∷◌}
use Rattle.mk_quorum.specs.Sizes.{majority_of}
use Rattle.mk_words.specs.Promises.{chosen, highest_adopted}
use Rattle.mk_model.specs.EpochState.{EpochState, promises_for, adopters}

-- the epoch on whose base the base of this epoch was built: the highest adopted epoch among its promises
abbrev pub source_of : EpochState → ℕ → ℕ
source_of state epoch = highest_adopted (chosen state.faults epoch (promises_for epoch state))

-- from an epoch up to one that a majority ever adopted, each built on the one before
abbrev pub LeadsToMajority : EpochState → ℕ → List ℕ → Type 0
LeadsToMajority state epoch [] = majority_of state.faults ≤ adopters epoch state
LeadsToMajority state epoch (later ∷ rest) = (source_of state later ≡ epoch) × LeadsToMajority state later rest

-- as one looks now; a base can come to be in force later, and then stays so
abbrev pub InForce : EpochState → ℕ → Type 0
InForce state epoch = (epoch ≡ 0) ⊎ ((path : List ℕ) × LeadsToMajority state epoch path)
