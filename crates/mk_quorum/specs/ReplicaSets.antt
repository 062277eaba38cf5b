-- A set of replicas, as a list that tells of each number below seven whether it is in the set.
use Rattle.std.specs.Prelude.{ℕ, Bool, true, false, List, replicate, slice_index_or, slice_set}
use Rattle.mk_quorum.specs.Counts.{count_below}

-- the set without members
abbrev pub no_replicas : List Bool
no_replicas = replicate 7 false

-- whether the replica is in the set
abbrev pub has_replica : List Bool → ℕ → Bool
has_replica set replica = slice_index_or set replica false

-- the set with this replica too
abbrev pub with_replica : ℕ → List Bool → List Bool
with_replica replica set = slice_set set replica true

-- how many replicas are in the set
abbrev pub number_of : List Bool → ℕ
number_of set = count_below 7 (has_replica set)
