-- What is kept of each change of epoch.
use Rattle.std.specs.Prelude.{ℕ, ◌+◌, ◌-◌, Bool, true, false, List, [], ◌∷◌, ◌++◌, length, replicate, slice_get, slice_set, Option, Some, None, unwrap_or}
use Rattle.mk_quorum.specs.ReplicaSets.{no_replicas, with_replica}
use Rattle.mk_merge.specs.declared.Promise.{Promise}

-- whether a change was asked for, its promises in order, its base where it was made, and who adopted it
pub record ChangeView (B : Type 0) : Type 0 where
  pub asked : Bool
  pub promises : List (Promise B)
  pub made : Option B
  pub adopters : List Bool

-- nobody asked for it
abbrev pub no_change : {B : Type 0} → ChangeView B
no_change = record { asked = false; promises = []; made = None; adopters = no_replicas }

-- the change to an epoch; the changes stand by epoch, and behind them nobody asked for any
abbrev pub change_for : {B : Type 0} → ℕ → List (ChangeView B) → ChangeView B
change_for epoch changes = unwrap_or (slice_get changes epoch) no_change

-- somebody asked
abbrev pub asked_for : {B : Type 0} → ChangeView B → ChangeView B
asked_for change = record change { asked = true }

-- somebody asked for the change to this epoch
abbrev pub asked_in : {B : Type 0} → ℕ → List (ChangeView B) → List (ChangeView B)
asked_in epoch changes = slice_set changes epoch (asked_for (change_for epoch changes))

-- the promise is kept behind the others
abbrev pub promised_to : {B : Type 0} → Promise B → ChangeView B → ChangeView B
promised_to promise change = record change { promises = change.promises ++ promise ∷ [] }

-- the base was made
abbrev pub made_as : {B : Type 0} → B → ChangeView B → ChangeView B
made_as base change = record change { made = Some base }

-- the replica adopted the epoch
abbrev pub adopted_by : {B : Type 0} → ℕ → ChangeView B → ChangeView B
adopted_by replica change = record change { adopters = with_replica replica change.adopters }

-- the change to this epoch has its place
abbrev pub grown_to : {B : Type 0} → ℕ → List (ChangeView B) → List (ChangeView B)
grown_to epoch changes = changes ++ replicate (epoch + 1 - length changes) no_change

-- the change to this epoch has its place, and somebody asked for it
abbrev pub with_asked : {B : Type 0} → ℕ → List (ChangeView B) → List (ChangeView B)
with_asked epoch changes = asked_in epoch (grown_to epoch changes)
