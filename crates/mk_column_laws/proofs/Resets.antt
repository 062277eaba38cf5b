-- What resets leave alone.
use Rattle.std.proofs.Common.{◌≡◌, ℕ, refl, List, [], ◌∷◌}
use Rattle.mk_model.specs.ColumnState.{ColumnState}
use Rattle.mk_model.specs.Logs.{replica_reset}
use Rattle.mk_column_laws.specs.Moments.{replicas_reset}

pub reset_takeovers : (resets : List ℕ) (c : ColumnState) → (replicas_reset resets c).takeovers ≡ c.takeovers
reset_takeovers [] c = refl
reset_takeovers (r ∷ resets) c = reset_takeovers resets (replica_reset r c)

pub reset_link : (resets : List ℕ) (c : ColumnState) → (replicas_reset resets c).link ≡ c.link
reset_link [] c = refl
reset_link (r ∷ resets) c = reset_link resets (replica_reset r c)

pub reset_learned : (resets : List ℕ) (c : ColumnState) → (replicas_reset resets c).learned ≡ c.learned
reset_learned [] c = refl
reset_learned (r ∷ resets) c = reset_learned resets (replica_reset r c)

pub reset_attempts : (resets : List ℕ) (c : ColumnState) → (replicas_reset resets c).attempts ≡ c.attempts
reset_attempts [] c = refl
reset_attempts (r ∷ resets) c = reset_attempts resets (replica_reset r c)

pub reset_clients : (resets : List ℕ) (c : ColumnState) → (replicas_reset resets c).clients ≡ c.clients
reset_clients [] c = refl
reset_clients (r ∷ resets) c = reset_clients resets (replica_reset r c)
