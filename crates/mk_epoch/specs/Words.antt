-- What a call leaves of the epoch word that it was given.
use Rattle.std.specs.Prelude.{◌≡◌, ℕ, Option, Result, Ok, Err}
use Rattle.mk_io.specs.Faults.{HasRisen, one_more_told}
use Rattle.mk_epoch.specs.declared.EpochError.{EpochError}
use Rattle.mk_epoch.specs.declared.EpochError.TheVariants.{Unasked, Unmade, Lacking, Old, WordFault, Short, NoMemory}

-- a call that was done set the word once, to the epoch, and without a fault; one that met a fault tried so once and left
-- the number; any other touched nothing
abbrev pub IsWritten : {W X : Type 0} → (kept : W → ℕ) (sets : W → Option ℕ) (faults : W → ℕ) → ℕ → W → W → Result X EpochError → Type 0
IsWritten kept sets faults epoch old new (Ok x) = (kept new ≡ epoch) × (sets new ≡ one_more_told (sets old)) × (faults new ≡ faults old)
IsWritten kept sets faults epoch old new (Err WordFault) = (kept new ≡ kept old) × (sets new ≡ one_more_told (sets old)) × HasRisen (faults old) (faults new)
IsWritten kept sets faults epoch old new (Err Unasked) = new ≡ old
IsWritten kept sets faults epoch old new (Err Unmade) = new ≡ old
IsWritten kept sets faults epoch old new (Err Lacking) = new ≡ old
IsWritten kept sets faults epoch old new (Err (Old word)) = new ≡ old
IsWritten kept sets faults epoch old new (Err (Short count)) = new ≡ old
IsWritten kept sets faults epoch old new (Err NoMemory) = new ≡ old
