-- The epoch word that goes with a global line, and what the line leaves of it.
use Rattle.std.specs.Prelude.{◌≡◌, ℕ, Bool, false, ◌==◌, Option}
use Rattle.mk_io.specs.Faults.{HasRisen, one_more_told}
use Rattle.mk_words.specs.Promises.{leader_of}
use Rattle.mk_words.specs.declared.GlobalLine.{GlobalLine}
use Rattle.mk_words.specs.declared.GlobalLine.TheVariants.{Promise, Merge, Adopt}
use Rattle.mk_words.specs.declared.GlobalAnswer.{GlobalAnswer}
use Rattle.mk_words.specs.declared.GlobalAnswer.TheVariants.{Ok as Done, WordFault}
use Rattle.mk_epoch.specs.Standing.{ReplicasView, word_at}

-- the number is what is kept as the word of the replica that promises or adopts, or of the leader that merges; the other
-- lines read and write no word
abbrev pub IsWordFor : {B : Type 0} → GlobalLine → ReplicasView B → ℕ → Type 0
IsWordFor (Promise epoch r) epochs number = number ≡ word_at epochs.replicas r
IsWordFor (Adopt epoch r) epochs number = number ≡ word_at epochs.replicas r
IsWordFor (Merge epoch) epochs number = number ≡ word_at epochs.replicas (leader_of epochs.faults epoch)
IsWordFor _ epochs number = Unit {0}

-- the line may write the word of this replica
abbrev pub writes_word_of : GlobalLine → ℕ → Bool
writes_word_of (Promise epoch r) replica = r == replica
writes_word_of (Adopt epoch r) replica = r == replica
writes_word_of _ replica = false

-- a line that was done set the word once, to the epoch, and without a fault; one that met a fault tried so once and left
-- the number; any other touched nothing
abbrev pub IsWrittenBy : {W : Type 0} → (kept : W → ℕ) (sets : W → Option ℕ) (faults : W → ℕ) → ℕ → GlobalAnswer → W → W → Type 0
IsWrittenBy kept sets faults epoch Done old new = (kept new ≡ epoch) × (sets new ≡ one_more_told (sets old)) × (faults new ≡ faults old)
IsWrittenBy kept sets faults epoch WordFault old new = (kept new ≡ kept old) × (sets new ≡ one_more_told (sets old)) × HasRisen (faults old) (faults new)
IsWrittenBy kept sets faults epoch _ old new = new ≡ old

-- what a line with this answer leaves of its word
abbrev pub IsWordAfter : {W : Type 0} → (kept : W → ℕ) (sets : W → Option ℕ) (faults : W → ℕ) → GlobalLine → GlobalAnswer → W → W → Type 0
IsWordAfter kept sets faults (Promise epoch r) answer old new = IsWrittenBy kept sets faults epoch answer old new
IsWordAfter kept sets faults (Adopt epoch r) answer old new = IsWrittenBy kept sets faults epoch answer old new
IsWordAfter kept sets faults _ answer old new = new ≡ old

-- the faults of a word rose where the line failed at it, and are as many where it did not
abbrev pub HasFaulted : GlobalAnswer → ℕ → ℕ → Type 0
HasFaulted WordFault old new = HasRisen old new
HasFaulted _ old new = new ≡ old

-- the words of all replicas stay, but for that which the line may write
abbrev pub KeepsWords : {B : Type 0} → GlobalLine → ReplicasView B → ReplicasView B → Type 0
KeepsWords line old new = (r : ℕ) → writes_word_of line r ≡ false → word_at new.replicas r ≡ word_at old.replicas r
