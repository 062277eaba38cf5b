-- What commits leave at a key, one commit after another.
use Rattle.std.specs.Prelude.{◌≡◌, ℕ, ◌<◌, List, [], ◌∷◌, length, slice_index_or, ◌==◌, if◌then◌else◌}
use Rattle.mk_txn.specs.declared.Stamp.{Stamp}
use Rattle.mk_txn.specs.declared.Value.{Value}
use Rattle.mk_txn.specs.declared.ReadItem.{ReadItem}
use Rattle.mk_txn.specs.declared.WriteItem.{WriteItem}
use Rattle.mk_txn.specs.Stamps.{is_before, later_stamp, zero_stamp}
use Rattle.mk_txn.specs.Transactions.{Transaction}
use Rattle.mk_txn.specs.LatestWrites.{VersionedValue, first_version, after_writes}
use Rattle.mk_words.specs.Cells.{CellState, CellView, settled_cell}
use Rattle.mk_words.specs.Bases.{BaseState}
use Rattle.mk_words.specs.Rebuilding.{rebuilt}

-- the latest write of a key, and the greatest stamp of a read
pub record LeftState : Type 0 where
  pub latest : VersionedValue
  pub rts : Stamp

-- what no commit leaves
abbrev pub nothing_left : LeftState
nothing_left = record { latest = first_version; rts = zero_stamp }

-- a write of this stamp stands, unless a later one does
abbrev pub with_write : Stamp → Value → LeftState → LeftState
with_write stamp value left =
    record left { latest = if is_before stamp left.latest.version then left.latest else record { version = stamp; value = value } }

-- a read of this stamp counts, unless a later one does
abbrev pub with_read : Stamp → LeftState → LeftState
with_read stamp left = record left { rts = later_stamp left.rts stamp }

-- the greatest stamp after reads of one stamp, in order of mention
abbrev pub after_reads : ℕ → Stamp → Stamp → List ReadItem → Stamp
after_reads key stamp rts [] = rts
after_reads key stamp rts (item ∷ items) = after_reads key stamp (if item.key == key then later_stamp rts stamp else rts) items

-- what one more commit leaves
abbrev pub after_commit : ℕ → Transaction → LeftState → LeftState
after_commit key txn left =
    record {
      latest = after_writes key txn.stamp left.latest txn.writes;
      rts = after_reads key txn.stamp left.rts txn.reads;
    }

-- what these commits leave, in this order
abbrev pub left_by : ℕ → LeftState → List Transaction → LeftState
left_by key left [] = left
left_by key left (txn ∷ txns) = left_by key (after_commit key txn left) txns

-- the cell of a key of which this is left
abbrev pub cell_left : LeftState → CellState
cell_left left = settled_cell left.latest.value left.latest.version left.rts

-- of these keys each has the writes of one stamp besides
pub record AreWritten (stamp : Stamp) (items : List WriteItem) (old new : List LeftState) : Type 0 where
  pub all : length new ≡ length old
  pub latest : (key : ℕ) (d : LeftState) → key < length old → (slice_index_or new key d).latest ≡ after_writes key stamp (slice_index_or old key d).latest items
  pub rts : (key : ℕ) (d : LeftState) → key < length old → (slice_index_or new key d).rts ≡ (slice_index_or old key d).rts

-- of these keys each has the reads of one stamp besides
pub record AreRead (stamp : Stamp) (items : List ReadItem) (old new : List LeftState) : Type 0 where
  pub all : length new ≡ length old
  pub latest : (key : ℕ) (d : LeftState) → key < length old → (slice_index_or new key d).latest ≡ (slice_index_or old key d).latest
  pub rts : (key : ℕ) (d : LeftState) → key < length old → (slice_index_or new key d).rts ≡ after_reads key stamp (slice_index_or old key d).rts items

-- what these commits leave at the keys below this number, in order of key
pub record AreLeft (txns : List Transaction) (keys : ℕ) (lefts : List LeftState) : Type 0 where
  pub all : length lefts ≡ keys
  pub each : (key : ℕ) (d : LeftState) → key < keys → slice_index_or lefts key d ≡ left_by key nothing_left txns

-- the rebuilt cells of the keys below this number, in order of key
pub record AreRebuilt (base : BaseState) (keys : ℕ) (cells : List CellView) : Type 0 where
  pub all : length cells ≡ keys
  pub each : (key : ℕ) (d : CellView) → key < keys → (slice_index_or cells key d).state ≡ rebuilt base key
