-- A base without its transactions: the outcomes that its marks do not cover, its marks, and what its commits leave at keys.
use Rattle.std.specs.Prelude.{◌≡◌, ◌<◌, ℕ, List, length, slice_index_or, unwrap_or}
use Rattle.std.specs.Ordering.{nat_cmp}
use Rattle.std.specs.Map.{lookup}
use Rattle.std.specs.BTreeMap.{is_at}
use Rattle.mk_words.specs.KeptOutcomes.{KeptOutcomes}
use Rattle.mk_txn.specs.Transactions.{Transaction}
use Rattle.mk_words.specs.Bases.{BaseState, IsBase}
use Rattle.mk_words.specs.Cells.{CellView}
use Rattle.mk_words.specs.Rebuilding.{StandsFor}
use Rattle.mk_merge_laws.specs.Lefts.{LeftState, nothing_left, cell_left, left_by}

-- what is kept, and the keys at which commits left something, with that
pub record SnapState : Type 0 where
  pub kept : KeptOutcomes
  pub lefts : List (ℕ × LeftState)

-- what is left at a key
abbrev pub left_at : ℕ → List (ℕ × LeftState) → LeftState
left_at key lefts = unwrap_or (lookup (is_at (nat_cmp key)) lefts) nothing_left

-- the snapshot stands for the base: it has the base's marks and the outcomes that these do not cover, and the rebuilt cell of each key
pub record SnapStands (snap : SnapState) (base : BaseState) : Type 0 where
  pub is_base : IsBase base
  pub stands : StandsFor snap.kept (λ key. cell_left (left_at key snap.lefts)) base

-- these commits were added, one after another
abbrev pub AreAdded : List Transaction → List (ℕ × LeftState) → List (ℕ × LeftState) → Type 0
AreAdded txns old new = (key : ℕ) → left_at key new ≡ left_by key (left_at key old) txns

-- the cells of the keys below this number, in order of key
pub record AreCells (lefts : List (ℕ × LeftState)) (keys : ℕ) (cells : List CellView) : Type 0 where
  pub all : length cells ≡ keys
  pub each : (key : ℕ) (d : CellView) → key < keys → (slice_index_or cells key d).state ≡ cell_left (left_at key lefts)
