-- The cell of a key after a base, which transactions fit a base, and what stands for a base.
use Rattle.std.specs.Prelude.{◌≡◌, ℕ, Bool, true, not, ◌&&◌, nat_lt}
use Rattle.std.specs.List.{list_all}
use Rattle.mk_lists.specs.Among.{Each}
use Rattle.mk_txn.specs.Stamps.{is_before}
use Rattle.mk_txn.specs.Transactions.{Transaction}
use Rattle.mk_txn.specs.LatestWrites.{first_version, latest_write, latest_read}
use Rattle.mk_words.specs.Cells.{CellState, settled_cell}
use Rattle.mk_words.specs.KeptOutcomes.{KeptOutcomes}
use Rattle.mk_words.specs.Bases.{BaseState, commits_in, kept_of}

-- the latest committed write of the key, its greatest committed read, and nothing pending; the whole list counts
abbrev pub rebuilt : BaseState → ℕ → CellState
rebuilt base key =
    let latest = latest_write key first_version (commits_in base.list) in
    settled_cell latest.value latest.version (latest_read key (commits_in base.list))

-- each read is of a version not below the last write, and each write is not below the last read, of the key's cell
abbrev pub fits_cells : (ℕ → CellState) → Transaction → Bool
fits_cells cell txn =
    list_all (λ item. not (is_before item.version (cell item.key).wts)) txn.reads
    && list_all (λ item. not (is_before txn.stamp (cell item.key).rts)) txn.writes

-- the transaction fits the base's rebuilt cells
abbrev pub fits_base : BaseState → Transaction → Bool
fits_base base txn = fits_cells (rebuilt base) txn

-- kept outcomes and the cells of the keys stand for a base: it is all that is asked of the base from then on
pub record StandsFor (kept : KeptOutcomes) (cell : ℕ → CellState) (base : BaseState) : Type 0 where
  pub outcomes : kept ≡ kept_of base
  pub cells : (key : ℕ) → cell key ≡ rebuilt base key

-- the transaction names no key from this number on
abbrev pub names_below : ℕ → Transaction → Bool
names_below keys txn = list_all (λ item. nat_lt item.key keys) txn.reads && list_all (λ item. nat_lt item.key keys) txn.writes

-- no transaction of the base does
abbrev pub NamesBelow : ℕ → BaseState → Type 0
NamesBelow keys base = Each (λ f. names_below keys f.txn ≡ true) base.list
