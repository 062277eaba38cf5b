-- What the code keeps of a takeover.
use Rattle.std.specs.Prelude.{ℕ, Bool, ◌&&◌, ◌==◌, false, List, [], ◌∷◌, Option, Some, None, find, map, option_map, option_copied, if◌then◌else◌}
use Rattle.std.specs.Option.{option_or}
use Rattle.std.specs.Borrow.{Bor}
use Rattle.mk_lists.specs.Changed.{change}
use Rattle.mk_txn.specs.declared.TxnId.{TxnId}
use Rattle.mk_txn.specs.Transactions.{same_id}
use Rattle.mk_words.specs.Picks.{new_takeover}
use Rattle.mk_column.specs.declared.backup.ViewId.{ViewId}
use Rattle.mk_model.specs.ColumnState.{TakeoverOf, is_takeover}

-- a takeover, and for how many faults it is made
pub record BackupView : Type 0 where
  pub faults : ℕ
  pub of : TakeoverOf

-- a takeover that has taken nothing
abbrev pub backup_begun : ℕ → TxnId → ℕ → BackupView
backup_begun f id view = record { faults = f; of = record { id = id; closed = false; state = new_takeover f view } }

-- the takeover is changed, and nothing else
abbrev pub on_backup : (TakeoverOf → TakeoverOf) → BackupView → BackupView
on_backup f backup = record backup { of = f backup.of }

-- whether two turns are one
abbrev pub same_view_id : ViewId → ViewId → Bool
same_view_id a b = same_id a.id b.id && a.view == b.view

-- the attempt and the view of a takeover
abbrev pub view_id_of : BackupView → ViewId
view_id_of backup = record { id = backup.of.id; view = backup.of.state.view }

-- the takeover of this attempt at this view
abbrev pub backup_of : ViewId → List BackupView → Option BackupView
backup_of view_id all = find (λ backup. is_takeover view_id.id view_id.view backup.of) all

-- the takeover of this attempt that began last
abbrev pub last_backup : TxnId → List BackupView → Option BackupView
last_backup id [] = None
last_backup id (backup ∷ rest) = option_or (last_backup id rest) (if same_id backup.of.id id then Some backup else None)

-- the takeover of this attempt at this view is changed, and no other
abbrev pub change_backup : ViewId → (BackupView → BackupView) → List BackupView → List BackupView
change_backup view_id f all = change (λ backup. is_takeover view_id.id view_id.view backup.of) f all

-- the takeovers as the definitions have them
abbrev pub takeovers_of : List BackupView → List TakeoverOf
takeovers_of all = map (λ backup. backup.of) all

-- a takeover that was looked up, as the definitions have it
abbrev pub seen_backup : Option (Bor BackupView) → Option TakeoverOf
seen_backup backup = option_map (λ (b : BackupView). b.of) (option_copied backup)
