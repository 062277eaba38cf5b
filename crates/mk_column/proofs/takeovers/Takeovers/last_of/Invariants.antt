use Rattle.std.proofs.Common.{◌≡◌, take}
use Rattle.std.specs.Prelude.{option_copied}
use Rattle.mk_column.specs.TakeoversByCode.{last_backup}
use Rattle.mk_column.proofs.takeovers.Takeovers.last_of.Given as goal

abbrev pub invariant-loop-backup : goal.invariant-loop-backup
invariant-loop-backup l = option_copied l.last ≡ last_backup l.id (take l.backup-index l.self)
