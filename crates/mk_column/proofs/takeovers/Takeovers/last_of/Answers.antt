use Rattle.std.proofs.Common.{◌≡◌, ◌∙◌, ◌<◌, Bool, true, Some, ap, sym, subst, length, get_or, if◌then◌else◌}
use Rattle.std.specs.Prelude.{option_copied}
use Rattle.mk_txn.specs.Transactions.{same_id}
use Rattle.mk_column.specs.TakeoversByCode.{BackupView, view_id_of}
use Rattle.mk_column.proofs.LeavingLaws.{next-last}
use Rattle.mk_column.proofs.takeovers.Takeovers.last_of.Goals as goal
use Rattle.mk_column.proofs.takeovers.Takeovers.last_of.Goals.{then-same_id, else-same_id}

pub loop-backup-preserved : goal.loop-backup-preserved
loop-backup-preserved c =
    let all = c.args.self.now in
    let i = c.loop-backup.backup-index in
    let item = c.backup-item.result in
    let before = option_copied c.loop-backup.last in
    let same : c.deref-backup-items.result.now ≡ all = c.deref-backup-items.ensures.value ∙ c.self.view_is in
    let lt : i < length all = subst (λ xs. i < length xs) same c.loop-backup-test.true in
    let at : item ≡ get_or all i item = c.backup-item.is ∙ ap (λ xs. get_or xs i item) same in
    let tested : c.same_id.result ≡ same_id item.of.id c.args.id = c.same_id.ensures ∙ ap (λ v. same_id v.id c.args.id) c.view_id.ensures in
    next-last c.args.id all i item c.same_id.result (option_copied c.if-same_id.last) before lt at tested c.loop-backup.invariant
    (elim c.if-same_id.branch [
      | then-same_id w ↦ ap option_copied w.last-is ∙ sym (ap (λ (t : Bool). if t then Some item else before) w.if-same_id.true)
      | else-same_id w ↦ ap option_copied w.last-is ∙ sym (ap (λ (t : Bool). if t then Some item else before) w.if-same_id.false)
    ])
