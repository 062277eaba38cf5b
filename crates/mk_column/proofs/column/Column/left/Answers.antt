use Rattle.std.proofs.Common.{◌≡◌, ◌∙◌, ℕ, Some, None, true, false, sym, ap, subst}
use Rattle.std.specs.Prelude.{option_map, option_copied, IsSome}
use Rattle.mk_lists.proofs.EachMember.{Each-find}
use Rattle.mk_lists.proofs.Lookups.{find-passes}
use Rattle.mk_txn.specs.declared.TxnId.{TxnId}
use Rattle.mk_txn.proofs.IdOrder.{same_id-tells}
use Rattle.mk_model.specs.ColumnState.{AttemptState, TakeoverOf, attempt_of}
use Rattle.mk_history.specs.Leaving.{left_in_takeover, left_unless_taken_over, last_takeover}
use Rattle.mk_column.specs.AttemptsByCode.{BegunView, begun_of, is_begun}
use Rattle.mk_column.specs.TakeoversByCode.{BackupView, last_backup}
use Rattle.mk_column.specs.ColumnByCode.{AttemptFits}
use Rattle.mk_column.proofs.BeginLaws.{some-of-copied}
use Rattle.mk_column.proofs.ColumnLaws.{attempt-found}
use Rattle.mk_column.proofs.StepLaws.{some-from_map}
use Rattle.mk_column.proofs.LeavingLaws.{last_backup-seen, last_backup-Each, left-taken, left-alone, left-unread}
use Rattle.mk_column.proofs.column.Column.left.Goals as goal

pub unwrap-begun-requires : goal.unwrap-begun-requires
unwrap-begun-requires c =
    let there : IsSome (begun_of c.args.id c.self.inside.parts.attempts) =
    some-from_map (λ (b : BegunView). b.state) (begun_of c.args.id c.self.inside.parts.attempts)
    (subst IsSome (ap (λ column. attempt_of column.state c.args.id) (sym c.self.view_is) ∙ attempt-found c.args.id c.self.inside.parts.attempts) c.requires) in
    some-of-copied c.find.result (subst IsSome (sym c.find.ensures) there)

pub returns-then-shown : goal.returns-then-shown
returns-then-shown c =
    let b = c.unwrap-begun.result.now in
    let found : begun_of c.args.id c.self.inside.parts.attempts ≡ Some b = sym c.find.ensures ∙ ap option_copied c.unwrap-begun.ensures in
    let there : attempt_of c.args.self.now.state c.args.id ≡ Some b.state =
    ap (λ column. attempt_of column.state c.args.id) (sym c.self.view_is) ∙ attempt-found c.args.id c.self.inside.parts.attempts
    ∙ ap (option_map (λ (x : BegunView). x.state)) found in
    let unread : b.state.unread ≡ true = sym (ap (λ s. s.unread) c.shown.ensures) ∙ c.if-shown.true in
    left-unread c.args.self.now.setting.faults c.args.self.now.state c.args.id b.state there unread

pub returns-in-Some : goal.returns-in-Some
returns-in-Some c =
    let b = c.unwrap-begun.result.now in
    let backup = c.in-Some.backup.now in
    let takeovers = c.self.inside.parts.takeovers in
    let found : begun_of c.args.id c.self.inside.parts.attempts ≡ Some b = sym c.find.ensures ∙ ap option_copied c.unwrap-begun.ensures in
    let there : attempt_of c.args.self.now.state c.args.id ≡ Some b.state =
    ap (λ column. attempt_of column.state c.args.id) (sym c.self.view_is) ∙ attempt-found c.args.id c.self.inside.parts.attempts
    ∙ ap (option_map (λ (x : BegunView). x.state)) found in
    let read : b.state.unread ≡ false = sym (ap (λ s. s.unread) c.shown.ensures) ∙ c.if-shown.false in
    let last : last_backup c.args.id takeovers ≡ Some backup = sym c.last_of.ensures ∙ ap option_copied c.in-Some.is in
    let seen : last_takeover b.state.id c.args.self.now.state.takeovers ≡ Some backup.of =
    ap (λ (i : TxnId). last_takeover i c.args.self.now.state.takeovers) (same_id-tells b.state.id c.args.id (find-passes (is_begun c.args.id) c.self.inside.parts.attempts b found))
    ∙ ap (λ column. last_takeover c.args.id column.state.takeovers) (sym c.self.view_is)
    ∙ sym (last_backup-seen c.args.id takeovers)
    ∙ ap (option_map (λ (x : BackupView). x.of)) last in
    let size : backup.faults ≡ c.args.self.now.setting.faults =
    last_backup-Each (λ (x : BackupView). x.faults ≡ c.self.inside.size) c.args.id takeovers backup c.self.invariant.takeovers last
    ∙ ap (λ column. column.setting.faults) c.self.view_is in
    left-taken c.args.self.now.setting.faults c.args.self.now.state c.args.id b.state backup.of c.left.result there read seen
    (c.left.ensures ∙ ap (λ (f : ℕ). left_in_takeover f backup.of.state backup.of.state.proposed) size)

pub returns-in-None : goal.returns-in-None
returns-in-None c =
    let b = c.unwrap-begun.result.now in
    let takeovers = c.self.inside.parts.takeovers in
    let found : begun_of c.args.id c.self.inside.parts.attempts ≡ Some b = sym c.find.ensures ∙ ap option_copied c.unwrap-begun.ensures in
    let there : attempt_of c.args.self.now.state c.args.id ≡ Some b.state =
    ap (λ column. attempt_of column.state c.args.id) (sym c.self.view_is) ∙ attempt-found c.args.id c.self.inside.parts.attempts
    ∙ ap (option_map (λ (x : BegunView). x.state)) found in
    let read : b.state.unread ≡ false = sym (ap (λ s. s.unread) c.shown.ensures) ∙ c.if-shown.false in
    let none : last_backup c.args.id takeovers ≡ None = sym c.last_of.ensures ∙ ap option_copied c.in-None.is in
    let seen : last_takeover b.state.id c.args.self.now.state.takeovers ≡ None =
    ap (λ (i : TxnId). last_takeover i c.args.self.now.state.takeovers) (same_id-tells b.state.id c.args.id (find-passes (is_begun c.args.id) c.self.inside.parts.attempts b found))
    ∙ ap (λ column. last_takeover c.args.id column.state.takeovers) (sym c.self.view_is)
    ∙ sym (last_backup-seen c.args.id takeovers)
    ∙ ap (option_map (λ (x : BackupView). x.of)) none in
    let size : b.faults ≡ c.args.self.now.setting.faults =
    (Each-find (AttemptFits c.self.inside.size _ _) (is_begun c.args.id) c.self.inside.parts.attempts b c.self.invariant.attempts found).faults
    ∙ ap (λ column. column.setting.faults) c.self.view_is in
    left-alone c.args.self.now.setting.faults c.args.self.now.state c.args.id b.state c.left-in-None.result there read seen
    (c.left-in-None.ensures ∙ ap (λ (f : ℕ). left_unless_taken_over f b.state None) size)
