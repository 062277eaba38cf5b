use Rattle.std.proofs.Common.{◌≡◌, Some, None, sym, ap, subst, ◌∙◌}
use Rattle.std.proofs.lemmas.Bool.{false≢true}
use Rattle.std.specs.Prelude.{option_map, option_copied, IsSome}
use Rattle.mk_words.specs.Picks.{pick}
use Rattle.mk_model.specs.ColumnState.{TakeoverOf, takeover_of}
use Rattle.mk_column.specs.TakeoversByCode.{backup_of}
use Rattle.mk_column.proofs.TakeoverLaws.{backup-there, pick-some}
use Rattle.mk_column.proofs.column.Column.picked.Goals as goal

pub unreachable-requires : goal.unreachable-requires
unreachable-requires c =
    let none : backup_of c.args.view_id c.self.inside.parts.takeovers ≡ None = sym c.find.ensures ∙ ap option_copied c.in-None.is in
    false≢true
    (subst IsSome none (backup-there c.args.view_id c.self.inside.parts.takeovers c.args.self.now.state (ap (λ column. column.state.takeovers) (sym c.self.view_is)) c.requires))

pub returns : goal.returns
returns c =
    let found : backup_of c.args.view_id c.self.inside.parts.takeovers ≡ Some c.in-Some.backup.now = sym c.find.ensures ∙ ap option_copied c.in-Some.is in
    ap (λ column. option_map (λ (t : TakeoverOf). pick column.setting.faults t.state) (takeover_of column.state c.args.view_id.id c.args.view_id.view))
    (sym c.self.view_is)
    ∙ pick-some c.self.inside.size c.args.view_id c.self.inside.parts.takeovers c.in-Some.backup.now c.self.invariant.takeovers found
    ∙ ap Some (sym c.pick.ensures)
