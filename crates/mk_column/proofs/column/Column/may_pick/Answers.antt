use Rattle.std.proofs.Common.{◌≡◌, Some, None, sym, ap, ◌∙◌}
use Rattle.std.specs.Prelude.{option_copied}
use Rattle.mk_quorum.specs.Slots.{passes}
use Rattle.mk_words.specs.Picks.{pick}
use Rattle.mk_model.specs.ColumnState.{takeover_of}
use Rattle.mk_column.specs.TakeoversByCode.{backup_of}
use Rattle.mk_model.specs.Conditions.{picks_one}
use Rattle.mk_column.proofs.ColumnLaws.{pick-found, pick-none}
use Rattle.mk_column.proofs.column.Column.may_pick.Goals as goal

pub returns-in-Some : goal.returns-in-Some
returns-in-Some c =
    let found : backup_of (record { id = c.args.id; view = c.args.view }) c.self.inside.parts.takeovers ≡ Some c.in-Some.backup.now =
    sym c.find.ensures ∙ ap option_copied c.in-Some.is in
    c.picks_one.ensures ∙ ap picks_one c.pick.ensures
    ∙ sym (pick-found _ (record { id = c.args.id; view = c.args.view }) c.self.inside.parts.takeovers c.in-Some.backup.now c.self.invariant.takeovers found)
    ∙ ap (λ column. passes (λ t. picks_one (pick column.setting.faults t.state)) (takeover_of column.state c.args.id c.args.view)) c.self.view_is

pub returns-in-None : goal.returns-in-None
returns-in-None c =
    let none : backup_of (record { id = c.args.id; view = c.args.view }) c.self.inside.parts.takeovers ≡ None =
    sym c.find.ensures ∙ ap option_copied c.in-None.is in
    sym (pick-none c.self.inside.size (record { id = c.args.id; view = c.args.view }) c.self.inside.parts.takeovers none)
    ∙ ap (λ column. passes (λ t. picks_one (pick column.setting.faults t.state)) (takeover_of column.state c.args.id c.args.view)) c.self.view_is
