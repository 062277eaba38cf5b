use Rattle.std.proofs.Common.{◌≡◌, ◌<◌, Some, ap, subst, ◌∙◌}
use Rattle.std.specs.Prelude.{slice_set, IsSomeAnd}
use Rattle.mk_column.proofs.ViewIds.{same_view_id-tells, same_view_id-itself, view_id-answered}
use Rattle.mk_column.proofs.TableLaws.{some_there}
use Rattle.std.specs.Prelude.{ℕ}
use Rattle.mk_words.specs.declared.Body.{Body}
use Rattle.mk_quorum.specs.Sizes.{members}
use Rattle.mk_model.specs.Answers.{takeover_answered}
use Rattle.mk_column.specs.TakeoversByCode.{BackupView, same_view_id, view_id_of, backup_of, change_backup, on_backup}
use Rattle.mk_lists.proofs.KeyedLists.{written-changes}
use Rattle.mk_column.proofs.TableLaws.{found-there, IsIndex-changed}
use Rattle.mk_column.proofs.takeovers.Takeovers.answer.Goals as goal

abbrev step : ℕ → Body → BackupView → BackupView
step replica body = on_backup (takeover_answered replica body)

pub place-place-requires : goal.place-place-requires
place-place-requires c = some_there (backup_of c.args.view_id c.args.self.now) _ c.requires

pub answer-requires : goal.answer-requires
answer-requires c =
    let there : backup_of c.args.view_id c.args.self.now ≡ Some c.index_mut.result.now =
    found-there same_view_id view_id_of same_view_id-tells c.args.view_id c.self.inside.items.items c.args.self.now c.place-place.result c.index_mut.result.now c.self.view_is c.index_mut.ensures.value c.place-place.ensures.found in
    subst (λ o. IsSomeAnd o (λ backup. c.args.replica < members backup.faults)) there c.requires

pub invariant_of-self : goal.invariant_of-self
invariant_of-self c =
    let f = step c.args.replica c.args.body.now in
    let items = c.self.inside.items.items in
    let set : slice_set items c.place-place.result c.answer.new.self ≡ change_backup c.args.view_id f items =
    ap (slice_set items c.place-place.result) c.answer.ensures
    ∙ written-changes same_view_id view_id_of same_view_id-tells same_view_id-itself c.args.view_id f items c.args.self.now c.place-place.result c.index_mut.result.now c.self.view_is c.index_mut.ensures.value c.place-place.ensures.changed in
    IsIndex-changed same_view_id view_id_of same_view_id-tells c.args.view_id f
    (view_id-answered c.args.replica c.args.body.now) items _ _ set c.self.invariant

pub returns : goal.returns
returns c =
    let f = step c.args.replica c.args.body.now in
    let items = c.self.inside.items.items in
    ap (slice_set items c.place-place.result) c.answer.ensures
    ∙ written-changes same_view_id view_id_of same_view_id-tells same_view_id-itself c.args.view_id f items c.args.self.now c.place-place.result c.index_mut.result.now c.self.view_is c.index_mut.ensures.value c.place-place.ensures.changed
    ∙ ap (change_backup c.args.view_id f) c.self.view_is
