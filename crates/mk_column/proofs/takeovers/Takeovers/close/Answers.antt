use Rattle.std.proofs.Common.{◌≡◌, ap, ◌∙◌, refl}
use Rattle.std.specs.Prelude.{slice_set}
use Rattle.mk_column.proofs.ViewIds.{same_view_id-tells, same_view_id-itself}
use Rattle.mk_column.specs.TakeoversByCode.{BackupView, same_view_id, view_id_of, change_backup, on_backup}
use Rattle.mk_model.specs.Steps.{closing}
use Rattle.mk_lists.proofs.KeyedLists.{written-changes}
use Rattle.mk_column.proofs.TableLaws.{IsIndex-changed}
use Rattle.mk_column.proofs.takeovers.Takeovers.close.Goals as goal

abbrev step : BackupView → BackupView
step = on_backup closing

pub invariant_of-self : goal.invariant_of-self
invariant_of-self c =
    let f = step in
    let items = c.self.inside.items.items in
    let set : slice_set items c.place-place.result c.close.new.self ≡ change_backup c.args.view_id f items =
    ap (slice_set items c.place-place.result) c.close.ensures
    ∙ written-changes same_view_id view_id_of same_view_id-tells same_view_id-itself c.args.view_id f items c.args.self.now c.place-place.result c.index_mut.result.now c.self.view_is c.index_mut.ensures.value c.place-place.ensures.changed in
    IsIndex-changed same_view_id view_id_of same_view_id-tells c.args.view_id f
    (λ backup. refl) items _ _ set c.self.invariant

pub returns : goal.returns
returns c =
    let f = step in
    let items = c.self.inside.items.items in
    ap (slice_set items c.place-place.result) c.close.ensures
    ∙ written-changes same_view_id view_id_of same_view_id-tells same_view_id-itself c.args.view_id f items c.args.self.now c.place-place.result c.index_mut.result.now c.self.view_is c.index_mut.ensures.value c.place-place.ensures.changed
    ∙ ap (change_backup c.args.view_id f) c.self.view_is
