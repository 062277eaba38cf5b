use Rattle.std.proofs.Common.{◌≡◌, Some, ap, subst, ◌∙◌, refl}
use Rattle.std.specs.Prelude.{slice_set, IsSomeAnd}
use Rattle.mk_column.proofs.ViewIds.{same_view_id-tells, same_view_id-itself}
use Rattle.mk_column.proofs.TableLaws.{some_there}
use Rattle.mk_txn.specs.declared.Outcome.{Outcome}
use Rattle.mk_words.specs.declared.Pick.TheVariants.{Propose}
use Rattle.mk_words.specs.Picks.{pick}
use Rattle.mk_model.specs.Steps.{takeover_proposing}
use Rattle.mk_column.specs.TakeoversByCode.{BackupView, same_view_id, view_id_of, backup_of, change_backup, on_backup}
use Rattle.mk_lists.proofs.KeyedLists.{written-changes}
use Rattle.mk_column.proofs.TableLaws.{found-there, IsIndex-changed}
use Rattle.mk_column.proofs.takeovers.Takeovers.propose.Goals as goal

abbrev step : Outcome → BackupView → BackupView
step outcome = on_backup (takeover_proposing outcome)

pub place-place-requires : goal.place-place-requires
place-place-requires c = some_there (backup_of c.args.view_id c.args.self.now) _ c.requires

pub propose-requires : goal.propose-requires
propose-requires c =
    let there : backup_of c.args.view_id c.args.self.now ≡ Some c.index_mut.result.now =
    found-there same_view_id view_id_of same_view_id-tells c.args.view_id c.self.inside.items.items c.args.self.now c.place-place.result c.index_mut.result.now c.self.view_is c.index_mut.ensures.value c.place-place.ensures.found in
    subst (λ o. IsSomeAnd o (λ backup. pick backup.faults backup.of.state ≡ Propose c.args.outcome)) there c.requires

pub invariant_of-self : goal.invariant_of-self
invariant_of-self c =
    let f = step c.args.outcome in
    let items = c.self.inside.items.items in
    let set : slice_set items c.place-place.result c.propose.new.self ≡ change_backup c.args.view_id f items =
    ap (slice_set items c.place-place.result) c.propose.ensures
    ∙ written-changes same_view_id view_id_of same_view_id-tells same_view_id-itself c.args.view_id f items c.args.self.now c.place-place.result c.index_mut.result.now c.self.view_is c.index_mut.ensures.value c.place-place.ensures.changed in
    IsIndex-changed same_view_id view_id_of same_view_id-tells c.args.view_id f
    (λ backup. refl) items _ _ set c.self.invariant

pub returns : goal.returns
returns c =
    let f = step c.args.outcome in
    let items = c.self.inside.items.items in
    ap (slice_set items c.place-place.result) c.propose.ensures
    ∙ written-changes same_view_id view_id_of same_view_id-tells same_view_id-itself c.args.view_id f items c.args.self.now c.place-place.result c.index_mut.result.now c.self.view_is c.index_mut.ensures.value c.place-place.ensures.changed
    ∙ ap (change_backup c.args.view_id f) c.self.view_is
