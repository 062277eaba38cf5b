use Rattle.std.proofs.Common.{◌≡◌, ap, ◌∙◌}
use Rattle.std.specs.Prelude.{slice_set}
use Rattle.mk_txn.specs.Transactions.{same_id}
use Rattle.mk_txn.proofs.IdOrder.{same_id-tells, same_id-itself}
use Rattle.mk_lists.proofs.KeyedLists.{written-changes}
use Rattle.mk_run.specs.Firsts.{first_id, with_path, change_first}
use Rattle.mk_run.proofs.FirstLaws.{index-changed}
use Rattle.mk_run.proofs.firsts.FirstLearnings.name_path.Goals as goal

pub invariant_of-self : goal.invariant_of-self
invariant_of-self c =
    let f = with_path c.args.path in
    let items = c.self.inside.items.items in
    let set : slice_set items c.place-place.result c.name_path.new.self ≡ change_first c.args.id f items =
    ap (slice_set items c.place-place.result) c.name_path.ensures
    ∙ written-changes same_id first_id same_id-tells same_id-itself c.args.id f items c.args.self.now c.place-place.result c.index_mut.result.now c.self.view_is c.index_mut.ensures.value c.place-place.ensures.changed in
    index-changed c.args.id c.args.path items _ _ set c.self.invariant

pub returns : goal.returns
returns c =
    let f = with_path c.args.path in
    let items = c.self.inside.items.items in
    ap (slice_set items c.place-place.result) c.name_path.ensures
    ∙ written-changes same_id first_id same_id-tells same_id-itself c.args.id f items c.args.self.now c.place-place.result c.index_mut.result.now c.self.view_is c.index_mut.ensures.value c.place-place.ensures.changed
    ∙ ap (change_first c.args.id f) c.self.view_is
