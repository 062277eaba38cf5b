use Rattle.std.proofs.Common.{rules, ◌≡◌, ◌++◌, ◌∷◌, [], Some, true, ap, subst, ◌∙◌, refl}
use Rattle.std.specs.Prelude.{slice_set, IsSomeAnd}
use Rattle.mk_txn.specs.Transactions.{same_id}
use Rattle.mk_txn.proofs.IdOrder.{same_id-tells, same_id-itself}
use Rattle.mk_txn.specs.declared.ReadItem.{ReadItem}
use Rattle.mk_model.specs.Conditions.{may_read}
use Rattle.mk_column.specs.AttemptsByCode.{BegunView, begun_id, begun_of, on_state, change_begun}
use Rattle.mk_lists.proofs.KeyedLists.{written-changes}
use Rattle.mk_column.proofs.TableLaws.{some_there, written-same, found-there, IsIndex-changed}
use Rattle.mk_column.proofs.attempts.Attempts.read.Goals as goal

abbrev step : ReadItem → BegunView → BegunView
step item = on_state (λ a. record a { reads = a.reads ++ item ∷ [] })

pub place-place-requires : goal.place-place-requires
place-place-requires c = some_there (begun_of c.args.id c.args.self.now) _ c.requires

pub read-requires : goal.read-requires
read-requires c =
    let there : begun_of c.args.id c.args.self.now ≡ Some c.index_mut.result.now =
    found-there same_id begun_id same_id-tells c.args.id c.self.inside.items.items c.args.self.now c.place-place.result c.index_mut.result.now c.self.view_is c.index_mut.ensures.value c.place-place.ensures.found in
    subst (λ o. IsSomeAnd o (λ (begun : BegunView). may_read c.args.item.key begun.state ≡ true)) there c.requires

pub invariant_of-self-2 : goal.invariant_of-self-2
invariant_of-self-2 c =
    let f = step c.args.item in
    let items = c.self.inside.items.items in
    let set : slice_set items c.place-place.result c.read.new.self ≡ change_begun c.args.id f items =
    ap (slice_set items c.place-place.result) c.in_ok-read.ensures.ok
    ∙ written-changes same_id begun_id same_id-tells same_id-itself c.args.id f items c.args.self.now c.place-place.result c.index_mut.result.now c.self.view_is c.index_mut.ensures.value c.place-place.ensures.changed in
    IsIndex-changed same_id begun_id same_id-tells c.args.id f (λ begun. refl) items _ _ set c.self.invariant

pub returns-clause-ok : goal.returns-clause-ok
returns-clause-ok c =
    let f = step c.args.item in
    let items = c.self.inside.items.items in
    ap (slice_set items c.place-place.result) c.in_ok-read.ensures.ok
    ∙ written-changes same_id begun_id same_id-tells same_id-itself c.args.id f items c.args.self.now c.place-place.result c.index_mut.result.now c.self.view_is c.index_mut.ensures.value c.place-place.ensures.changed
    ∙ ap (change_begun c.args.id f) c.self.view_is

pub invariant_of-self : goal.invariant_of-self
invariant_of-self c =
    let same : slice_set c.self.inside.items.items c.place-place.result c.read.new.self ≡ c.self.inside.items.items =
    written-same c.self.inside.items.items c.place-place.result c.index_mut.result.now c.read.new.self c.in_err-read.ensures.err c.index_mut.ensures.value in
    rw same c.self.invariant

pub returns-in_err-read-clause-err : goal.returns-in_err-read-clause-err
returns-in_err-read-clause-err c =
    let same : slice_set c.self.inside.items.items c.place-place.result c.read.new.self ≡ c.args.self.now =
    written-same c.self.inside.items.items c.place-place.result c.index_mut.result.now c.read.new.self c.in_err-read.ensures.err c.index_mut.ensures.value
    ∙ c.self.view_is in
    search rules
