use Rattle.std.proofs.Common.{◌≡◌, false, Some, sym, ap, ◌∙◌, refl}
use Rattle.std.proofs.lemmas.Option.{same_Some}
use Rattle.std.specs.Prelude.{slice_set}
use Rattle.mk_txn.specs.Transactions.{same_id}
use Rattle.mk_txn.proofs.IdOrder.{same_id-tells, same_id-itself}
use Rattle.mk_txn.specs.Transactions.{Transaction}
use Rattle.mk_column.specs.AttemptsByCode.{BegunView, begun_id, on_state, begun_of, change_begun}
use Rattle.mk_lists.proofs.KeyedLists.{written-changes}
use Rattle.mk_column.proofs.TableLaws.{written-as, found-there, IsIndex-changed}
use Rattle.mk_column.proofs.attempts.Attempts.stamp.Goals as goal

abbrev step : Transaction → BegunView → BegunView
step txn = on_state (λ a. record a { reading = false; txn = Some txn })

pub invariant_of-self : goal.invariant_of-self
invariant_of-self c =
    let f = step c.args.txn in
    let items = c.self.inside.items.items in
    let set : slice_set items c.place-place.result c.stamp.new.self ≡ change_begun c.args.id f items =
    ap (slice_set items c.place-place.result) c.stamp.ensures
    ∙ written-changes same_id begun_id same_id-tells same_id-itself c.args.id f items c.args.self.now c.place-place.result c.index_mut.result.now c.self.view_is c.index_mut.ensures.value c.place-place.ensures.changed in
    IsIndex-changed same_id begun_id same_id-tells c.args.id f (λ begun. refl) items _ _ set c.self.invariant

pub returns-clause-changed : goal.returns-clause-changed
returns-clause-changed c =
    let f = step c.args.txn in
    let items = c.self.inside.items.items in
    ap (slice_set items c.place-place.result) c.stamp.ensures
    ∙ written-changes same_id begun_id same_id-tells same_id-itself c.args.id f items c.args.self.now c.place-place.result c.index_mut.result.now c.self.view_is c.index_mut.ensures.value c.place-place.ensures.changed
    ∙ ap (change_begun c.args.id f) c.self.view_is

pub returns-clause-as_found : goal.returns-clause-as_found
returns-clause-as_found c = λ f before found becomes.
    let item = c.index_mut.result.now in
    let there : begun_of c.args.id c.args.self.now ≡ Some item =
    found-there same_id begun_id same_id-tells c.args.id c.self.inside.items.items c.args.self.now c.place-place.result item c.self.view_is c.index_mut.ensures.value c.place-place.ensures.found in
    let same : before ≡ item = same_Some before item (sym found ∙ there) in
    written-as same_id begun_id same_id-tells c.args.id f c.self.inside.items.items c.args.self.now c.place-place.result c.stamp.new.self before c.self.view_is found
    (becomes ∙ ap (step c.args.txn) same ∙ sym c.stamp.ensures) c.place-place.ensures.found c.place-place.ensures.changed
