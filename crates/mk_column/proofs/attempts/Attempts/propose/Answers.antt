use Rattle.std.proofs.Common.{◌≡◌, Some, ap, subst, ◌∙◌, refl}
use Rattle.std.specs.Prelude.{slice_set, IsSomeAnd}
use Rattle.mk_txn.specs.Transactions.{same_id}
use Rattle.mk_txn.proofs.IdOrder.{same_id-tells, same_id-itself}
use Rattle.mk_column.proofs.TableLaws.{some_there}
use Rattle.mk_txn.specs.declared.Outcome.{Outcome}
use Rattle.mk_words.specs.declared.Ruling.TheVariants.{Propose}
use Rattle.mk_words.specs.Rulings.{ruling}
use Rattle.mk_model.specs.Steps.{proposing}
use Rattle.mk_column.specs.AttemptsByCode.{BegunView, begun_id, begun_of, on_state, change_begun}
use Rattle.mk_lists.proofs.KeyedLists.{written-changes}
use Rattle.mk_column.proofs.TableLaws.{found-there, IsIndex-changed}
use Rattle.mk_column.proofs.attempts.Attempts.propose.Goals as goal

abbrev step : Outcome → BegunView → BegunView
step outcome = on_state (proposing outcome)

pub place-place-requires : goal.place-place-requires
place-place-requires c = some_there (begun_of c.args.id c.args.self.now) _ c.requires

pub propose-requires : goal.propose-requires
propose-requires c =
    let there : begun_of c.args.id c.args.self.now ≡ Some c.index_mut.result.now =
    found-there same_id begun_id same_id-tells c.args.id c.self.inside.items.items c.args.self.now c.place-place.result c.index_mut.result.now c.self.view_is c.index_mut.ensures.value c.place-place.ensures.found in
    subst (λ o. IsSomeAnd o (λ begun. ruling begun.faults begun.state.coord ≡ Propose c.args.outcome)) there c.requires

pub invariant_of-self : goal.invariant_of-self
invariant_of-self c =
    let f = step c.args.outcome in
    let items = c.self.inside.items.items in
    let set : slice_set items c.place-place.result c.propose.new.self ≡ change_begun c.args.id f items =
    ap (slice_set items c.place-place.result) c.propose.ensures
    ∙ written-changes same_id begun_id same_id-tells same_id-itself c.args.id f items c.args.self.now c.place-place.result c.index_mut.result.now c.self.view_is c.index_mut.ensures.value c.place-place.ensures.changed in
    IsIndex-changed same_id begun_id same_id-tells c.args.id f (λ begun. refl) items _ _ set c.self.invariant

pub returns : goal.returns
returns c =
    let f = step c.args.outcome in
    let items = c.self.inside.items.items in
    ap (slice_set items c.place-place.result) c.propose.ensures
    ∙ written-changes same_id begun_id same_id-tells same_id-itself c.args.id f items c.args.self.now c.place-place.result c.index_mut.result.now c.self.view_is c.index_mut.ensures.value c.place-place.ensures.changed
    ∙ ap (change_begun c.args.id f) c.self.view_is
