use Rattle.std.proofs.Common.{◌≡◌, Some, None, sym, ap, ◌∙◌, rules}
use Rattle.std.specs.Prelude.{option_copied, slice_get}
use Rattle.std.specs.List.{position}
use Rattle.mk_txn.specs.Transactions.{same_id}
use Rattle.mk_txn.proofs.IdOrder.{same_id-tells, same_id-itself}
use Rattle.mk_run.specs.Firsts.{first_id, first_in}
use Rattle.mk_lists.proofs.KeyedLists.{got-at, place_finds, place_missing}
use Rattle.mk_run.proofs.firsts.FirstLearnings.find.Goals as goal

pub returns-in_err-place : goal.returns-in_err-place
returns-in_err-place c =
    let none : position (same_id c.args.id) c.self.inside.ids.keys ≡ None = sym c.get_index_of.ensures.index ∙ c.in_err-place.was in
    let left : option_copied c.from_residual.result ≡ None = search rules in
    left
    ∙ sym (place_missing same_id first_id same_id-tells same_id-itself c.args.id c.self.inside.items.items c.self.inside.ids.keys c.self.invariant none)
    ∙ ap (first_in c.args.id) c.self.view_is

pub returns : goal.returns
returns c =
    let place = c.in_ok-place.place in
    let at : position (same_id c.args.id) c.self.inside.ids.keys ≡ Some place = sym c.get_index_of.ensures.index ∙ c.in_ok-place.was in
    let read : option_copied c.get.result ≡ slice_get c.self.inside.items.items place =
    got-at c.deref.result.now place c.get.result c.get.ensures.lookup ∙ ap (λ all. slice_get all place) c.deref.ensures.value in
    read
    ∙ place_finds same_id first_id same_id-tells same_id-itself c.args.id c.self.inside.items.items c.self.inside.ids.keys place c.self.invariant at
    ∙ ap (first_in c.args.id) c.self.view_is
