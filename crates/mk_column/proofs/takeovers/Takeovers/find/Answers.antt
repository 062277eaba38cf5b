use Rattle.std.proofs.Common.{◌≡◌, Some, None, sym, ap, ◌∙◌, rules}
use Rattle.std.specs.Prelude.{option_copied, slice_get}
use Rattle.std.specs.List.{position}
use Rattle.mk_column.proofs.ViewIds.{same_view_id-tells, same_view_id-itself}
use Rattle.mk_column.specs.TakeoversByCode.{same_view_id, view_id_of, backup_of}
use Rattle.mk_lists.proofs.KeyedLists.{got-at, place_finds, place_missing}
use Rattle.mk_column.proofs.takeovers.Takeovers.find.Goals as goal

pub returns-in_err-place : goal.returns-in_err-place
returns-in_err-place c =
    let none : position (same_view_id c.args.view_id) c.self.inside.ids.keys ≡ None = sym c.get_index_of.ensures.index ∙ c.in_err-place.was in
    let left : option_copied c.from_residual.result ≡ None = search rules in
    left
    ∙ sym (place_missing same_view_id view_id_of same_view_id-tells same_view_id-itself c.args.view_id c.self.inside.items.items c.self.inside.ids.keys c.self.invariant none)
    ∙ ap (backup_of c.args.view_id) c.self.view_is

pub returns : goal.returns
returns c =
    let place = c.in_ok-place.place in
    let at : position (same_view_id c.args.view_id) c.self.inside.ids.keys ≡ Some place = sym c.get_index_of.ensures.index ∙ c.in_ok-place.was in
    let read : option_copied c.get.result ≡ slice_get c.self.inside.items.items place =
    got-at c.deref.result.now place c.get.result c.get.ensures.lookup ∙ ap (λ all. slice_get all place) c.deref.ensures.value in
    read
    ∙ place_finds same_view_id view_id_of same_view_id-tells same_view_id-itself c.args.view_id c.self.inside.items.items c.self.inside.ids.keys place c.self.invariant at
    ∙ ap (backup_of c.args.view_id) c.self.view_is
