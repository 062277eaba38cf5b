use Rattle.std.proofs.Common.{◌≡◌, Some, None, sym, ap, ◌∙◌, rules}
use Rattle.std.specs.Prelude.{option_copied, slice_get}
use Rattle.std.specs.List.{position}
use Rattle.mk_column.proofs.Numbers.{same_number-tells, same_number-itself}
use Rattle.mk_column.specs.ClientsByCode.{number_of, same_number, kept_client}
use Rattle.mk_lists.proofs.KeyedLists.{got-at, place_finds, place_missing}
use Rattle.mk_column.proofs.clients.Clients.find.Goals as goal

pub returns-in_err-place : goal.returns-in_err-place
returns-in_err-place c =
    let none : position (same_number c.args.number) c.self.inside.numbers.keys ≡ None = sym c.get_index_of.ensures.index ∙ c.in_err-place.was in
    let left : option_copied c.from_residual.result ≡ None = search rules in
    left
    ∙ sym (place_missing same_number number_of same_number-tells same_number-itself c.args.number c.self.inside.items.items c.self.inside.numbers.keys c.self.invariant none)
    ∙ ap (kept_client c.args.number) c.self.view_is

pub returns : goal.returns
returns c =
    let place = c.in_ok-place.place in
    let at : position (same_number c.args.number) c.self.inside.numbers.keys ≡ Some place = sym c.get_index_of.ensures.index ∙ c.in_ok-place.was in
    let read : option_copied c.get.result ≡ slice_get c.self.inside.items.items place =
    got-at c.deref.result.now place c.get.result c.get.ensures.lookup ∙ ap (λ all. slice_get all place) c.deref.ensures.value in
    read
    ∙ place_finds same_number number_of same_number-tells same_number-itself c.args.number c.self.inside.items.items c.self.inside.numbers.keys place c.self.invariant at
    ∙ ap (kept_client c.args.number) c.self.view_is
