use Rattle.std.proofs.Common.{◌≡◌, Some, None, refl}
use Rattle.std.specs.Prelude.{Option, IsSomeAnd, slice_set}
use Rattle.mk_column.specs.declared.clients.Client.{Client}
use Rattle.mk_column.specs.ClientsByCode.{number_of, same_number, kept_client, change_kept}
use Rattle.mk_column.proofs.Numbers.{same_number-tells}
use Rattle.mk_column.proofs.TableLaws.{written-as, IsIndex-put}
use Rattle.mk_column.proofs.clients.Clients.put.Goals as goal

pub returns : goal.returns
returns c = λ f there. by_found f (kept_client c.args.client.number c.args.self.now) refl there
  where
    by_found : (f : Client → Client) (o : Option Client) → kept_client c.args.client.number c.args.self.now ≡ o
        → IsSomeAnd o (λ before. f before ≡ c.args.client)
        → slice_set c.self.inside.items.items c.place-place.result c.args.client ≡ change_kept c.args.client.number f c.args.self.now
    by_found f None e h = absurd h
    by_found f (Some before) e h =
        written-as same_number number_of same_number-tells c.args.client.number f c.self.inside.items.items c.args.self.now c.place-place.result c.args.client before c.self.view_is e h c.place-place.ensures.found c.place-place.ensures.changed

pub invariant_of-self : goal.invariant_of-self
invariant_of-self c =
    IsIndex-put same_number number_of same_number-tells c.args.client.number c.self.inside.items.items c.args.self.now c.place-place.result c.args.client c.self.inside.numbers.keys c.self.view_is refl c.place-place.ensures.found c.self.invariant
