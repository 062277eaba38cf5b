use Rattle.std.proofs.Common.{◌≡◌, ◌++◌, refl, take, drop, length, arith}
use Rattle.std.proofs.lemmas.Grind.{common_steps}
use Rattle.std.specs.Prelude.{map}
use Rattle.mk_lists.proofs.Changes.{map-map_same}
use Rattle.mk_column.specs.ClientsByCode.{number_of, not_reading}
use Rattle.mk_column.proofs.TableLaws.{IsIndex-same}
use Rattle.mk_column.proofs.clients.Clients.end_reading.Goals as goal

pub invariant_of-self : goal.invariant_of-self
invariant_of-self c =
    let items = c.self.inside.items.items in
    let is : take c.self.inside.items.len (c.end_reading.new.clients ++ drop (length c.end_reading.new.clients) items) ≡ map not_reading items =
    grind (arith, common_steps) in
    rw is
    (IsIndex-same number_of items (map not_reading items) c.self.inside.numbers.keys (map-map_same number_of not_reading (λ client. refl) items) c.self.invariant)
