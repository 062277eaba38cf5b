use Rattle.std.proofs.Common.{◌≡◌, ◌++◌, refl, take, drop, length, arith}
use Rattle.std.proofs.lemmas.Grind.{common_steps}
use Rattle.std.specs.Prelude.{map}
use Rattle.mk_lists.proofs.Changes.{map-map_same}
use Rattle.mk_column.specs.AttemptsByCode.{begun_id}
use Rattle.mk_column.proofs.TableLaws.{IsIndex-same}
use Rattle.mk_column.proofs.RoundLaws.{quiet}
use Rattle.mk_column.proofs.attempts.Attempts.end_reading.Goals as goal

pub invariant_of-self : goal.invariant_of-self
invariant_of-self c =
    let items = c.self.inside.items.items in
    let is : take c.self.inside.items.len (c.end_reading.new.attempts ++ drop (length c.end_reading.new.attempts) items) ≡ map quiet items =
    grind (arith, common_steps) in
    rw is (IsIndex-same begun_id items (map quiet items) c.self.inside.ids.keys (map-map_same begun_id quiet (λ begun. refl) items) c.self.invariant)
