use Rattle.std.proofs.Common.{◌≡◌, ◌<◌, Some, length, sym, ◌∙◌, arith}
use Rattle.mk_spelling.specs.Fields.{place}
use Rattle.mk_spelling.proofs.PlaceLaws.{place_below}
use Rattle.mk_trace.proofs.reader.Reader.attempt.Goals as goal

pub overflow_add-result : goal.overflow_add-result
overflow_add-result c =
    let names = c.self.inside.head.client_names.names in
    let word = c.name_text.result.now in
    let here : place word names ≡ Some c.in-Some.place = sym c.find.ensures.number ∙ c.in-Some.is in
    let below : c.in-Some.place < length names = place_below word names c.in-Some.place here in
    let few = c.self.invariant.few_clients in
    omega (arith, below, few)
