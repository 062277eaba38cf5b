use Rattle.std.proofs.Common.{◌≡◌, ◌<◌, ℕ, List, Some, length, sym, ap, ◌∙◌, arith}
use Rattle.std.proofs.lemmas.List.{length-map}
use Rattle.mk_spelling.specs.Fields.{place}
use Rattle.mk_script.specs.Scripts.{name_of}
use Rattle.mk_spelling.proofs.PlaceLaws.{place_below}
use Rattle.mk_script.proofs.reader.Reader.client_number.Goals as goal

pub overflow_add-result : goal.overflow_add-result
overflow_add-result c =
    let names = c.self.inside.names.names in
    let word = c.name_text.result.now in
    let here : place word names ≡ Some c.in-Some.place = sym c.find.ensures.number ∙ c.in-Some.is in
    let below : c.in-Some.place < length names = place_below word names c.in-Some.place here in
    let many : length names ≡ length c.self.inside.clients.items =
    ap (λ (x : List (List ℕ)). length x) c.self.invariant.0.named ∙ length-map c.self.inside.clients.items name_of in
    let few = c.self.invariant.0.few_clients in
    omega (arith, below, many, few)
