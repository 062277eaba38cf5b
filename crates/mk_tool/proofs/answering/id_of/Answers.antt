use Rattle.std.proofs.Common.{ap, sym, length, arith}
use Rattle.mk_spelling.proofs.PlaceLaws.{place_below}
use Rattle.mk_tool.proofs.answering.id_of.Goals as goal

pub overflow_add-result : goal.overflow_add-result
overflow_add-result c =
    let below = place_below c.args.client.now c.head.result.now.client_names.names c.in_ok-place.place (sym c.in_ok-place.ensures.number) in
    let count = ap (λ r. length r.client_names) c.head.ensures.parts in
    let few = c.head.ensures.shape.few_clients in
    omega (arith, below, count, few)
