use Rattle.std.specs.String.{string_bytes}
use Rattle.mk_trace_text.proofs.LinesMore.{rounds_goes}
use Rattle.mk_trace_parts.proofs.writing.put_rounds.Goals as goal

pub each-preserved : goal.each-preserved
each-preserved c =
    let clients = c.args.clients.now.names in
    let keys = c.args.keys.now.names in
    let out = string_bytes c.args.out.now in
    let old = string_bytes c.each.out in
    rounds_goes clients keys out old (string_bytes c.put_round.new.out) c.args.begun.now.items c.each.begun.items c.put_round.new.begun.items c.args.rounds.now c.each.place c.index-rounds-place.result c.index-rounds-place.result c.each-test.true c.index-rounds-place.is c.each.invariant.0 c.each.invariant.1 c.in_ok-put_round.ensures.text c.in_ok-put_round.ensures.begun
