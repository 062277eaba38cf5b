use Rattle.std.proofs.Common.{get_or, refl}
use Rattle.std.specs.String.{string_bytes}
use Rattle.mk_trace_text.proofs.LinesMore.{clients_goes}
use Rattle.mk_trace_parts.proofs.writing.put_clients.Goals as goal

pub each-preserved : goal.each-preserved
each-preserved c =
    let clients = c.args.clients.now.names in
    let keys = c.args.keys.now.names in
    let out = string_bytes c.args.out.now in
    let old = string_bytes c.each.out in
    clients_goes clients keys out old (string_bytes c.put_client.new.out) c.args.columns.now c.each.place 0 (get_or c.args.columns.now c.each.place 0) c.each-test.true refl c.each.invariant c.in_ok-put_client.ensures
