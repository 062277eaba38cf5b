use Rattle.std.proofs.Common.{◌++◌, map, ap, ◌∙◌}
use Rattle.mk_trace_lines.specs.TraceLines.{text_of}
use Rattle.mk_trace_text.specs.Traces.{replica_lines}
use Rattle.std.specs.String.{string_bytes}
use Rattle.mk_trace_text.proofs.LinesMore.{journals_goes}
use Rattle.mk_trace_parts.proofs.writing.put_journals.Goals as goal

pub each-preserved : goal.each-preserved
each-preserved c =
    let clients = c.args.clients.now.names in
    let keys = c.args.keys.now.names in
    let out = string_bytes c.args.out.now in
    let old = string_bytes c.each.out in
    journals_goes (λ replica. map (λ key. key.items) replica.items) clients keys out old (string_bytes c.put_replica.new.out) c.args.journals.now c.each.replica c.index-journals-replica.result c.index-journals-replica.result c.each-test.true c.index-journals-replica.is c.each.invariant (c.in_ok-put_replica.ensures ∙ ap (λ l. old ++ text_of clients keys (replica_lines c.each.replica 0 (map (λ key. key.items) l))) c.as_slice.ensures.value)
