use Rattle.std.proofs.Common.{List, ◌++◌, ap, ◌∙◌}
use Rattle.mk_words.specs.declared.Step.{Step}
use Rattle.mk_trace_lines.specs.TraceLines.{text_of}
use Rattle.mk_trace_text.specs.Begun.{begun_through}
use Rattle.mk_trace_text.specs.Traces.{log_lines}
use Rattle.std.specs.String.{string_bytes}
use Rattle.mk_trace_text.proofs.LinesMore.{logs_goes}
use Rattle.mk_trace_parts.proofs.writing.put_logs.Goals as goal

pub each-preserved : goal.each-preserved
each-preserved c =
    let clients = c.args.clients.now.names in
    let keys = c.args.keys.now.names in
    let out = string_bytes c.args.out.now in
    let old = string_bytes c.each.out in
    logs_goes (λ log. log.items) clients keys out old (string_bytes c.put_log.new.out) c.args.begun.now.items c.each.begun.items c.put_log.new.begun.items c.args.logs.now c.each.column c.index-logs-column.result c.index-logs-column.result c.each-test.true c.index-logs-column.is c.each.invariant.0 c.each.invariant.1 (c.in_ok-put_log.ensures.text ∙ ap (λ (l : List Step). old ++ text_of clients keys (log_lines c.each.begun.items c.each.column l)) c.as_slice.ensures.value) (c.in_ok-put_log.ensures.begun ∙ ap (begun_through c.each.begun.items) c.as_slice.ensures.value)
