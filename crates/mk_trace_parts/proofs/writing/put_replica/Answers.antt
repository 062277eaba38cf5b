use Rattle.std.proofs.Common.{List, ◌++◌, ap, ◌∙◌}
use Rattle.mk_words.specs.declared.JournalEntry.{JournalEntry}
use Rattle.mk_trace_lines.specs.TraceLines.{text_of}
use Rattle.mk_trace_text.specs.Traces.{journal_lines}
use Rattle.std.specs.String.{string_bytes}
use Rattle.mk_trace_text.proofs.LinesMore.{replica_goes}
use Rattle.mk_trace_parts.proofs.writing.put_replica.Goals as goal

pub each-preserved : goal.each-preserved
each-preserved c =
    let clients = c.args.clients.now.names in
    let keys = c.args.keys.now.names in
    let out = string_bytes c.args.out.now in
    let old = string_bytes c.each.out in
    replica_goes (λ key. key.items) clients keys out old (string_bytes c.put_journal.new.out) c.args.replica c.args.journals.now c.each.key c.index-journals-key.result c.index-journals-key.result c.each-test.true c.index-journals-key.is c.each.invariant (c.in_ok-put_journal.ensures ∙ ap (λ (l : List JournalEntry). old ++ text_of clients keys (journal_lines c.args.replica c.each.key l)) c.as_slice.ensures.value)
