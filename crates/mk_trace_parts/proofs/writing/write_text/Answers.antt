use Rattle.std.proofs.Common.{◌≡◌, List, ◌++◌, ap, ◌∙◌}
use Rattle.std.specs.String.{string_bytes}
use Rattle.mk_history.specs.declared.RoundLog.{RoundLog}
use Rattle.mk_trace_lines.specs.TraceLines.{text_of}
use Rattle.mk_trace_text.specs.Traces.{rounds_lines}
use Rattle.mk_trace_parts.proofs.Written.{written}
use Rattle.mk_trace_parts.proofs.writing.write_text.Goals as goal

pub returns : goal.returns
returns c =
    let head = c.head-head.result.now in
    let run = c.args.run.now in
    let begun = c.in_ok-begun.begun.items in
    let before = string_bytes c.put_keys.new.out in
    let bytes : c.into_bytes.result.items ≡ string_bytes c.writeln.new.self = ap (λ v. v.items) c.into_bytes.ensures.value in
    let rounds : string_bytes c.put_rounds.new.out ≡ before ++ text_of head.client_names.names head.key_names.names (rounds_lines begun 0 run.rounds) =
    c.in_ok-put_rounds.ensures ∙ ap (λ (rs : List RoundLog). before ++ text_of head.client_names.names head.key_names.names (rounds_lines begun 0 rs)) c.rounds.ensures in
    record {
      text =
          bytes
          ∙ written run head begun c.as_slice-columns.result.now (string_bytes c.new-out.result) (string_bytes c.put_opening.new.out) (string_bytes c.put_clients.new.out) before (string_bytes c.put_rounds.new.out) (string_bytes c.writeln.new.self) c.head-head.ensures.parts c.new-out.ensures.bytes c.in_ok-put_opening.ensures c.in_ok-put_clients.ensures c.in_ok-put_keys.ensures rounds c.in_ok-writeln.ensures.bytes c.as_slice-columns.ensures c.in_ok-begun.ensures;
      shape = c.head-head.ensures.shape;
    }
