use Rattle.std.proofs.Common.{◌≡◌, ℕ, List, ◌+◌, ◌<◌, ◌++◌, length, map, take, ap, ◌∙◌, arith}
use Rattle.std.specs.String.{string_bytes}
use Rattle.mk_trace_lines.specs.TraceLines.{key_name, line_text}
use Rattle.mk_trace_lines.specs.TraceLines.TraceLine.{Names}
use Rattle.mk_trace_text.specs.Traces.{key_line}
use Rattle.mk_trace_text.proofs.LinesMore.{grown_line, keys_turn}
use Rattle.mk_trace_parts.proofs.writing.put_keys.Goals as goal

pub each-preserved : goal.each-preserved
each-preserved c =
    let clients = c.args.clients.now.names in
    let keys = c.args.keys.now.names in
    let out = string_bytes c.args.out.now in
    let old = string_bytes c.each.out in
    let i = c.each.number in
    let within : i < length keys = omega (arith, c.each-test.true, c.len-number-end.ensures.count) in
    let line : string_bytes c.writeln.new.self ≡ old ++ line_text clients keys (Names (key_name keys i)) =
    c.in_ok-writeln.ensures.bytes ∙ ap (λ (x : List ℕ). old ++ line_text clients keys (Names x)) c.key_name-name.ensures in
    grown_line clients keys out old (string_bytes c.writeln.new.self) (map key_line (take i keys)) (map key_line (take (i + 1) keys)) (Names (key_name keys i)) c.each.invariant line (keys_turn keys i within)
