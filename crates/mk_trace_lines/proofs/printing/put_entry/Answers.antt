use Rattle.std.proofs.Common.{◌≡◌, ◌++◌, ℕ, ap, ◌∙◌}
use Rattle.std.specs.Fmt.{decimal}
use Rattle.std.specs.String.{string_bytes}
use Rattle.mk_trace_lines.specs.TraceLines.{turn_words}
use Rattle.mk_trace_lines.proofs.Spaced.{entry_bytes}
use Rattle.mk_trace_lines.proofs.printing.put_entry.Goals as goal

pub returns : goal.returns
returns c =
    let entry = c.args.entry in
    let out = string_bytes c.args.out.now in
    let seat : string_bytes c.put_number.new.out ≡ out ++ decimal entry.seat = c.in_ok-put_number.ensures ∙ ap (λ (n : ℕ). out ++ decimal n) c.from.ensures in
    entry_bytes out (decimal entry.seat) (turn_words entry.act entry.answer) (string_bytes c.put_number.new.out) (string_bytes c.put_turn.new.out) (string_bytes c.push_str.new.self) seat c.in_ok-put_turn.ensures c.in_ok-push_str.ensures.bytes
