use Rattle.std.proofs.Common.{◌≡◌, ◌++◌, ℕ, List, sym, ap, subst, ◌∙◌}
use Rattle.std.specs.Prelude.{OnOk}
use Rattle.std.specs.String.{string_bytes}
use Rattle.mk_txn.specs.declared.WriteItem.{WriteItem}
use Rattle.mk_words.specs.declared.Step.{Step}
use Rattle.mk_trace_lines.specs.TraceLines.{ended, spelling, turn_text, stamped_text}
use Rattle.mk_trace_lines.specs.TraceLines.TraceLine.{Logged}
use Rattle.mk_trace_lines.proofs.Spaced.{turn_spelled, stamp_spelled}
use Rattle.mk_trace_lines.proofs.printing.put_step.Goals as goal

pub returns-in-Stamp : goal.returns-in-Stamp
returns-in-Stamp c =
    let clients = c.args.clients.now.names in
    let keys = c.args.keys.now.names in
    let step = c.in-Stamp in
    let same : spelling clients keys (Logged c.args.seq c.args.step.now) ≡ stamped_text clients keys step.id step.clock c.as_slice.result.now =
    ap (λ (s : Step). spelling clients keys (Logged c.args.seq s)) step.is ∙ stamp_spelled clients keys c.args.seq step.id step.clock step.writes
    ∙ ap (λ (ws : List WriteItem). stamped_text clients keys step.id step.clock ws) (sym c.as_slice.ensures) in
    subst (λ (t : List ℕ). OnOk c.put_stamp_step.result (string_bytes c.put_stamp_step.new.out ≡ string_bytes c.args.out.now ++ ended t)) (sym same) c.put_stamp_step.ensures

pub returns-in-Key : goal.returns-in-Key
returns-in-Key c =
    let clients = c.args.clients.now.names in
    let keys = c.args.keys.now.names in
    let step = c.in-Key in
    let same : spelling clients keys (Logged c.args.seq c.args.step.now) ≡ turn_text keys step.call step.answer =
    ap (λ (s : Step). spelling clients keys (Logged c.args.seq s)) step.is ∙ turn_spelled clients keys c.args.seq step.call step.answer in
    subst (λ (t : List ℕ). OnOk c.put_turn_step.result (string_bytes c.put_turn_step.new.out ≡ string_bytes c.args.out.now ++ ended t)) (sym same) c.put_turn_step.ensures
