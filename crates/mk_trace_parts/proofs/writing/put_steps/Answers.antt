use Rattle.std.specs.String.{string_bytes}
use Rattle.mk_trace_text.proofs.LinesMore.{steps_goes}
use Rattle.mk_trace_parts.proofs.writing.put_steps.Goals as goal

pub each-preserved : goal.each-preserved
each-preserved c =
    let clients = c.args.clients.now.names in
    let keys = c.args.keys.now.names in
    let out = string_bytes c.args.out.now in
    let old = string_bytes c.each.out in
    steps_goes clients keys out old (string_bytes c.put_next_step.new.out) c.args.begun.now.items c.each.begun.items c.put_next_step.new.begun.items c.args.steps.now c.each.step-index c.step-item.result c.step-item.result c.each-test.true c.step-item.is c.each.invariant.0 c.each.invariant.1 c.in_ok-put_next_step.ensures.text c.in_ok-put_next_step.ensures.begun
