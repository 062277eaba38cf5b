use Rattle.std.proofs.Common.{◌++◌, ◌∷◌, [], ℕ, List, sym, ap, ◌∙◌}
use Rattle.mk_trace_text.proofs.LinesMore.{zeros_turn}
use Rattle.mk_trace_parts.proofs.writing.no_attempts.Goals as goal

pub each-preserved : goal.each-preserved
each-preserved c =
    c.in_ok-push.ensures.items ∙ ap (λ (x : List ℕ). x ++ 0 ∷ []) c.each.invariant ∙ sym (zeros_turn c.args.columns.now c.each.index c.each-test.true)
