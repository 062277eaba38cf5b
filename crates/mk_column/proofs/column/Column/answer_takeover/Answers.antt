use Rattle.std.proofs.Common.{rules, ◌≡◌, false, sym, ap, ◌∙◌}
use Rattle.mk_column.proofs.TakeoverLaws.{unheard-state}
use Rattle.mk_column.proofs.column.Column.answer_takeover.Goals as goal

pub returns-then-not-is_heard_at-clause-ok : goal.returns-then-not-is_heard_at-clause-ok
returns-then-not-is_heard_at-clause-ok c =
    let old = c.args.self.now in
    let off : c.is_heard_at.result ≡ false = search rules in
    ap (λ state. record old { state = state })
    (unheard-state old.setting old.state c.args.msg.now c.requires.view c.requires.goes (sym c.is_heard_at.ensures ∙ off))
