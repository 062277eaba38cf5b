use Rattle.std.proofs.Common.{◌∙◌, ap, sym, subst, Err, Some}
use Rattle.std.proofs.lemmas.Option.{same_Some}
use Rattle.mk_verdict.specs.declared.Verdict.TheVariants.{Legal}
use Rattle.mk_tool.specs.declared.tool.ToolDone.{ToolDone}
use Rattle.mk_tool.specs.Asking.{Asked}
use Rattle.mk_tool.specs.Checked.{IsLacking, Completes}
use Rattle.mk_tool.specs.Seen.{seen_form, seen_option}
use Rattle.mk_tool.proofs.ReadLaws.{same_why}
use Rattle.mk_tool.proofs.EndLaws.{refused-completes, verdict-told}
use Rattle.mk_tool.proofs.tool.tool_top.Goals as goal

pub returns-in-Err-clause-verdict : goal.returns-in-Err-clause-verdict
returns-in-Err-clause-verdict g c = λ verdict e.
    let t = verdict-told c.in-Err.why verdict (sym (ap (λ (d : ToolDone). d.verdict) c.refused-in-Err.ensures) ∙ e) in
    let l = c.judgement_from.ensures.no_attempt (c.in-Err.is ∙ ap Err t.0) in
    (l.run, l.tells, t.1 ∙ sym ((c.verdicts_are_exact.ensures.exact l.run).1 l.legal))

pub returns-in-Err-clause-safe : goal.returns-in-Err-clause-safe
returns-in-Err-clause-safe g c = λ e.
    let t = verdict-told c.in-Err.why Legal (sym (ap (λ (d : ToolDone). d.verdict) c.refused-in-Err.ensures) ∙ e) in
    let l = c.judgement_from.ensures.no_attempt (c.in-Err.is ∙ ap Err t.0) in
    (l.run, l.tells, l.legal, c.legal_runs_are_safe.ensures l.run l.tells.0 l.legal)

pub returns-in-Err-clause-not_too_long : goal.returns-in-Err-clause-not_too_long
returns-in-Err-clause-not_too_long g c = λ other.
    c.judgement_from.ensures.not_too_long (λ e. other (ap (λ (d : ToolDone). d.why) c.refused-in-Err.ensures ∙ ap Some (same_why _ _ _ (sym c.in-Err.is ∙ e))))

pub returns-in-Err-clause-complete : goal.returns-in-Err-clause-complete
returns-in-Err-clause-complete g c = λ asked run shape legal held within words.
    let left = g.S.Source.left c.args.source.now in
    let same = same_Some (seen_form c.in-Some.form) asked (sym (ap seen_option c.in-Some.is) ∙ c.form_of.ensures ∙ words) in
    subst (Completes asked run c.refused-in-Err.result.status) (sym (ap (λ (d : ToolDone). d.why) c.refused-in-Err.ensures))
    (refused-completes c.a_trace_gives_its_run.ensures run shape left held within asked (g.S.Source.left c.judgement_from.new.source) c.refused-in-Err.result.status c.in-Err.why
    (λ e. c.judgement_from.ensures.no_usage (c.in-Err.is ∙ ap Err e)) (λ line fault e. c.judgement_from.ensures.refused line fault (c.in-Err.is ∙ ap Err e))
    (λ e. c.judgement_from.ensures.too_long (c.in-Err.is ∙ ap Err e))
    (λ e. subst (λ (a : Asked). IsLacking a left) same (c.judgement_from.ensures.no_attempt (c.in-Err.is ∙ ap Err e))))
